use Rattle.std.proofs.Common.{◌<◌, length, arith, sym, refl, ◌∙◌}
use Rattle.std.proofs.lemmas.Bool.{false≢true}
use Rattle.cstn_rules.specs.declared.entries.Entry.{Entry}
use Rattle.cstn_log.proofs.KeptLemmas.{entry_with}
use Rattle.cstn_check.proofs.PlanLemmas.{listed_with, listed_without}
use Rattle.cstn_check.proofs.plans.live_bounds.Goals.{then-live, else-live}
use Rattle.cstn_check.proofs.plans.live_bounds.Goals as goal

pub loop-k-preserved : goal.loop-k-preserved
loop-k-preserved c = elim c.if-live.branch [
  | then-live w ↦
      let e : Entry = record { bound = w.bound.result; why = w.bound.ensures.bound.entry.why } in
      let pushed = rw w.unwrap.ensures at w.push.ensures.items in
      record {
        end = c.loop-k.invariant.end;
        room = rw w.bounds-is (omega (arith, c.loop-k.invariant.room, w.push.ensures.lower_bound));
        listed = rw w.bounds-is (listed_with c.args.log.now.entries c.loop-k.bounds.items w.push.new.self.items c.loop-k.k
            e (entry_with c.args.log.now.entries c.loop-k.k w.bound.result w.bound.ensures.bound) (c.live.ensures.live.0 w.if-live.true) pushed c.loop-k.invariant.listed);
      }
  | else-live w ↦
      let inside : c.loop-k.k < length c.args.log.now.entries = omega (arith, c.loop-k-test.true, c.loop-k.invariant.end) in
      record {
        end = c.loop-k.invariant.end;
        room = rw w.bounds-is c.loop-k.invariant.room;
        listed = rw w.bounds-is (listed_without c.args.log.now.entries c.loop-k.bounds.items c.loop-k.bounds.items c.loop-k.k
            inside (λ live. false≢true (sym w.if-live.false ∙ c.live.ensures.live.1 live)) refl c.loop-k.invariant.listed);
      }
]
