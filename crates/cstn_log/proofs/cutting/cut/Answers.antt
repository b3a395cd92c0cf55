use Rattle.std.proofs.Common.{suc, ◌≡◌, ◌+◌, ◌∷◌, [], Some, length, take, arith, ◌∙◌, ap, length-append}
use Rattle.std.specs.Prelude.{slice_get}
use Rattle.cstn_label.specs.declared.bounds.Bound.{Bound as DeclaredBound}
use Rattle.cstn_label.specs.Read.{the_bound}
use Rattle.cstn_rules.specs.declared.entries.Why.{Why}
use Rattle.cstn_rules.specs.Derivations.{Entry as TheEntry}
use Rattle.cstn_rules.specs.Read.{the_entry}
use Rattle.cstn_log.specs.Cuts.{rank, moved_premises}
use Rattle.cstn_log.proofs.ChoiceLemmas.{rank_marked, rank_unmarked, rank_grows}
use Rattle.cstn_facts.proofs.Places.{get_front}
use Rattle.cstn_log.proofs.MarkLemmas.{below_more}
use Rattle.cstn_log.proofs.StepLemmas.{ranks_step, placed_renumbered, cut_step_marked, cut_step_unmarked}
use Rattle.cstn_log.proofs.cutting.cut.Goals.{then-marks-k, else-marks-k}
use Rattle.cstn_log.proofs.cutting.cut.Goals as goal

abbrev of_rule : DeclaredBound → Why → TheEntry
of_rule b w = record { bound = the_bound b; why = w }

pub placed-requires : goal.placed-requires
placed-requires c =
    let pushed = rw c.unwrap.ensures at c.push.ensures.items in
    below_more c.entry.result.why c.loop-k.k (length c.deref.result.now) c.entry.ensures.premises (omega (arith, ap length c.deref.ensures.value, ap length pushed, length-append c.loop-k.places.items (c.len.result ∷ []), c.loop-k.invariant.ranks.0))

pub unwrap-requires-then-marks-k : goal.unwrap-requires-then-marks-k
unwrap-requires-then-marks-k c =
    let marks = c.args.marks.now in
    let up = rank_marked marks c.loop-k.k c.if-marks-k.true in
    let grows = rank_grows marks (suc c.loop-k.k) (length marks) (omega (arith, c.loop-k-test.true)) in
    c.push-then-marks-k.ensures.succeeds (omega (arith, c.loop-k.invariant.size, c.loop-k.invariant.step_room, c.loop-k.steps.ok, c.requires.room.1, up, grows))

pub loop-k-preserved : goal.loop-k-preserved
loop-k-preserved c =
    let k = c.loop-k.k in
    let marks = c.args.marks.now in
    let L = take (length marks) c.args.list.now.entries in
    let was = c.loop-k.invariant in
    let pushed = rw c.unwrap.ensures at c.push.ensures.items in
    let next : k + 1 ≡ suc k = omega arith in
    let here : c.len.result ≡ rank marks k = omega (arith, c.len.ensures, c.loop-k.steps.ok, was.size) in
    let ranks = ranks_step marks c.loop-k.places.items k c.len.result was.ranks here in
    elim c.if-marks-k.branch [
      | then-marks-k w ↦
          let e = w.entry.result in
          let there : slice_get L k ≡ Some e = get_front c.args.list.now.entries (length marks) k e (omega (arith, c.loop-k-test.true)) w.entry.ensures.entry in
          let low = w.entry.ensures.premises in
          let put = rw w.unwrap-then-marks-k.ensures at w.push-then-marks-k.ensures.items in
          let places = w.deref.ensures.value in
          let rule = placed_renumbered marks c.push.new.self.items k (k + 1) e.why (rw (pushed, next) ranks) low (omega arith) in
          let is : the_entry w.placed.result ≡ moved_premises marks (the_entry e) = ap (λ b. of_rule b w.placed.result.why) w.placed.ensures.bound ∙ ap (of_rule e.bound) ((rw places at w.placed.ensures.why) ∙ rule) in
          let step = cut_step_marked marks L c.loop-k.steps.items k e w.placed.result there w.if-marks-k.true is in
          let up = rank_marked marks k w.if-marks-k.true in
          let long = length-append c.loop-k.steps.items (w.placed.result ∷ []) in
          record {
            end = c.loop-k.invariant.end;
            ranks = rw (pushed, next) ranks;
            size = rw (w.steps-is, put, next) (omega (arith, long, was.size, up));
            at_most = rw (w.steps-is, put) (omega (arith, long, was.at_most));
            place_room = omega (arith, c.push.ensures.lower_bound, was.place_room);
            step_room = rw w.steps-is (omega (arith, w.push-then-marks-k.ensures.lower_bound, was.step_room));
            reach = rw (w.steps-is, put, next) (step ∙ was.reach);
          }
      | else-marks-k w ↦
          let step = cut_step_unmarked marks L c.loop-k.steps.items k w.if-marks-k.false in
          let up = rank_unmarked marks k w.if-marks-k.false in
          record {
            end = c.loop-k.invariant.end;
            ranks = rw (pushed, next) ranks;
            size = rw (w.steps-is, next) (omega (arith, was.size, up));
            at_most = rw w.steps-is (omega (arith, was.at_most));
            place_room = omega (arith, c.push.ensures.lower_bound, was.place_room);
            step_room = rw w.steps-is was.step_room;
            reach = rw (w.steps-is, next) (step ∙ was.reach);
          }
    ]
