use Rattle.std.proofs.Common.{ℕ, Option, Bool, ◌+◌, inl, inr, arith, sym, subst, ◌∙◌}
use Rattle.std.proofs.lemmas.Bool.{cases_lt}
use Rattle.cstn_label.specs.declared.knowledge.Known.{Known}
use Rattle.cstn_net.specs.Read.{the_network}
use Rattle.cstn_exec.specs.Runs.{known}
use Rattle.cstn_exec.proofs.Values.{KnownBelow, known_first, known_more, known_same, known_above}
use Rattle.cstn_exec.proofs.executive.Executive.known.Goals as goal
use Rattle.cstn_exec.proofs.executive.Executive.known.Goals.{in-Some, in_default}

pub loop-index-preserved : goal.loop-index-preserved
loop-index-preserved c =
    let values : ℕ → Option Bool = known (the_network c.args.self.now.net) c.args.self.now.run (c.args.t + 1) in
    elim c.match-value.branch [
      | in-Some w ↦
          subst (λ (k : Known). KnownBelow values k (c.loop-index.index + 1)) (sym w.known-is)
          (known_more values c.loop-index.known w.with-known.result c.loop-index.index w.in-Some.value
          (sym c.value.ensures ∙ w.in-Some.is) w.with-known.ensures.seen w.with-known.ensures.values c.loop-index.invariant)
      | in_default w ↦
          subst (λ (k : Known). KnownBelow values k (c.loop-index.index + 1)) (sym w.known-is)
          (known_same values c.loop-index.known c.loop-index.index (sym c.value.ensures ∙ w.in_default.is) c.loop-index.invariant)
    ]

pub loop-index-init : goal.loop-index-init
loop-index-init c =
    known_first (known (the_network c.args.self.now.net) c.args.self.now.run (c.args.t + 1)) c.nothing-known.result c.nothing-known.ensures.known

pub returns : goal.returns
returns c = record {
  known = λ q. elim (cases_lt q 52) [
    | inl below ↦ c.loop-index.invariant.below q (omega arith)
    | inr above ↦
        c.loop-index.invariant.above q (omega arith)
        ∙ sym (known_above (the_network c.args.self.now.net) c.is_right.ensures.well_formed c.args.self.now.run (c.args.t + 1) q
        c.is_right.ensures.right.outcomes above)
  ];
}
