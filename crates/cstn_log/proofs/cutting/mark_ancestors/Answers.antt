use Rattle.std.proofs.Common.{ℕ, suc, ◌≡◌, ◌-◌, arith, subst, ◌∙◌}
use Rattle.cstn_log.specs.Entries.{the_entries}
use Rattle.cstn_log.specs.Cuts.{with_ancestors, with_premises}
use Rattle.cstn_log.proofs.MarkLemmas.{length_premises}
use Rattle.cstn_log.proofs.StepLemmas.{below_marked}
use Rattle.cstn_log.proofs.cutting.mark_ancestors.Goals as goal

pub loop-k-preserved-then-marks-k : goal.loop-k-preserved-then-marks-k
loop-k-preserved-then-marks-k c =
    let L = c.args.list.now.entries in
    let k = c.loop-k.k - 1 in
    let next : suc k ≡ c.loop-k.k = omega (arith, c.loop-k-test.true) in
    let marks = c.loop-k.marks in
    let e = c.entry.result in
    let step = below_marked L k e marks c.entry.ensures.entry c.if-marks-k.true in
    let reached = subst (λ (n : ℕ). with_ancestors (the_entries L) k (with_premises e.why marks) ≡ with_ancestors (the_entries L) n marks) next step in
    rw c.mark_premises.ensures (record {
      inside = omega (arith, length_premises e.why marks, c.loop-k.invariant.inside);
      size = length_premises e.why marks ∙ c.loop-k.invariant.size;
      reach = reached ∙ c.loop-k.invariant.reach;
    })
