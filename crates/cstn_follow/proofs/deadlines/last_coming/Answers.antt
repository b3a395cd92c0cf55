use Rattle.std.proofs.Common.{ℕ, ◌≡◌, ◌+◌, ◌-◌, drop, arith, subst}
use Rattle.cstn_plan.specs.Asked.{greatest}
use Rattle.cstn_plan.specs.Plans.{the_bounds}
use Rattle.cstn_follow.proofs.Coming.{may_come, later_more}
use Rattle.cstn_follow.proofs.deadlines.last_coming.Goals as goal

pub loop-k-preserved : goal.loop-k-preserved
loop-k-preserved c =
    let bounds = c.args.plan.now.bounds in
    let labels = c.args.labels.now in
    let more = c.loop-k-test.true in
    let same : c.loop-k.k ≡ c.loop-k.k - 1 + 1 = omega arith in
    record {
      upto = let before = c.loop-k.invariant.upto in omega arith;
      last = later_more labels bounds (c.loop-k.k - 1) c.bound.result _ _ c.bound.ensures.bound
          (subst (λ (n : ℕ). c.loop-k.last ≡ greatest (may_come labels) (the_bounds (drop n bounds))) same c.loop-k.invariant.last)
          c.later-last.ensures;
    }
