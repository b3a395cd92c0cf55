use Rattle.std.proofs.Common.{ℕ, ◌≤◌, ◌+◌, Option, arith, sym, subst, ◌∙◌}
use Rattle.cstn_exec.specs.Runs.{first_after}
use Rattle.cstn_exec.proofs.executive.Executive.next.Goals as goal

pub overflow_add-result : goal.overflow_add-result
overflow_add-result c =
    let soon = subst (λ (o : Option ℕ). first_after o ≤ c.args.self.now.net.deadline + 1) (sym c.last.ensures ∙ c.in-Some.is) c.is_right.ensures.in_time in
    let limit = c.is_right.ensures.well_formed.in_time in
    omega arith
