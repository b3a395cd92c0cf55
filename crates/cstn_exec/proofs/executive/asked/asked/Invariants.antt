use Rattle.std.proofs.Common.{ℕ, ◌≡◌, ◌<◌, ◌&&◌, take}
use Rattle.std.specs.Prelude.{slice_index, ◌==◌}
use Rattle.cstn_label.specs.Read.{known_value}
use Rattle.cstn_net.specs.Limits.{most_time_points}
use Rattle.cstn_plan.specs.Asked.{greatest}
use Rattle.cstn_plan.specs.Plans.{the_bounds}
use Rattle.cstn_exec.specs.Runs.{is_possible}
use Rattle.cstn_exec.proofs.executive.asked.asked.Given as goal

abbrev pub invariant-loop-k : goal.invariant-loop-k
invariant-loop-k l = (x : ℕ) → x < most_time_points →
    slice_index l.after x ≡ greatest (λ b. (b.node == x) && is_possible (known_value l.fn.known) b.label) (the_bounds (take l.k l.fn.plan.bounds))
