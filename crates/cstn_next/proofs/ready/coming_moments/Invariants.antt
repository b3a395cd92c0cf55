use Rattle.std.proofs.Common.{◌≡◌, map}
use Rattle.std.specs.List.{range_with_len}
use Rattle.cstn_lift.specs.Read.{the_labelled}
use Rattle.cstn_plan.specs.Plans.{the_bounds}
use Rattle.cstn_history.specs.Read.{the_history}
use Rattle.cstn_next.specs.Next.{coming_at}
use Rattle.cstn_next.proofs.ready.coming_moments.Given as goal

abbrev pub invariant-loop-x : goal.invariant-loop-x
invariant-loop-x l = l.moments.items ≡ map (coming_at (the_labelled l.network) (the_history l.history) (the_bounds l.plan.bounds)) (range_with_len 0 l.x)
