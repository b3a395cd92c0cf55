-- The evidence that a least deadline is given with.
use Rattle.std.specs.Prelude.{ℕ, ◌≡◌, ◌-◌, ◌↔◌, List, length, IfSome, IsNone}
use Rattle.std.specs.List.{All}
use Rattle.cstn_net.specs.Networks.{Network, count}
use Rattle.cstn_check.specs.Growth.{log_of, load_of, live_bounds}
use Rattle.cstn_check.specs.Verdicts.{IsRefutationOf}
use Rattle.cstn_closed.specs.Closed.{ClosedParts, the_listed_bounds}
use Rattle.cstn_closed.specs.Faults.{IsFaultless}
use Rattle.cstn_closed.specs.Written.{BoundsFitText, IsNamedBound}
use Rattle.cstn_tight.specs.declared.tight.Tight.{Tight}
use Rattle.cstn_tight.specs.Deadlines.{at_deadline, IsLeastDeadline}

-- the list has the bounds of the live entries of the network's log, and the load of the network; it has no fault, and can be
-- printed
pub record IsClosedOf (net : Network) (closed : ClosedParts) : Type 0 where
  pub bounds : the_listed_bounds closed ≡ live_bounds (log_of net)
  pub load : closed.load ≡ load_of net
  pub accepted : IsFaultless net (the_listed_bounds closed)
  pub named : (names : List (List ℕ)) → length names ≡ count net → All (IsNamedBound names) closed.bounds
  pub text : BoundsFitText closed

-- the deadline is the least one of the network, with the list of bounds there, and the refutation at one tick less
pub record IsTightOf (net : Network) (tight : Tight) : Type 0 where
  pub least : IsLeastDeadline net tight.deadline
  pub closed : IsClosedOf (at_deadline net tight.deadline) tight.closed
  pub none : IsNone tight.refutation ↔ (tight.deadline ≡ 0)
  pub refutation : IfSome tight.refutation (IsRefutationOf (at_deadline net (tight.deadline - 1)))
