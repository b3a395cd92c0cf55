use Rattle.std.proofs.Common.{◌≡◌, ◌≤◌, length}
use Rattle.std.specs.Prelude.{map}
use Rattle.cstn_lift.specs.Read.{the_labelled}
use Rattle.cstn_history.specs.Rest.{left_upto}
use Rattle.cstn_history.specs.Read.{the_history}
use Rattle.cstn_follow.specs.Following.{name_of_point}
use Rattle.cstn_follow.proofs.following.Following.names_left.Given as goal

abbrev pub invariant-loop-x : goal.invariant-loop-x
invariant-loop-x l = record {
  names : l.names ≡ map (name_of_point l.self.names) (left_upto (the_labelled l.self.network) (the_history l.self.history) l.x);
  few : length l.names ≤ l.x;
}
