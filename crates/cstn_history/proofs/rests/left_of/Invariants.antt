use Rattle.std.proofs.Common.{◌≡◌, ◌≤◌, length}
use Rattle.std.specs.Prelude.{map}
use Rattle.std.specs.List.{range_with_len}
use Rattle.cstn_lift.specs.Read.{the_labelled}
use Rattle.cstn_history.specs.Rest.{left_upto, number_left}
use Rattle.cstn_history.specs.Read.{the_history}
use Rattle.cstn_history.proofs.rests.left_of.Given as goal

abbrev pub invariant-loop-x : goal.invariant-loop-x
invariant-loop-x l = record {
  points : map (λ x. x.0) l.points.items ≡ left_upto (the_labelled l.network) (the_history l.history) l.x;
  numbers : l.numbers.items ≡ map (number_left (the_labelled l.network) (the_history l.history)) (range_with_len 0 l.x);
  few : length l.points.items ≤ l.x;
}
