use Rattle.std.proofs.Common.{◌≡◌, ◌≤◌, length, take}
use Rattle.cstn_follow.proofs.following.trials.copy_of_names.Given as goal

abbrev pub invariant-loop-x : goal.invariant-loop-x
invariant-loop-x l = record {
  names : l.copy ≡ take l.x l.names;
  few : length l.copy ≤ l.x;
}
