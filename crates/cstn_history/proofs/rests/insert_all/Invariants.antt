use Rattle.std.proofs.Common.{◌≡◌, ◌+◌, ◌++◌, take}
use Rattle.cstn_history.proofs.rests.insert_all.Given as goal

abbrev pub invariant-loop-c : goal.invariant-loop-c
invariant-loop-c l = record {
  inserted : l.net.constraints ≡ l.initial.net.constraints ++ take l.c-index l.more;
  spare : l.net.spare + l.c-index ≡ l.initial.net.spare;
  deadline : l.net.deadline ≡ l.initial.net.deadline;
  points : l.net.points ≡ l.initial.net.points;
}
