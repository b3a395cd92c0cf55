use Rattle.std.proofs.Common.{◌≡◌, length}
use Rattle.rehearsal.proofs.heating.one_label.Given as goal

abbrev pub invariant-loop-x : goal.invariant-loop-x
invariant-loop-x l = length l.labels.items ≡ l.x
