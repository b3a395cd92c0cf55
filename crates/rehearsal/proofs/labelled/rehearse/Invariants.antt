use Rattle.std.proofs.Common.{◌≡◌}
use Rattle.rehearsal.proofs.labelled.rehearse.Given as goal

abbrev pub invariant-loop : goal.invariant-loop
invariant-loop g l = l.guide.labelled ≡ l.initial.guide.labelled
