use Rattle.std.proofs.Common.{◌≡◌}
use Rattle.rehearsal.proofs.plain.rehearse.Given as goal

abbrev pub invariant-loop : goal.invariant-loop
invariant-loop g l = l.executive.net ≡ l.initial.executive.net
