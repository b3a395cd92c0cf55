use Rattle.std.proofs.Common.{◌≡◌, take}
use Rattle.cstn_next.specs.Next.{earliest}
use Rattle.cstn_cases.proofs.nexts.earliest.Given as goal

abbrev pub invariant-loop-k : goal.invariant-loop-k
invariant-loop-k l = l.first ≡ earliest (take l.k l.moments)
