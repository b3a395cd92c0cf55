use Rattle.std.proofs.Common.{◌≡◌, None, replicate}
use Rattle.cstn_run.proofs.hosted.hosts.closed_cases.Given as goal

abbrev pub invariant-loop : goal.invariant-loop
invariant-loop l = l.cases.items ≡ replicate l.counter None
