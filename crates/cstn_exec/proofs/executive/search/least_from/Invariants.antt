use Rattle.cstn_exec.proofs.Searching.{IsLeastFrom}
use Rattle.cstn_exec.proofs.executive.search.least_from.Given as goal

abbrev pub invariant-loop-x : goal.invariant-loop-x
invariant-loop-x l = IsLeastFrom l.fn.moments l.fn.after l.fn.t l.x l.least
