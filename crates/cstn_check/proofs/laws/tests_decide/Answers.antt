use Rattle.cstn_check.proofs.TestLemmas.{within_decides, dominates_decides, refutes_decides, chain_decides, wait_decides, constraint_letters}
use Rattle.cstn_check.proofs.laws.tests_decide.Goals as goal

pub returns-clause-within : goal.returns-clause-within
returns-clause-within c = within_decides

pub returns-clause-dominates : goal.returns-clause-dominates
returns-clause-dominates c = dominates_decides

pub returns-clause-refutes : goal.returns-clause-refutes
returns-clause-refutes c = refutes_decides

pub returns-clause-chain : goal.returns-clause-chain
returns-clause-chain c = chain_decides

pub returns-clause-wait : goal.returns-clause-wait
returns-clause-wait c = wait_decides

pub returns-clause-letters : goal.returns-clause-letters
returns-clause-letters c = constraint_letters
