use Rattle.cstn_rules.proofs.Shapes.{chain_within, chain_marks, wait_within, wait_marks, base_dominates}
use Rattle.cstn_rules.proofs.laws.conclusions_stay_within.Goals as goal

pub returns-clause-chain : goal.returns-clause-chain
returns-clause-chain c = chain_within

pub returns-clause-chain_marks : goal.returns-clause-chain_marks
returns-clause-chain_marks c = chain_marks

pub returns-clause-wait : goal.returns-clause-wait
returns-clause-wait c = wait_within

pub returns-clause-wait_marks : goal.returns-clause-wait_marks
returns-clause-wait_marks c = wait_marks

pub returns-clause-below : goal.returns-clause-below
returns-clause-below c = base_dominates
