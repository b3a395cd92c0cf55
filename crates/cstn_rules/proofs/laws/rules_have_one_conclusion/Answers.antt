use Rattle.cstn_rules.proofs.Shapes.{one_base, one_chain, one_wait, chained}
use Rattle.cstn_rules.proofs.laws.rules_have_one_conclusion.Goals as goal

pub returns-clause-base : goal.returns-clause-base
returns-clause-base c = one_base

pub returns-clause-chain : goal.returns-clause-chain
returns-clause-chain c = one_chain

pub returns-clause-wait : goal.returns-clause-wait
returns-clause-wait c = one_wait

pub returns-clause-chained : goal.returns-clause-chained
returns-clause-chained c = chained
