use Rattle.cstn_minset.proofs.BitLemmas.{least_gone, least_others}
use Rattle.cstn_minset.proofs.bits.without_least.Goals as goal

pub returns-clause-gone : goal.returns-clause-gone
returns-clause-gone c = λ i set least. least_gone c.args.word i set least

pub returns-clause-others : goal.returns-clause-others
returns-clause-others c = λ i k set least other. least_others c.args.word i set least k other
