use Rattle.cstn_pool.proofs.CallLemmas.{calls_keep_births, calls_leave_gone}
use Rattle.cstn_pool.proofs.laws.births_never_come_back.Goals as goal

pub returns-clause-births : goal.returns-clause-births
returns-clause-births g c = λ calls before after is. calls_keep_births calls before after is

pub returns-clause-gone : goal.returns-clause-gone
returns-clause-gone g c = λ calls before after slot birth is less none. calls_leave_gone calls before after slot birth is less none
