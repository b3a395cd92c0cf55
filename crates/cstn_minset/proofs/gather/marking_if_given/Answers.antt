use Rattle.cstn_minset.proofs.ColumnLemmas.{those_all}
use Rattle.cstn_minset.proofs.gather.marking_if_given.Goals as goal

pub returns-in-Some : goal.returns-in-Some
returns-in-Some c = rw c.in-Some.is c.marking.ensures

pub returns-in-None : goal.returns-in-None
returns-in-None c = rw c.in-None.is (those_all c.args.records.now.items c.first_bits.result (rw c.len.ensures.value at c.first_bits.ensures))
