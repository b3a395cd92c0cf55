use Rattle.cstn_pool.proofs.PaddedLemmas.{padded_length, padded_at, padded_write}
use Rattle.cstn_pool.proofs.laws.blanks_fill_up_to_a_count.Goals as goal

pub returns-clause-length : goal.returns-clause-length
returns-clause-length g c = λ blank count written within. padded_length blank count written within

pub returns-clause-at : goal.returns-clause-at
returns-clause-at g c = λ blank count place written. padded_at blank count place written

pub returns-clause-set : goal.returns-clause-set
returns-clause-set g c = λ blank count more place x written within upto inside. padded_write blank count more place x written within upto inside
