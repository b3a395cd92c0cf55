use Rattle.cstn_text.proofs.NumberLemmas.{value_printed}
use Rattle.cstn_text.proofs.laws.values_have_one_text.Goals as goal

pub returns-clause-fits : goal.returns-clause-fits
returns-clause-fits c text v e = (value_printed text v e).1
