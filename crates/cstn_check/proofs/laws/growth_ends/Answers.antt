use Rattle.cstn_check.proofs.Ends.{log_after, log_refuted, log_goes_on}
use Rattle.cstn_check.proofs.laws.growth_ends.Goals as goal

pub returns-clause-goes_on : goal.returns-clause-goes_on
returns-clause-goes_on c net n good = let e = log_goes_on net n good in (e.more, e.is)

pub returns-clause-done : goal.returns-clause-done
returns-clause-done c = log_after

pub returns-clause-refuted : goal.returns-clause-refuted
returns-clause-refuted c = log_refuted
