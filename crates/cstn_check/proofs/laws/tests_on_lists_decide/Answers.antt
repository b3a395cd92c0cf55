use Rattle.cstn_check.proofs.Decides.{kept_small}
use Rattle.cstn_check.proofs.TestLemmas.{covered_decides, live_decides, refuted_decides, live_bounds_are}
use Rattle.cstn_check.proofs.laws.tests_on_lists_decide.Goals as goal

pub returns-clause-covered : goal.returns-clause-covered
returns-clause-covered c = covered_decides

pub returns-clause-live : goal.returns-clause-live
returns-clause-live c = live_decides

pub returns-clause-refuted : goal.returns-clause-refuted
returns-clause-refuted c = refuted_decides

pub returns-clause-live_bounds : goal.returns-clause-live_bounds
returns-clause-live_bounds c = live_bounds_are

pub returns-clause-letters : goal.returns-clause-letters
returns-clause-letters c net list good kept = kept_small net list good.letters kept
