use Rattle.cstn_run.proofs.Ending.{carried_through, ends_unfinished}
use Rattle.cstn_run.proofs.laws.good_sessions_are_carried_out.Goals as goal

pub returns-clause-carried_out : goal.returns-clause-carried_out
returns-clause-carried_out c names m bounds lines plan = carried_through names m bounds plan lines

pub returns-clause-unfinished : goal.returns-clause-unfinished
returns-clause-unfinished c names m bounds lines plan = ends_unfinished names m bounds plan lines
