use Rattle.cstn_run.proofs.Carrying.{names_least, accepts_exactly, sees_exactly, tells_due}
use Rattle.cstn_run.proofs.Ending.{timely}
use Rattle.cstn_run.proofs.laws.guided_answers_are_least.Goals as goal

pub returns-clause-least : goal.returns-clause-least
returns-clause-least c names m bounds before next g t plan = names_least names m bounds plan before next g t

pub returns-clause-accepted : goal.returns-clause-accepted
returns-clause-accepted c names m bounds before next g t plan = accepts_exactly names m bounds plan before next g t

pub returns-clause-due : goal.returns-clause-due
returns-clause-due c names m bounds before next g plan = tells_due names m bounds plan before next g

pub returns-clause-timely : goal.returns-clause-timely
returns-clause-timely c names m bounds lines plan = timely names m bounds plan lines

pub returns-clause-outcomes : goal.returns-clause-outcomes
returns-clause-outcomes c names m bounds before next g p value plan = sees_exactly names m bounds plan before next g p value
