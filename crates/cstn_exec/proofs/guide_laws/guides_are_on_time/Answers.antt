use Rattle.cstn_exec.proofs.Timely.{on_time, led}
use Rattle.cstn_exec.proofs.guide_laws.guides_are_on_time.Goals as goal

pub returns-clause-on_time : goal.returns-clause-on_time
returns-clause-on_time c m g good wf right = on_time m good wf g right

pub returns-clause-led : goal.returns-clause-led
returns-clause-led c m bounds g plan right all = led m plan.labelled plan.well_formed g right bounds plan.table plan.earliest all
