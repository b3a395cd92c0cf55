use Rattle.cstn_exec.proofs.Advancing.{begun_guided, advanced_guided, open_from, noted_guided}
use Rattle.cstn_exec.proofs.guide_laws.guides_stay_right.Goals as goal

pub returns-clause-begun : goal.returns-clause-begun
returns-clause-begun c m bounds plan = begun_guided m bounds plan.table plan.well_formed plan.earliest

pub returns-clause-advanced : goal.returns-clause-advanced
returns-clause-advanced c m bounds g t plan right ok = advanced_guided m bounds plan.table plan.labelled plan.well_formed plan.earliest g right t ok

pub returns-clause-noted : goal.returns-clause-noted
returns-clause-noted c m g p v good wf right ok letter = noted_guided m wf g right p v (open_from m g p ok) letter
