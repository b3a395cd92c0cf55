use Rattle.std.proofs.Common.{true, false}
use Rattle.cstn_exec.proofs.Moving.{start_right}
use Rattle.cstn_exec.proofs.Dues.{accepted_right}
use Rattle.cstn_exec.proofs.Refusals.{seen_right}
use Rattle.cstn_exec.proofs.laws.runs_stay_right.Goals as goal

pub returns-clause-start : goal.returns-clause-start
returns-clause-start c net bounds plan = start_right net bounds plan.table plan.well_formed plan.earliest

pub returns-clause-moved : goal.returns-clause-moved
returns-clause-moved c net bounds run t plan right ok = (accepted_right net bounds plan.table plan.well_formed plan.earliest run right t ok).0

pub returns-clause-handed : goal.returns-clause-handed
returns-clause-handed c net run p wf right ok letter = (seen_right net run p wf right ok letter true, seen_right net run p wf right ok letter false)
