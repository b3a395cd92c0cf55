use Rattle.cstn_exec.proofs.Dues.{due_is_due, due_none, done_none, done_from, done_to, carried_out}
use Rattle.cstn_exec.proofs.Refusals.{accepted_before}
use Rattle.cstn_exec.proofs.Waiting.{due_waits}
use Rattle.cstn_exec.proofs.laws.due_is_exact.Goals as goal

pub returns-clause-due : goal.returns-clause-due
returns-clause-due c net bounds run t plan right e = due_is_due net bounds plan.table plan.well_formed plan.earliest run right t e

pub returns-clause-none : goal.returns-clause-none
returns-clause-none c net bounds run plan right = (
  (λ e. done_from net run right.moments (due_none net bounds plan.table plan.well_formed plan.earliest run right e)),
  (λ all. done_none net bounds plan.table plan.well_formed plan.earliest run right (done_to net run right.moments all)),
)

pub returns-clause-before : goal.returns-clause-before
returns-clause-before c net bounds run t u plan = accepted_before net bounds plan.table run t u plan.well_formed plan.earliest

pub returns-clause-end : goal.returns-clause-end
returns-clause-end c net bounds run plan right = carried_out net bounds plan.table plan.well_formed plan.earliest run right

pub returns-clause-waits : goal.returns-clause-waits
returns-clause-waits c = due_waits
