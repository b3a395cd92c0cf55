use Rattle.cstn_exec.proofs.Refusals.{refused_done, refused_past, refused_awaiting, refused_late}
use Rattle.cstn_exec.proofs.Waiting.{awaited_free}
use Rattle.cstn_exec.proofs.laws.refusals_are_right.Goals as goal

pub returns-clause-done : goal.returns-clause-done
returns-clause-done c = refused_done

pub returns-clause-past : goal.returns-clause-past
returns-clause-past c = refused_past

pub returns-clause-awaiting : goal.returns-clause-awaiting
returns-clause-awaiting c = refused_awaiting

pub returns-clause-late : goal.returns-clause-late
returns-clause-late c net bounds run t u plan = refused_late net bounds plan.table run t u plan.well_formed plan.earliest

pub returns-clause-outcome : goal.returns-clause-outcome
returns-clause-outcome c = awaited_free
