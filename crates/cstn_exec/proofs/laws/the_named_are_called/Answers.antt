use Rattle.cstn_exec.proofs.Refusals.{called_exactly, called_ascend}
use Rattle.cstn_exec.proofs.laws.the_named_are_called.Goals as goal

pub returns-clause-named : goal.returns-clause-named
returns-clause-named c net bounds run t plan = called_exactly net bounds plan.table run t plan.well_formed plan.earliest

pub returns-clause-ascending : goal.returns-clause-ascending
returns-clause-ascending c = called_ascend
