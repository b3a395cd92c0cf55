use Rattle.cstn_exec.proofs.GuideNaming.{named_exactly, left_exactly, named_ascend}
use Rattle.cstn_exec.proofs.guide_laws.the_named_hold.Goals as goal

pub returns-clause-named : goal.returns-clause-named
returns-clause-named c m bounds g t plan right ok x = named_exactly m bounds plan.table g.run t plan.labelled plan.well_formed plan.earliest right.right ok x

pub returns-clause-left : goal.returns-clause-left
returns-clause-left c m bounds g t plan right ok x = left_exactly m bounds plan.table g.run t plan.labelled plan.well_formed plan.earliest right.right ok x

pub returns-clause-ascending : goal.returns-clause-ascending
returns-clause-ascending c m bounds run t = named_ascend m bounds run t
