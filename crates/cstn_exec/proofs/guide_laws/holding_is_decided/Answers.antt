use Rattle.cstn_exec.proofs.Holding.{holds_is}
use Rattle.cstn_exec.proofs.Deciding.{decided}
use Rattle.cstn_exec.proofs.guide_laws.holding_is_decided.Goals as goal

pub returns-clause-decided : goal.returns-clause-decided
returns-clause-decided c m bounds run x t plan right done = decided m bounds plan.table plan.labelled plan.well_formed plan.earliest run right x t done

pub returns-clause-holds : goal.returns-clause-holds
returns-clause-holds c m values x good = holds_is m values x good
