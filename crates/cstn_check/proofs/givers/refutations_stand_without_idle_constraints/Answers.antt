use Rattle.cstn_check.proofs.Standing.{refutation_stands}
use Rattle.cstn_check.proofs.givers.refutations_stand_without_idle_constraints.Goals as goal

pub returns : goal.returns
returns c = refutation_stands
