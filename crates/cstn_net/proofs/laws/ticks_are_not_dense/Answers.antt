use Rattle.cstn_net.proofs.Ticks.{coarse_well_formed, fine_well_formed, no_coarse_strategy, fine_is_strategy}
use Rattle.cstn_net.proofs.laws.ticks_are_not_dense.Goals as goal

pub returns-clause-networks : goal.returns-clause-networks
returns-clause-networks c = (coarse_well_formed, fine_well_formed)

pub returns-clause-coarse : goal.returns-clause-coarse
returns-clause-coarse c = no_coarse_strategy

pub returns-clause-fine : goal.returns-clause-fine
returns-clause-fine c = fine_is_strategy
