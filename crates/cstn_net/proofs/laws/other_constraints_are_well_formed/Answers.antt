use Rattle.cstn_net.proofs.WellFormed.{well_formed_with}
use Rattle.cstn_net.proofs.laws.other_constraints_are_well_formed.Goals as goal

pub returns : goal.returns
returns c = λ net cs good fit. well_formed_with net cs good fit.few fit.each fit.ascending fit.values
