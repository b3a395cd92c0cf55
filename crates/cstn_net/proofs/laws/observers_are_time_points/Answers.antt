use Rattle.cstn_net.proofs.Knowledge.{observer_within, one_observed}
use Rattle.cstn_net.proofs.laws.observers_are_time_points.Goals as goal

pub returns-clause-within : goal.returns-clause-within
returns-clause-within c = observer_within

pub returns-clause-one : goal.returns-clause-one
returns-clause-one c = one_observed
