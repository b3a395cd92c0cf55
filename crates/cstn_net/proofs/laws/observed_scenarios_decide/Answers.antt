use Rattle.cstn_net.proofs.Observed.{is_own, kept_value, same_consistent, same_least, least_on_observed}
use Rattle.cstn_net.proofs.laws.observed_scenarios_decide.Goals as goal

pub returns-clause-own : goal.returns-clause-own
returns-clause-own c = is_own

pub returns-clause-value : goal.returns-clause-value
returns-clause-value c net s x p o = kept_value net s x p o

pub returns-clause-consistent : goal.returns-clause-consistent
returns-clause-consistent c = same_consistent

pub returns-clause-least : goal.returns-clause-least
returns-clause-least c net s x t good own = same_least net good s x t own

pub returns-clause-any : goal.returns-clause-any
returns-clause-any c net s x t here = least_on_observed net s x t here
