use Rattle.cstn_net.proofs.Dynamic.{agrees_back, same_past, same_known}
use Rattle.cstn_net.proofs.laws.past_is_common.Goals as goal

pub returns-clause-symmetric : goal.returns-clause-symmetric
returns-clause-symmetric c = agrees_back

pub returns-clause-moments : goal.returns-clause-moments
returns-clause-moments c = same_past

pub returns-clause-known : goal.returns-clause-known
returns-clause-known c = same_known
