use Rattle.cstn_run.proofs.hosts.OwnLemmas.{apart, each_apart}
use Rattle.cstn_run.proofs.hosted.laws.hosts_keep_ids_apart.Goals as goal

pub returns-clause-each : goal.returns-clause-each
returns-clause-each c = each_apart

pub returns-clause-apart : goal.returns-clause-apart
returns-clause-apart c = apart
