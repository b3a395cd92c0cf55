use Rattle.cstn_run.proofs.hosts.CaseLemmas.{closed_host}
use Rattle.cstn_run.proofs.hosted.hosts.Host.start.Goals as goal

pub invariant_of-result : goal.invariant_of-result
invariant_of-result c = closed_host c.args.plans.items c.in_ok-cases.cases.items c.in_ok-cases.ensures c.requires.some c.requires.few
