use Rattle.std.proofs.Common.{sym}
use Rattle.cstn_run.specs.hosted.SessionRead.{the_host_session}
use Rattle.cstn_run.proofs.hosts.Endings.{begins, passes}
use Rattle.cstn_run.proofs.hosted.sessions.HostSession.unfinished.Goals as goal

pub loop-id-init : goal.loop-id-init
loop-id-init c = begins _

pub loop-id-preserved : goal.loop-id-preserved
loop-id-preserved c = passes (the_host_session c.args.self.now) c.loop-id.id c.loop-id-test.true c.loop-id.invariant (sym c.in_default.ensures.due)
