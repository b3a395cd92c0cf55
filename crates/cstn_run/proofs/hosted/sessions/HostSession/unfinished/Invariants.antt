use Rattle.std.proofs.Common.{◌≡◌, ◌-◌}
use Rattle.cstn_run.specs.hosted.Sessions.{due_from, unfinished}
use Rattle.cstn_run.specs.hosted.SessionRead.{the_host_session}
use Rattle.cstn_run.proofs.hosted.sessions.HostSession.unfinished.Given as goal

abbrev pub invariant-loop-id : goal.invariant-loop-id
invariant-loop-id l = unfinished (the_host_session l.self) ≡ due_from (the_host_session l.self) l.id (64 - l.id)
