use Rattle.cstn_lines.specs.HostLines.{closed}
use Rattle.cstn_run.specs.hosted.SessionRead.{the_names}
use Rattle.cstn_run.proofs.hosts.Answered.{refused_after}
use Rattle.cstn_run.proofs.hosted.sessions.HostSession.close.Goals as goal

pub returns-clause-after : goal.returns-clause-after
returns-clause-after c =
    refused_after c.args.self.now c.self.inside.host (the_names c.self.inside.names.items) c.self.view_is c.self.invariant.as_many c.match-close.result (closed c.args.id) c.close.new.self c.close.ensures.after
