use Rattle.cstn_run.specs.hosted.SessionRead.{the_names}
use Rattle.cstn_run.proofs.hosts.PutLines.{first_line}
use Rattle.cstn_run.proofs.hosts.Answered.{asked_said}
use Rattle.cstn_run.proofs.hosted.sessions.HostSession.due.Goals as goal

pub returns-in-Ok-clause-said : goal.returns-in-Ok-clause-said
returns-in-Ok-clause-said c =
    asked_said c.args.self.now c.self.inside.host (the_names c.self.inside.names.items) c.self.view_is c.self.invariant.as_many c.args.id c.in-Ok.due c.put_due.new.text
    c.in-Ok.ensures.answer (first_line _ _ _ c.args.id _ c.requires.empty c.put_id.ensures.items c.put_due.ensures)
