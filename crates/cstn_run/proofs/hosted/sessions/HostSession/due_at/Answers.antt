use Rattle.std.proofs.Common.{◌≡◌, sym, subst}
use Rattle.cstn_run.specs.hosted.Sessions.{case_of, due_in}
use Rattle.cstn_run.specs.hosted.SessionRead.{HostSessionParts, the_host_session, the_names}
use Rattle.cstn_run.proofs.hosts.Answered.{seen_with}
use Rattle.cstn_run.proofs.hosts.Endings.{due_told}
use Rattle.cstn_run.proofs.hosted.sessions.HostSession.due_at.Goals as goal

pub returns-in-Ok : goal.returns-in-Ok
returns-in-Ok c = record {
  due = sym (subst (λ (w : HostSessionParts). due_in (the_host_session w).files (case_of (the_host_session w) c.args.id) ≡ c.in-Ok.due) c.self.view_is
      (due_told (seen_with c.self.inside.host (the_names c.self.inside.names.items)) c.self.invariant.as_many c.args.id c.in-Ok.due c.requires.below c.in-Ok.ensures.answer));
}
