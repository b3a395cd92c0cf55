use Rattle.std.proofs.Common.{◌≡◌, ℕ, Option, ap, subst, ◌∙◌}
use Rattle.cstn_plan.specs.Plans.{the_bounds}
use Rattle.cstn_lift.specs.Lowered.{lowered}
use Rattle.cstn_lift.specs.Read.{the_labelled}
use Rattle.cstn_exec.specs.Runs.{due}
use Rattle.cstn_exec.specs.Running.{due_text}
use Rattle.cstn_reply.specs.Texts.{line}
use Rattle.cstn_run.specs.Sessions.{RunSessionParts}
use Rattle.cstn_run.proofs.Runs.{from_empty}
use Rattle.cstn_run.proofs.sessions.RunSession.due.Goals as goal

pub returns : goal.returns
returns c =
    subst (λ (r : RunSessionParts). c.put_due.new.text ≡ line (due_text (due (lowered (the_labelled r.labelled)) (the_bounds r.bounds) r.state.run))) c.self.view_is
    (from_empty _ _ _ c.put_due.ensures c.requires.empty ∙ ap (λ (o : Option ℕ). line (due_text o)) c.due.ensures.due)
