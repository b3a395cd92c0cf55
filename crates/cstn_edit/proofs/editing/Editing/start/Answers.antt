use Rattle.std.proofs.Common.{ℕ, ap, ◌∙◌, None}
use Rattle.cstn_edit.specs.Edits.{Session, the_session}
use Rattle.cstn_edit.proofs.Edits.{state_with}
use Rattle.cstn_edit.proofs.editing.Editing.start.Goals as goal

pub returns : goal.returns
returns c = record {
  start =
      ap (λ (cap : ℕ). state_with cap c.args.names None (the_session c.in_ok-session.session)) c.in_ok-session.ensures.size.0
      ∙ ap (λ (s : Session). state_with c.args.cap.entries c.args.names None s) c.in_ok-session.ensures.session;
}
