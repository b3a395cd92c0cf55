use Rattle.std.proofs.Common.{sym, ◌∙◌}
use Rattle.cstn_replay.proofs.SameLemmas.{tested}
use Rattle.cstn_replay.proofs.steps.are_same.Goals as goal

pub returns : goal.returns
returns c =
    let parts = tested c.labels_are_their_marks.ensures.equal c.args.a c.args.b in
    record { same = (λ t. parts.0 (sym c.eq.ensures ∙ t), λ e. c.eq.ensures ∙ parts.1 e) }
