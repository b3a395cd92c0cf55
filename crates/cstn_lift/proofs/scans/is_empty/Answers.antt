use Rattle.cstn_lift.proofs.LabelLemmas.{same_marks, same_tested}
use Rattle.std.proofs.Common.{sym, ◌∙◌}
use Rattle.cstn_lift.proofs.scans.is_empty.Goals as goal

pub returns : goal.returns
returns c = (
  (λ t. same_marks c.args.label c.empty.result (sym c.eq.ensures ∙ t) ∙ c.empty.ensures.empty),
  (λ same. c.eq.ensures ∙ same_tested c.args.label c.empty.result
      (c.labels_are_their_marks.ensures.equal c.args.label c.empty.result (same ∙ sym c.empty.ensures.empty))),
)
