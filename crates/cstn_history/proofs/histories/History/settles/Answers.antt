use Rattle.std.proofs.Common.{sym, ap, arith, ◌∙◌}
use Rattle.cstn_label.specs.Read.{marks}
use Rattle.cstn_history.specs.Read.{the_history}
use Rattle.cstn_history.proofs.Told.{settled_is, unsettled_is}
use Rattle.cstn_history.proofs.histories.History.settles.Goals as goal

pub returns-in-Some : goal.returns-in-Some
returns-in-Some c = record {
  settles = unsettled_is (the_history c.args.self.now) (marks c.args.label) c.in-Some.field-0.index (c.labels_are_their_marks.ensures.above c.args.label)
      (λ gone. c.in-Some.ensures.marked (ap (λ l. l c.in-Some.field-0.index) c.label_left.ensures.left ∙ gone));
}

pub returns-in-None : goal.returns-in-None
returns-in-None c = record {
  settles = settled_is (the_history c.args.self.now) (marks c.args.label) c.allows.result (c.labels_are_their_marks.ensures.above c.args.label)
      c.allows.ensures.allows (λ p. sym (ap (λ l. l p) c.label_left.ensures.left) ∙ c.in-None.ensures.none p (omega arith));
}
