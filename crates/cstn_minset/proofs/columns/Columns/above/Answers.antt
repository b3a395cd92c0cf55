use Rattle.std.proofs.Common.{subst}
use Rattle.std.proofs.lemmas.Bool.{false≢true}
use Rattle.cstn_label.specs.Labels.{IsWithin}
use Rattle.cstn_label.specs.Read.{marks}
use Rattle.cstn_minset.specs.Columns.{ColumnsParts, AreThose}
use Rattle.cstn_minset.proofs.ColumnLemmas.{none_above, those_above}
use Rattle.cstn_minset.proofs.columns.Columns.above.Goals as goal

pub returns-then-not-is_within : goal.returns-then-not-is_within
returns-then-not-is_within c =
    subst (λ (v : ColumnsParts). AreThose (λ r. IsWithin (marks c.args.label) (marks r.label)) v.items 0) c.self.view_is
    (none_above c.self.inside.records.items c.self.inside.sheet c.self.inside.used c.args.label c.self.invariant (λ within. false≢true (c.if-not-is_within.ensures.within.1 within)))

pub returns : goal.returns
returns c =
    subst (λ (v : ColumnsParts). AreThose (λ r. IsWithin (marks c.args.label) (marks r.label)) v.items c.above.result) c.self.view_is
    (those_above c.self.inside.records.items c.self.inside.sheet c.self.inside.used c.args.label c.first_bits-front.result c.above.result
    c.labels_are_their_marks.ensures.above c.self.invariant (rw c.len.ensures.value at c.first_bits-front.ensures) c.above.ensures)
