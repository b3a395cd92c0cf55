use Rattle.std.proofs.Common.{subst}
use Rattle.cstn_label.specs.Labels.{IsWithin}
use Rattle.cstn_label.specs.Read.{marks}
use Rattle.cstn_minset.specs.Columns.{ColumnsParts, AreThose}
use Rattle.cstn_minset.proofs.ColumnLemmas.{columns_inside, those_within}
use Rattle.cstn_minset.proofs.columns.Columns.within.Goals as goal

pub within-requires : goal.within-requires
within-requires c = record { used = columns_inside c.self.inside.records.items c.self.inside.sheet c.self.inside.used c.self.invariant }

pub returns : goal.returns
returns c =
    subst (λ (v : ColumnsParts). AreThose (λ r. IsWithin (marks r.label) (marks c.args.label)) v.items c.within.result) c.self.view_is
    (those_within c.self.inside.records.items c.self.inside.sheet c.self.inside.used c.args.label c.first_bits-front.result c.within.result
    c.labels_are_their_marks.ensures.above c.self.invariant (rw c.len.ensures.value at c.first_bits-front.ensures) c.within.ensures)
