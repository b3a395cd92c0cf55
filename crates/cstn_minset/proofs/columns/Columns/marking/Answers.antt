use Rattle.std.proofs.Common.{subst}
use Rattle.cstn_label.specs.Labels.{IsMarked}
use Rattle.cstn_label.specs.Read.{marks}
use Rattle.cstn_minset.specs.Columns.{ColumnsParts, AreThose}
use Rattle.cstn_minset.proofs.ColumnLemmas.{those_marking}
use Rattle.cstn_minset.proofs.columns.Columns.marking.Goals as goal

pub returns : goal.returns
returns c =
    subst (λ (v : ColumnsParts). AreThose (λ r. IsMarked (marks r.label) c.args.p.index) v.items c.marking.result) c.self.view_is
    (those_marking c.self.inside.records.items c.self.inside.sheet c.self.inside.used c.args.p.index c.marking.result c.args.p.in_range c.self.invariant c.marking.ensures)
