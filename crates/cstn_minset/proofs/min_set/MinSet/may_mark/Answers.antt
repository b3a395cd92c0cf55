use Rattle.std.proofs.Common.{ℕ, subst}
use Rattle.cstn_label.specs.declared.bounds.Bound.{Bound}
use Rattle.cstn_label.specs.Labels.{IsMarked}
use Rattle.cstn_label.specs.Read.{marks}
use Rattle.cstn_minset.specs.Sets.{Places, IsPlaced, IsAt, IsMarking, entries_of}
use Rattle.cstn_minset.proofs.SetLemmas.{none_placed}
use Rattle.cstn_minset.proofs.SoughtLemmas.{marked_or_not}
use Rattle.cstn_minset.proofs.min_set.MinSet.may_mark.Goals as goal

pub returns : goal.returns
returns c =
    let inside = c.self.inside in
    record {
      none = λ none. subst (λ (v : Places). (s : ℕ) (e : ℕ × Bound) → IsPlaced v.table s e → IsAt c.args.node.0 e.1 → ¬ IsMarking c.args.p.index e.1) c.self.view_is
          (λ s e placed node marking. none_placed inside.rows inside.nodes (entries_of inside.births inside.rows) c.args.node.0 s e (λ r. IsMarked (marks r.label) c.args.p.index) c.self.invariant.0
          (marked_or_not c.args.p.index) (c.row_marks.ensures.none none) placed node marking);
    }
