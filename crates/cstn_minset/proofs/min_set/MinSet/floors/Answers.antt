use Rattle.std.proofs.Common.{inl, inr, subst}
use Rattle.std.specs.Prelude.{pos, slice_index_or}
use Rattle.cstn_label.specs.Labels.{without}
use Rattle.cstn_label.specs.Read.{marks}
use Rattle.cstn_minset.specs.Sets.{Places, SetHasLeast, entries_of}
use Rattle.cstn_minset.proofs.SoughtLemmas.{least_from}
use Rattle.cstn_minset.proofs.min_set.MinSet.floors.Goals as goal

pub returns : goal.returns
returns c =
    let inside = c.self.inside in
    let label = marks c.args.label in
    let greatest = c.greatest_without.result in
    record {
      floors = λ p small. elim (c.greatest_without.ensures p small) [
        | inl none ↦ inl none
        | inr found ↦ inr (subst (λ (v : Places). SetHasLeast v.table c.args.node.0 (without label p) (slice_index_or greatest p (pos 0))) c.self.view_is
            (least_from inside.rows inside.nodes (entries_of inside.births inside.rows) c.args.node.0 found.0 found.1 (without label p) (slice_index_or greatest p (pos 0)) found.2 c.self.invariant.0 found.3 found.4))
      ];
    }
