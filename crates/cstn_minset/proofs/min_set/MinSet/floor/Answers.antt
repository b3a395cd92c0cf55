use Rattle.std.proofs.Common.{◌≡◌, ◌⊎◌, inl, inr, subst, rules, SFits, w32}
use Rattle.std.specs.Prelude.{pos}
use Rattle.std.proofs.lemmas.Int.{to_z-of_z}
use Rattle.cstn_label.specs.Read.{marks}
use Rattle.cstn_minset.specs.Sets.{Places, SetHasLeast, entries_of}
use Rattle.cstn_minset.proofs.SoughtLemmas.{least_from}
use Rattle.cstn_minset.proofs.min_set.MinSet.floor.Goals as goal

pub returns : goal.returns
returns c =
    let inside = c.self.inside in
    let greatest = c.greatest_within.result in
    let fits : SFits w32 greatest = search rules in
    let told : (greatest ≡ pos 0) ⊎ SetHasLeast c.args.self.now.table c.args.node.0 (marks c.args.label) greatest = elim c.greatest_within.ensures [
      | inl none ↦ inl none
      | inr found ↦ inr (subst (λ (v : Places). SetHasLeast v.table c.args.node.0 (marks c.args.label) greatest) c.self.view_is
          (least_from inside.rows inside.nodes (entries_of inside.births inside.rows) c.args.node.0 found.0 found.1 (marks c.args.label) greatest found.2 c.self.invariant.0 found.3 found.4))
    ] in
    record { floor = rw (to_z-of_z w32 greatest fits) told }
