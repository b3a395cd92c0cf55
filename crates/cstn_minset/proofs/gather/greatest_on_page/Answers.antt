use Rattle.std.proofs.Common.{◌≡◌, ◌⊎◌, inl, inr, ℕ, sym, ◌∙◌, subst, rules, SFits, w32}
use Rattle.std.specs.Prelude.{Some, slice_get}
use Rattle.std.proofs.lemmas.Int.{to_z-of_z}
use Rattle.std.proofs.lemmas.Option.{same_Some}
use Rattle.cstn_label.specs.Labels.{IsWithin}
use Rattle.cstn_label.specs.Read.{marks}
use Rattle.cstn_minset.specs.declared.columns.Record.{Record}
use Rattle.cstn_minset.specs.Sets.{IsRecordOf}
use Rattle.cstn_minset.proofs.gather.greatest_on_page.Goals as goal

pub returns : goal.returns
returns c =
    let items = c.args.page.now.records.items in
    let next = c.greatest_among.result in
    let fits : SFits w32 next = search rules in
    let floor : SFits w32 c.args.floor = search rules in
    let told : (next ≡ c.args.floor) ⊎ ((i : ℕ) × (r : Record) × (slice_get items i ≡ Some r) × IsRecordOf (marks c.args.label) next r) = elim c.greatest_among.ensures [
      | inl same ↦ inl (same ∙ to_z-of_z w32 c.args.floor floor)
      | inr found ↦
          let there = (c.within.ensures found.0).0 found.3 in
          inr (found.0, found.1, found.2, (found.4, subst (λ (r : Record). IsWithin (marks r.label) (marks c.args.label)) (same_Some there.0 found.1 (sym there.1 ∙ found.2)) there.2))
    ] in
    rw (to_z-of_z w32 next fits) told
