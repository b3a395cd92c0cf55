-- What is covered, and what a minimal set can't hold.
use Rattle.std.proofs.Common.{◌≡◌, ◌≢◌, inl, inr, ℕ, ◌<◌, length, set, refl, sym, ◌∙◌}
use Rattle.std.specs.Prelude.{Option, None, Some}
use Rattle.std.proofs.lemmas.List.{get_or-set_other, get_or-set_same}
use Rattle.std.proofs.lemmas.Bool.{cases_eq}
use Rattle.std.proofs.lemmas.Option.{none-some}
use Rattle.cstn_label.specs.declared.bounds.Bound.{Bound}
use Rattle.cstn_minset.specs.Sets.{Entries, entry_at, IsPlaced, IsCoveredInSet, IsCleared, IsMinimal}
use Rattle.cstn_minset.proofs.BoundLemmas.{MarksEnd, over_or_not, over_through, one_is_over}

-- what was covered before a bound was placed is covered afterwards
pub covering_grows : MarksEnd → (old cleared : Entries) (b c : Bound) (slot birth : ℕ) → IsCleared b old cleared → slot < length cleared → entry_at cleared slot ≡ None → IsCoveredInSet old c → IsCoveredInSet (set cleared slot (Some (birth, b))) c
covering_grows end old cleared b c slot birth is inside free covered =
    let u : ℕ = covered.0 in
    let e : ℕ × Bound = covered.1 in
    elim (over_or_not end b e.1) [
      | inl over ↦ (slot, (birth, b), get_or-set_same cleared slot (Some (birth, b)) None inside, over_through b e.1 c over covered.3)
      | inr not ↦
          let stays = is.kept u e covered.2 not in
          let other : u ≢ slot = λ same. none-some e (sym free ∙ rw same at stays) in
          (u, e, get_or-set_other cleared slot u (Some (birth, b)) None other ∙ stays, covered.3)
    ]

-- a minimal set has one entry for a time-point and a label
pub one_for_each : (nodes : ℕ) (table : Entries) (s t : ℕ) (e f : ℕ × Bound) → IsMinimal nodes table → IsPlaced table s e → IsPlaced table t f → e.1.node.0 ≡ f.1.node.0 → e.1.label ≡ f.1.label → s ≡ t
one_for_each nodes table s t e f is p q node label = elim (cases_eq s t) [
  | inl same ↦ same
  | inr other ↦ elim (one_is_over e.1 f.1 node label) [
    | inl over ↦ absurd (is.minimal s t e f p q other over)
    | inr under ↦ absurd (is.minimal t s f e q p (λ same. other (sym same)) under)
  ]
]

-- a slot that held nothing holds nothing after it was cleared
pub emptied_at : (b : Bound) (old cleared : Entries) (slot : ℕ) → IsCleared b old cleared → entry_at old slot ≡ None → entry_at cleared slot ≡ None
emptied_at b old cleared slot is free = go (entry_at cleared slot) refl
  where
    go : (o : Option (ℕ × Bound)) → entry_at cleared slot ≡ o → entry_at cleared slot ≡ None
    go None none = none
    go (Some e) some = absurd (none-some e (sym free ∙ is.was slot e some))
