-- What is sought in a row, told of the entries of the time-point.
use Rattle.std.proofs.Common.{◌≡◌, ◌⊎◌, inl, inr, ℕ, ◌<◌, ◌≤◌, List, [], ◌∷◌, length, refl, ap, sym, ◌∙◌, subst, arith}
use Rattle.std.specs.Prelude.{ℤ, ◌<ℤ◌, ◌≤ℤ◌, Option, None, Some, IfSome}
use Rattle.std.specs.List.{Contains}
use Rattle.std.proofs.lemmas.Bool.{cases_eq}
use Rattle.std.proofs.lemmas.Int.{ints}
use Rattle.std.proofs.lemmas.List.Elements.{Contains-append_right, Contains-append_cases, Contains-get_or, All-contains}
use Rattle.cstn_label.specs.declared.bounds.Bound.{Bound}
use Rattle.cstn_label.specs.declared.labels.Label.{Label}
use Rattle.cstn_label.specs.declared.props.Prop.{Prop}
use Rattle.cstn_label.specs.Labels.{IsMarked, IsWithin, Label as TheLabel}
use Rattle.cstn_label.specs.Read.{marks}
use Rattle.cstn_label.proofs.MarkLemmas.{absent_or_not}
use Rattle.cstn_minset.specs.declared.columns.Record.{Record}
use Rattle.cstn_minset.specs.Pages.{Paged, held_records}
use Rattle.cstn_minset.specs.Sets.{Entries, IsPlaced, HasItsRecord, IsRecordAt, IsRecordAbove, IsRecordOf, SetHasLeast, IsSoughtAbove, IsKeptSet}
use Rattle.cstn_minset.proofs.BoundLemmas.{least_or_not}
use Rattle.cstn_minset.proofs.SetLemmas.{held_at, held_count, none_placed, records_le}

-- a record of a row is that of an entry
pub least_from : (rows : Paged) (nodes : ℕ) (T : Entries) (h k i : ℕ) (label : TheLabel) (least : ℤ) (r : Record) → IsKeptSet rows nodes T → IsRecordAt rows.pages h k i r →
    IsRecordOf label least r → SetHasLeast T h label least
least_from rows nodes T h k i label least r is at of =
    let listed = held_at (HasItsRecord T) rows.pages h k i r is.listed at in (
      r.slot,
      (listed.0, listed.1),
      listed.2,
      ap (λ x. x.0) listed.3,
      subst (λ (l : Label). IsWithin (marks l) label) (sym (ap (λ x. x.1.label) listed.3)) of.1,
      ap (λ x. x.1.least) listed.3 ∙ of.0,
    )

abbrev IsPairAbove : ℕ → ℤ → Option Prop → ℕ × Record → Type 0
IsPairAbove h floor marking x = (x.0 ≡ h) × (floor <ℤ x.1.least) × IfSome marking (λ p. IsMarked (marks x.1.label) p.index)

pub sought_from : (rows : Paged) (nodes : ℕ) (T : Entries) (h : ℕ) (floor : ℤ) (marking : Option Prop) (s : ℕ) → IsKeptSet rows nodes T →
    ((k i : ℕ) × (r : Record) × IsRecordAt rows.pages h k i r × IsRecordAbove floor marking r × (r.slot ≡ s)) → (e : ℕ × Bound) × IsPlaced T s e × IsSoughtAbove h floor marking e.1
sought_from rows nodes T h floor marking s is found =
    let r : Record = found.2 in
    let listed = held_at (HasItsRecord T) rows.pages h found.0 found.1 r is.listed found.3 in
    let above = subst (IsPairAbove h floor marking) (sym listed.3) (refl, found.4.0, found.4.1) in
    ((listed.0, listed.1), subst (λ (u : ℕ). IsPlaced T u (listed.0, listed.1)) found.5 listed.2, above)

contains_or_not : (xs : List ℕ) (x : ℕ) → Contains xs x ⊎ ¬ Contains xs x
contains_or_not [] x = inr (λ is. All-contains (λ y. ⊥) [] x (λ k d inside. omega (arith, inside)) is)
contains_or_not (y ∷ xs) x = elim (cases_eq y x) [
  | inl same ↦ inl (subst (Contains (y ∷ xs)) same (Contains-get_or (y ∷ xs) 0 0 (omega arith)))
  | inr other ↦ elim (contains_or_not xs x) [
    | inl there ↦ inl (Contains-append_right (y ∷ []) xs x there)
    | inr not ↦ inr (λ is. elim (Contains-append_cases (y ∷ []) xs x is) [
      | inl first ↦ other (All-contains (λ z. y ≡ z) (y ∷ []) x (λ k d inside. rw (first_is k inside) refl) first)
      | inr rest ↦ not rest
    ])
  ]
]
  where
    first_is : (k : ℕ) → k < length (y ∷ []) → k ≡ 0
    first_is k inside = omega (arith, inside)

above_or_not : (floor : ℤ) (marking : Option Prop) (r : Record) → IsRecordAbove floor marking r ⊎ ¬ IsRecordAbove floor marking r
above_or_not floor marking r = elim (least_or_not r.least floor) [
  | inl low ↦ inr (λ above. away r.least floor low above.0)
  | inr high ↦ elim (marking_or_not marking) [ inl is ↦ inl (over r.least floor high, is) | inr not ↦ inr (λ above. not above.1) ]
]
  where
    away : (a b : ℤ) → a ≤ℤ b → b <ℤ a → ⊥
    away a b p q = omega (arith, ints)

    over : (a b : ℤ) → ¬ (a ≤ℤ b) → b <ℤ a
    over a b not = grind (arith, ints)

    marking_or_not : (m : Option Prop) → IfSome m (λ p. IsMarked (marks r.label) p.index) ⊎ ¬ IfSome m (λ p. IsMarked (marks r.label) p.index)
    marking_or_not None = inl tt
    marking_or_not (Some p) = elim (absent_or_not (marks r.label p.index)) [ inl gone ↦ inr (λ marked. marked gone) | inr marked ↦ inl marked ]

-- what is found of the records is found of the entries
pub found_of_entries : (rows : Paged) (nodes : ℕ) (T : Entries) (h : ℕ) (floor : ℤ) (marking : Option Prop) (found : List ℕ) → IsKeptSet rows nodes T →
    ((k i : ℕ) (r : Record) → IsRecordAt rows.pages h k i r → IsRecordAbove floor marking r → Contains found r.slot) →
    (s : ℕ) (e : ℕ × Bound) → IsPlaced T s e → IsSoughtAbove h floor marking e.1 → Contains found s
found_of_entries rows nodes T h floor marking found is all s e placed sought = elim (contains_or_not found s) [
  | inl there ↦ there
  | inr not ↦ absurd (none_placed rows nodes T h s e (λ r. IsRecordAbove floor marking r × (r.slot ≡ s)) is either
      (λ k i r at kind. not (subst (Contains found) kind.1 (all k i r at kind.0))) placed sought.0 ((sought.1, sought.2), refl))
]
  where
    either : (r : Record) → (IsRecordAbove floor marking r × (r.slot ≡ s)) ⊎ ¬ (IsRecordAbove floor marking r × (r.slot ≡ s))
    either r = elim (above_or_not floor marking r) [
      | inr not ↦ inr (λ kind. not kind.0)
      | inl above ↦ elim (cases_eq r.slot s) [ inl same ↦ inl (above, same) | inr other ↦ inr (λ kind. other kind.1) ]
    ]

pub marked_or_not : (p : ℕ) (r : Record) → IsMarked (marks r.label) p ⊎ ¬ IsMarked (marks r.label) p
marked_or_not p r = elim (absent_or_not (marks r.label p)) [ inl gone ↦ inr (λ marked. marked gone) | inr marked ↦ inl marked ]

pub held_within : (rows : Paged) (nodes : ℕ) (T : Entries) (n : ℕ) → IsKeptSet rows nodes T → length T ≤ n → length (held_records rows.pages) ≤ n
held_within rows nodes T n is fits = omega (arith, fits, held_count rows nodes T is, records_le 0 T)
