-- The greatest least values of what is within a label without one of its marks.
use Rattle.std.proofs.Common.{ℕ, ◌≡◌, ◌⊎◌, inl, inr, ◌<◌, not, List, length, set, refl, sym, ap, subst, ◌∙◌}
use Rattle.std.specs.Prelude.{ℤ, pos, Some, slice_get, slice_index_or}
use Rattle.std.proofs.lemmas.Bool.{cases_eq}
use Rattle.std.proofs.lemmas.List.{get_or-set_same, get_or-set_other}
use Rattle.cstn_label.specs.declared.marks.Mark.{Mark}
use Rattle.cstn_label.specs.Labels.{Label, IsMarked, IsMarkWithin, IsWithin, without}
use Rattle.cstn_label.specs.Read.{marks}
use Rattle.cstn_label.proofs.MarkLemmas.{absent_or_not, absent_within}
use Rattle.cstn_label.proofs.LabelLemmas.{without_other}
use Rattle.cstn_minset.specs.declared.columns.Record.{Record}
use Rattle.cstn_minset.specs.declared.page.Page.{Page}
use Rattle.cstn_minset.specs.Sets.{IsRecordAt, IsRecordOf}

-- each is as it was, or the least value of a record whose label is within this one without the mark
abbrev pub AreRaised : List Record → Label → List ℤ → List ℤ → Type 0
AreRaised records label old new = (p : ℕ) → p < 52 → (slice_index_or new p (pos 0) ≡ slice_index_or old p (pos 0))
    ⊎ ((i : ℕ) × (r : Record) × (slice_get records i ≡ Some r) × IsRecordOf (without label p) (slice_index_or new p (pos 0)) r)

-- each is 0, or the least value of a record of the row whose label is within this one without the mark
abbrev pub AreFloors : List Page → ℕ → Label → List ℤ → Type 0
AreFloors pages h label floors = (p : ℕ) → p < 52 → (slice_index_or floors p (pos 0) ≡ pos 0)
    ⊎ ((k i : ℕ) × (r : Record) × IsRecordAt pages h k i r × IsRecordOf (without label p) (slice_index_or floors p (pos 0)) r)

unmarked_within : (a label : Label) (p : ℕ) → IsWithin a label → ¬ IsMarked a p → IsWithin a (without label p)
unmarked_within a label p within not q = elim (cases_eq q p) [
  | inl same ↦ elim (absent_or_not (a p)) [
    | inl absent ↦ absent_within (a q) (without label p q) (ap a same ∙ absent)
    | inr marked ↦ absurd (not marked)
  ]
  | inr other ↦ subst (λ (m : Mark). IsMarkWithin (a q) m) (sym (without_other label p q other)) (within q)
]

-- each is as it was, or the least value of the record, which doesn't mark it
abbrev pub AreRaisedBy : Record → List ℤ → List ℤ → Type 0
AreRaisedBy r old new = (p : ℕ) → p < 52 → (slice_index_or new p (pos 0) ≡ slice_index_or old p (pos 0))
    ⊎ ((¬ IsMarked (marks r.label) p) × (r.least ≡ slice_index_or new p (pos 0)))

pub raised_at : (r : Record) (old now : List ℤ) (q : ℕ) (least : ℤ) → q < length now → ¬ IsMarked (marks r.label) q → AreRaisedBy r old now →
    ((least ≡ slice_index_or now q (pos 0)) ⊎ (r.least ≡ least)) → AreRaisedBy r old (set now q least)
raised_at r old now q least inside not was new p small = elim (cases_eq p q) [
  | inr other ↦ rw (get_or-set_other now q p least (pos 0) other) (was p small)
  | inl same ↦ subst (λ (k : ℕ). (slice_index_or (set now q least) k (pos 0) ≡ slice_index_or old k (pos 0))
      ⊎ ((¬ IsMarked (marks r.label) k) × (r.least ≡ slice_index_or (set now q least) k (pos 0)))) (sym same)
      (subst (λ (v : ℤ). (v ≡ slice_index_or old q (pos 0)) ⊎ ((¬ IsMarked (marks r.label) q) × (r.least ≡ v))) (sym (get_or-set_same now q least (pos 0) inside))
      (elim new [
        | inl kept ↦ subst (λ (v : ℤ). (v ≡ slice_index_or old q (pos 0)) ⊎ ((¬ IsMarked (marks r.label) q) × (r.least ≡ v))) (sym kept)
            (was q (subst (λ (k : ℕ). k < 52) same small))
        | inr mine ↦ inr (not, mine)
      ]))
]

-- what a record within the label raises is raised by the records
pub raised_by : (records : List Record) (label : Label) (i : ℕ) (r : Record) (old now new : List ℤ) → slice_get records i ≡ Some r → IsWithin (marks r.label) label →
    AreRaised records label old now → AreRaisedBy r now new → AreRaised records label old new
raised_by records label i r old now new at within was by p small = elim (by p small) [
  | inl same ↦ subst (λ (v : ℤ). (v ≡ slice_index_or old p (pos 0)) ⊎ ((j : ℕ) × (x : Record) × (slice_get records j ≡ Some x) × IsRecordOf (without label p) v x)) (sym same) (was p small)
  | inr mine ↦ inr (i, r, at, (mine.1, unmarked_within (marks r.label) label p within mine.0))
]

pub raised_start : (records : List Record) (label : Label) (old : List ℤ) → AreRaised records label old old
raised_start records label old p small = inl refl

pub floors_next : (pages : List Page) (h k : ℕ) (page : Page) (label : Label) (old new : List ℤ) → slice_get pages k ≡ Some page → page.head ≡ h → AreFloors pages h label old →
    AreRaised page.records.items label old new → AreFloors pages h label new
floors_next pages h k page label old new at head was raised p small = elim (raised p small) [
  | inl same ↦ subst (λ (v : ℤ). (v ≡ pos 0) ⊎ ((j i : ℕ) × (r : Record) × IsRecordAt pages h j i r × IsRecordOf (without label p) v r)) (sym same) (was p small)
  | inr found ↦ inr (k, found.0, found.1, (page, at, head, found.2), found.3)
]
