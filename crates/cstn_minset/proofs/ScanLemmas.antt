-- Scans of the pages of a row.
use Rattle.std.proofs.Common.{◌≡◌, inl, inr, ℕ, ◌+◌, ◌<◌, List, Bool, true, false, refl, sym, ap, ◌∙◌, subst, arith}
use Rattle.std.specs.Prelude.{Option, None, Some, slice_get, IsTrue, ◌↔◌}
use Rattle.std.proofs.lemmas.Bool.{cases_eq, false≢true}
use Rattle.std.proofs.lemmas.Option.{same_Some}
use Rattle.cstn_label.specs.Words.{has_bit}
use Rattle.cstn_minset.specs.Columns.{AreThose}
use Rattle.cstn_minset.specs.declared.columns.Record.{Record}
use Rattle.cstn_minset.specs.declared.page.Page.{Page}
use Rattle.cstn_minset.specs.Chains.{IsFirstKey}
use Rattle.cstn_minset.specs.Pages.{Paged, IsPageOf, numbered_pages, most_pages}
use Rattle.cstn_minset.proofs.HomeLemmas.{first_page, page_of_in, pages_are_numbers}
use Rattle.cstn_minset.specs.Sets.{IsNoneOf, IsNoneOn}

-- a scan of a row stands at a page, and no record of the pages before it is of the kind
pub record IsScanned (rows : Paged) (h : ℕ) (Kind : Record → Type 0) (place : Option ℕ) : Type 0 where
  pub low : ℕ
  pub here : IsFirstKey (numbered_pages rows) h low place
  pub none : (k : ℕ) (p : Page) → slice_get rows.pages k ≡ Some p → p.head ≡ h → k < low → IsNoneOn p Kind

pub scanned_start : (rows : Paged) (h : ℕ) (Kind : Record → Type 0) (place : Option ℕ) → IsFirstKey (numbered_pages rows) h 0 place → IsScanned rows h Kind place
scanned_start rows h Kind place first = record { low = 0; here = first; none = λ k p is head less. absurd (omega (arith, less)) }

pub scanned_page : (rows : Paged) (h k : ℕ) (Kind : Record → Type 0) → IsScanned rows h Kind (Some k) → IsPageOf rows.pages h k
scanned_page rows h k Kind scan = first_page (most_pages rows.heads rows.capacity) h scan.low rows.pages (Some k) scan.here

pub scanned_more : (rows : Paged) (h k : ℕ) (Kind : Record → Type 0) (next : Option ℕ) (p : Page) → IsScanned rows h Kind (Some k) → slice_get rows.pages k ≡ Some p → IsNoneOn p Kind → IsFirstKey (numbered_pages rows) h (k + 1) next → IsScanned rows h Kind next
scanned_more rows h k Kind next p scan is none first = record {
  low = k + 1;
  here = first;
  none = λ j q there head less. elim (cases_eq j k) [
    | inl same ↦ subst (λ x. IsNoneOn x Kind) (same_Some p q (sym is ∙ rw same at there)) none
    | inr other ↦ elim (scan.here.least j j (page_of_in (most_pages rows.heads rows.capacity) j rows.pages h (q, there, head))) [
      | inl before ↦ scan.none j q there head before
      | inr behind ↦ absurd (omega (arith, behind, less, other, pages_are_numbers (most_pages rows.heads rows.capacity) rows.pages k h scan.here.key scan.here.there))
    ]
  ];
}

pub scanned_end : (rows : Paged) (h : ℕ) (Kind : Record → Type 0) (place : Option ℕ) → ((k : ℕ) → place ≡ Some k → ⊥) → IsScanned rows h Kind place → IsNoneOf rows.pages h Kind
scanned_end rows h Kind None not scan = λ k i r at.
    scan.none k at.0 at.1 at.2 (scan.here k k (page_of_in (most_pages rows.heads rows.capacity) k rows.pages h (at.0, at.1, at.2))) i r at.3
scanned_end rows h Kind (Some k) not scan = absurd (not k refl)

-- none of the first n records is of the kind
abbrev pub IsNoneUpto : List Record → ℕ → (Record → Type 0) → Type 0
IsNoneUpto rs n Kind = (i : ℕ) (r : Record) → i < n → slice_get rs i ≡ Some r → ¬ Kind r

pub none_next : (rs : List Record) (n : ℕ) (Kind : Record → Type 0) (x : Record) → IsNoneUpto rs n Kind → slice_get rs n ≡ Some x → ¬ Kind x → IsNoneUpto rs (n + 1) Kind
none_next rs n Kind x none here not = λ i r less there kind.
    elim (cases_eq i n) [
      | inl same ↦ not (subst Kind (sym (same_Some x r (sym here ∙ rw same at there))) kind)
      | inr other ↦ none i r (omega (arith, less, other)) there kind
    ]

pub none_more : (rs : List Record) (n : ℕ) (Kind : Record → Type 0) (x : Record) (test : Bool) → IsNoneUpto rs n Kind → slice_get rs n ≡ Some x → (IsTrue test ↔ Kind x) → test ≡ false → IsNoneUpto rs (n + 1) Kind
none_more rs n Kind x test none here is no' = none_next rs n Kind x none here (λ kind. (let sure = is.1 kind in cc))

-- the bits are those of records of a wide kind that are still to be looked at, and no other record is of the kind
pub record IsLookedThrough (rs : List Record) (Kind Wide : Record → Type 0) (rest : ℕ) : Type 0 where
  pub among : (i : ℕ) → has_bit rest i ≡ true → (r : Record) × (slice_get rs i ≡ Some r) × Wide r
  pub none : (i : ℕ) (r : Record) → has_bit rest i ≡ false → slice_get rs i ≡ Some r → ¬ Kind r

pub looked_start : (rs : List Record) (Kind Wide : Record → Type 0) (word : ℕ) → AreThose Wide rs word → ((r : Record) → Kind r → Wide r) → IsLookedThrough rs Kind Wide word
looked_start rs Kind Wide word those wide = record {
  among = λ i set. (those i).0 set;
  none = λ i r out there kind. false≢true (sym out ∙ (those i).1 (r, there, wide r kind));
}

pub looked_next : (rs : List Record) (Kind Wide : Record → Type 0) (rest rest' i : ℕ) (x : Record) → IsLookedThrough rs Kind Wide rest →
    has_bit rest' i ≡ false → ((k : ℕ) → (k ≡ i → ⊥) → has_bit rest' k ≡ has_bit rest k) → slice_get rs i ≡ Some x → ¬ Kind x → IsLookedThrough rs Kind Wide rest'
looked_next rs Kind Wide rest rest' i x was gone others here not = record {
  among = λ j set. elim (cases_eq j i) [
    | inl same ↦ absurd (false≢true (sym gone ∙ sym (ap (has_bit rest') same) ∙ set))
    | inr other ↦ was.among j (sym (others j other) ∙ set)
  ];
  none = λ j r out there kind. elim (cases_eq j i) [
    | inl same ↦ not (subst Kind (sym (same_Some x r (sym here ∙ rw same at there))) kind)
    | inr other ↦ was.none j r (sym (others j other) ∙ out) there kind
  ];
}

-- no record of the first n pages is of the kind
abbrev pub AreNoneUpto : List Page → ℕ → (Record → Type 0) → Type 0
AreNoneUpto pages n Kind = (k : ℕ) (p : Page) → k < n → slice_get pages k ≡ Some p → IsNoneOn p Kind

pub are_none_more : (pages : List Page) (n : ℕ) (Kind : Record → Type 0) (x : Page) → AreNoneUpto pages n Kind → slice_get pages n ≡ Some x → IsNoneOn x Kind → AreNoneUpto pages (n + 1) Kind
are_none_more pages n Kind x none here last = λ k p less there.
    elim (cases_eq k n) [
      | inl same ↦ subst (λ q. IsNoneOn q Kind) (same_Some x p (sym here ∙ rw same at there)) last
      | inr other ↦ none k p (omega (arith, less, other)) there
    ]
