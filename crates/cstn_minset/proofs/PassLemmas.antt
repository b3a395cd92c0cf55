-- A pass through the records that keeps the earliest so far.
use Rattle.std.proofs.Common.{◌≡◌, ◌⊎◌, inl, inr, ℕ, ◌+◌, ◌<◌, ◌≤◌, List, length, Bool, true, false, cond, refl, ap, sym, ◌∙◌, subst, arith}
use Rattle.std.specs.Prelude.{Option, None, Some, slice_get, nat_lt}
use Rattle.std.proofs.lemmas.Bool.{cases_lt, cases_eq}
use Rattle.std.proofs.lemmas.Option.{none-some, same_Some, slice_get_within}
use Rattle.cstn_label.specs.declared.bounds.Bound.{Bound}
use Rattle.cstn_pool.specs.declared.slot_id.SlotId.{SlotId}
use Rattle.cstn_minset.specs.declared.columns.Record.{Record}
use Rattle.cstn_minset.specs.declared.page.Page.{Page}
use Rattle.cstn_minset.specs.Pages.{Paged}
use Rattle.cstn_minset.specs.Sets.{Entries, IsPlaced, HasItsRecord, IsRecordAt, IsEarliestOfKind, IsStored, bound_of}
use Rattle.cstn_minset.specs.Passes.{IsCandidate, IsOnPage, IsOnPages, IsEarliestSlot, earlier_slot}
use Rattle.cstn_minset.proofs.SetLemmas.{held_at}
use Rattle.cstn_minset.proofs.StoredLemmas.{entry_in_slot, no_entry}

-- the earliest of a group is that of one with the same members
earliest_as : (A B : ℕ → ℕ → Type 0) (o : Option SlotId) → ((s n : ℕ) → A s n → B s n) → ((s n : ℕ) → B s n → A s n) → IsEarliestSlot A o → IsEarliestSlot B o
earliest_as A B None to from none = λ s n b. none s n (from s n b)
earliest_as A B (Some id) to from is = (to id.slot id.birth is.0, λ s n b. is.1 s n (from s n b))

-- the earlier of two is the earliest of both groups
module _ (A B C : ℕ → ℕ → Type 0) (left : (s n : ℕ) → A s n → C s n) (right : (s n : ℕ) → B s n → C s n) (split : (s n : ℕ) → C s n → A s n ⊎ B s n) where
  earliest_of : (a b : Option SlotId) → IsEarliestSlot A a → IsEarliestSlot B b → IsEarliestSlot C (earlier_slot a b)
  earliest_of None b none is = earliest_as B C b right (λ s n c. elim (split s n c) [ inl x ↦ absurd (none s n x) | inr y ↦ y ]) is
  earliest_of (Some i) None is none = earliest_as A C (Some i) left (λ s n c. elim (split s n c) [ inl x ↦ x | inr y ↦ absurd (none s n y) ]) is
  earliest_of (Some i) (Some j) one other = go (nat_lt j.birth i.birth) refl
    where
      go : (t : Bool) → nat_lt j.birth i.birth ≡ t → IsEarliestSlot C (cond t (Some j) (Some i))
      go true less = (
        right j.slot j.birth other.0,
        λ s n c. elim (split s n c) [ inl x ↦ (let upto = one.1 s n x in grind arith) | inr y ↦ other.1 s n y ],
      )
      go false more = (
        left i.slot i.birth one.0,
        λ s n c. elim (split s n c) [ inl x ↦ one.1 s n x | inr y ↦ (let upto = other.1 s n y in grind arith) ],
      )

module _ (births : List ℕ) (Kind : Bound → Type 0) (low : ℕ) where
  -- the slot and the birth are those of one of the first n records of row h
  abbrev pub IsUpto : ℕ → List Record → ℕ → ℕ → ℕ → Type 0
  IsUpto h rs n slot birth = (i : ℕ) × (r : Record) × (i < n) × (slice_get rs i ≡ Some r) × IsCandidate births Kind low h r slot birth

  pub none_upto : (h : ℕ) (rs : List Record) → IsEarliestSlot (IsUpto h rs 0) None
  none_upto h rs = λ s n it. absurd (omega (arith, it.2))

  pub upto_more : (h : ℕ) (rs : List Record) (n : ℕ) (x : Record) (best one : Option SlotId) → slice_get rs n ≡ Some x → IsEarliestSlot (IsUpto h rs n) best → IsEarliestSlot (IsCandidate births Kind low h x) one → IsEarliestSlot (IsUpto h rs (n + 1)) (earlier_slot best one)
  upto_more h rs n x best one here before is =
      earliest_of (IsUpto h rs n) (IsCandidate births Kind low h x) (IsUpto h rs (n + 1))
      (λ s b it. (it.0, it.1, omega (arith, it.2), it.3, it.4))
      (λ s b it. (n, x, omega arith, here, it))
      (λ s b it. elim (cases_eq it.0 n) [
        | inl same ↦ inr (subst (λ r. IsCandidate births Kind low h r s b) (sym (same_Some x it.1 (sym here ∙ rw same at it.3))) it.4)
        | inr other ↦ inl (it.0, it.1, omega (arith, it.2, other), it.3, it.4)
      ])
      best one before is

  pub upto_all : (page : Page) (rs : List Record) (n : ℕ) (best : Option SlotId) → rs ≡ page.records.items → (length rs ≤ n) → IsEarliestSlot (IsUpto page.head rs n) best → IsEarliestSlot (IsOnPage births Kind low page) best
  upto_all page rs n best same past is =
      earliest_as (IsUpto page.head rs n) (IsOnPage births Kind low page) best
      (λ s b it. (it.0, it.1, rw same at it.3, it.4))
      (λ s b it. (let there = rw (← same) at it.2 in (it.0, it.1, omega (arith, past, slice_get_within rs it.0 it.1 there), there, it.3)))
      is

  -- the slot and the birth are those of a record of one of the first n pages
  abbrev pub AreUpto : List Page → ℕ → ℕ → ℕ → Type 0
  AreUpto pages n slot birth = (k : ℕ) × (page : Page) × (k < n) × (slice_get pages k ≡ Some page) × IsOnPage births Kind low page slot birth

  pub none_are_upto : (pages : List Page) → IsEarliestSlot (AreUpto pages 0) None
  none_are_upto pages = λ s n it. absurd (omega (arith, it.2))

  pub are_upto_more : (pages : List Page) (n : ℕ) (x : Page) (best one : Option SlotId) → slice_get pages n ≡ Some x → IsEarliestSlot (AreUpto pages n) best → IsEarliestSlot (IsOnPage births Kind low x) one → IsEarliestSlot (AreUpto pages (n + 1)) (earlier_slot best one)
  are_upto_more pages n x best one here before is =
      earliest_of (AreUpto pages n) (IsOnPage births Kind low x) (AreUpto pages (n + 1))
      (λ s b it. (it.0, it.1, omega (arith, it.2), it.3, it.4))
      (λ s b it. (n, x, omega arith, here, it))
      (λ s b it. elim (cases_eq it.0 n) [
        | inl same ↦ inr (subst (λ p. IsOnPage births Kind low p s b) (sym (same_Some x it.1 (sym here ∙ rw same at it.3))) it.4)
        | inr other ↦ inl (it.0, it.1, omega (arith, it.2, other), it.3, it.4)
      ])
      best one before is

  pub are_upto_all : (pages all : List Page) (n : ℕ) (best : Option SlotId) → pages ≡ all → (length pages ≤ n) → IsEarliestSlot (AreUpto pages n) best → IsEarliestSlot (IsOnPages births Kind low all) best
  are_upto_all pages all n best same past is =
      earliest_as (AreUpto pages n) (IsOnPages births Kind low all) best
      (λ s b it. (it.0, it.1, rw same at it.3, it.4))
      (λ s b it. (let there = rw (← same) at it.2 in (it.0, it.1, omega (arith, past, slice_get_within pages it.0 it.1 there), there, it.3)))
      is

module _ (births : List ℕ) (rows : Paged) (nodes : ℕ) (T : Entries) (Kind : Bound → Type 0) (low : ℕ) (is : IsStored births rows nodes T) where
  -- an entry of the kind with a birth from `low` on has a record, which is not later than none
  placed_on_pages : (u : ℕ) (e : ℕ × Bound) → IsPlaced T u e → Kind e.1 → low ≤ e.0 → (IsOnPages births Kind low rows.pages u e.0 → ⊥) → ⊥
  placed_on_pages u e there kind above not =
      none-some e (no_entry births rows nodes u T is none ∙ there)
    where
      none : (h k i : ℕ) (r : Record) → IsRecordAt rows.pages h k i r → r.slot ≡ u → ⊥
      none h k i r at slot =
          let listed = held_at (HasItsRecord T) rows.pages h k i r is.0.listed at in
          let same : (listed.0, listed.1) ≡ e = same_Some (listed.0, listed.1) e (sym (subst (λ (s : ℕ). IsPlaced T s (listed.0, listed.1)) slot listed.2) ∙ there) in
          let bound : e.1 ≡ bound_of (at.0.head, r) = sym (ap (λ (x : ℕ × Bound). x.1) same) ∙ ap bound_of listed.3 ∙ ap (λ n. bound_of (n, r)) (sym at.2) in
          not (
            k,
            at.0,
            at.1,
            (
              i,
              r,
              at.3,
              record {
                slot_is = slot;
                birth_is = is.1.born u e there;
                kind = subst Kind bound kind;
                above = above;
              },
            ),
          )

  -- a record of the kind is that of an entry
  on_pages_placed : (u n : ℕ) → IsOnPages births Kind low rows.pages u n → (b : Bound) × IsPlaced T u (n, b) × Kind b × (low ≤ n)
  on_pages_placed u n it =
      let page : Page = it.1 in
      let one : Record = it.3.1 in
      let candidate = it.3.3 in
      let b : Bound = bound_of (page.head, one) in
      let told = entry_in_slot births rows nodes u T b is (record {
        head = page.head;
        page = it.0;
        place = it.3.0;
        record_is = one;
        there = (page, it.2, refl, it.3.2);
        slot_is = candidate.slot_is;
        bound_is = refl;
      }) in
      (b, subst (λ (m : ℕ). IsPlaced T u (m, b)) candidate.birth_is (sym told), candidate.kind, candidate.above)

  pub earliest_first : (answer : Option SlotId) → IsEarliestSlot (IsOnPages births Kind low rows.pages) answer → IsEarliestOfKind T Kind low answer
  earliest_first None none = λ u e there kind. elim (cases_lt e.0 low) [
    | inl less ↦ less
    | inr above ↦ absurd (placed_on_pages u e there kind above (none u e.0))
  ]
  earliest_first (Some id) one =
      let found = on_pages_placed id.slot id.birth one.0 in
      record {
        bound = found.0;
        there = found.1;
        kind = found.2;
        above = found.3;
        least = λ u e there kind. elim (cases_lt e.0 low) [
          | inl less ↦ inl less
          | inr above ↦ elim (cases_lt e.0 id.birth) [
            | inl before ↦ absurd (placed_on_pages u e there kind above (λ it. (let upto = one.1 u e.0 it in omega (arith, upto, before))))
            | inr upto ↦ inr upto
          ]
        ];
      }
