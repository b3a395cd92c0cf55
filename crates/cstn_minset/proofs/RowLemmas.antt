-- Steps of rows that stay in order.
use Rattle.std.proofs.Common.{◌≡◌, inl, inr, ℕ, zero, suc, ◌+◌, ◌<◌, ◌≤◌, ◌^◌, ◌++◌, List, [], ◌∷◌, length, set, get_or, Bool, true, false, nat_eq, refl, ap, sym, ◌∙◌, subst, arith, length-append}
use Rattle.std.specs.Prelude.{None, Some, slice_get, All}
use Rattle.std.specs.List.{swap_remove}
use Rattle.std.proofs.lemmas.Bool.{cases_eq, cases_lt}
use Rattle.std.proofs.lemmas.List.{nil_from_length}
use Rattle.std.proofs.lemmas.Option.{same_Some, slice_get_within, get_or_from_slice_get, slice_get-get_or}
use Rattle.cstn_pool.specs.Slots.{padded}
use Rattle.cstn_minset.specs.declared.columns.Record.{Record}
use Rattle.cstn_minset.specs.declared.page.Page.{Page}
use Rattle.cstn_minset.specs.Chains.{SlotChains, IsIn}
use Rattle.cstn_minset.specs.Links.{Ring, AreLinks, SameSize}
use Rattle.cstn_minset.specs.Pages.{IsPage, IsPageOf, held_records, homes, most_pages, AreOpened, IsInOrder, IsPaged}
use Rattle.cstn_minset.proofs.HeldLemmas.{less_by_one, dense_pages}
use Rattle.cstn_minset.proofs.HomeLemmas.{IsFit, Inserts, in_page, page_of_in, past_table, table_push, slice_get_push}

pub got : {X : Type 0} (xs : List X) (i : ℕ) → i < length xs → (x : X) × (slice_get xs i ≡ Some x)
got [] i inside = absurd (omega (arith, inside))
got (x ∷ xs) zero inside = (x, refl)
got (x ∷ xs) (suc i) inside = got xs i (omega (arith, inside))

pub at_all : {X : Type 0} (P : X → Type 0) (xs : List X) (i : ℕ) (x : X) → All P xs → slice_get xs i ≡ Some x → P x
at_all P xs i x all is = subst P (get_or_from_slice_get xs i x x is) (all i x (slice_get_within xs i x is))

pub read_page : (pages : List Page) (i : ℕ) (p read : Page) → slice_get pages i ≡ Some p → read ≡ get_or pages i read → read ≡ p
read_page pages i p read is reads = reads ∙ get_or_from_slice_get pages i p read is

-- a page with one record more, or one less, still fits
pub fit_more : (heads k : ℕ) (p q : Page) (r : Record) → IsInOrder heads p → p.head < heads → length p.records.items < 64 → q.head ≡ p.head → q.records.items ≡ p.records.items ++ r ∷ [] → IsPage q → (heads ≤ k → p.head < heads → 63 ≤ length p.records.items) → IsFit heads k q
fit_more heads k p q r is row room head items range dense =
    let size : length q.records.items ≡ length p.records.items + 1 = rw items (length-append p.records.items (r ∷ [])) in
    record {
      order = record { range = range; room = omega (arith, size, room); head = omega (arith, head, row); free = λ at_end. absurd (omega (arith, at_end, head, row)) };
      dense = λ behind below. omega (arith, size, dense behind row);
    }

pub fit_less : (heads k i : ℕ) (p q : Page) (r : Record) → IsInOrder heads p → p.head < heads → i < length p.records.items → q.head ≡ p.head → q.records.items ≡ swap_remove p.records.items i r → IsPage q → (heads ≤ k → 63 < length p.records.items) → IsFit heads k q
fit_less heads k i p q r is row inside head items range dense =
    let size = less_by_one p.records.items q.records.items i r inside items in
    record {
      order = record { range = range; room = omega (arith, size, is.room); head = omega (arith, head, row); free = λ at_end. absurd (omega (arith, at_end, head, row)) };
      dense = λ behind below. omega (arith, size, dense behind);
    }

pub fit_full : (heads k : ℕ) (q : Page) → q.head < heads → length q.records.items ≡ 64 → IsPage q → IsFit heads k q
fit_full heads k q row size range = record {
  order = record { range = range; room = omega (arith, size); head = omega (arith, row); free = λ at_end. absurd (omega (arith, at_end, row)) };
  dense = λ behind below. omega (arith, size);
}

-- an empty page of no row fits, and a page in order fits as a first page
pub fit_none : (heads k : ℕ) (q : Page) → q.head ≡ heads → q.records.items ≡ [] → IsPage q → IsFit heads k q
fit_none heads k q head none range = record {
  order = record { range = range; room = omega (arith, ap length none); head = omega (arith, head); free = λ at_end. none };
  dense = λ behind below. absurd (omega (arith, head, below));
}

pub fit_first_empty : (heads k : ℕ) (q : Page) → k < heads → q.head ≡ k → q.records.items ≡ [] → IsPage q → IsFit heads k q
fit_first_empty heads k q first head none range = record {
  order = record { range = range; room = omega (arith, ap length none); head = omega (arith, head, first); free = λ at_end. none };
  dense = λ behind below. absurd (omega (arith, first, behind));
}

pub fit_first : (heads k : ℕ) (q : Page) → k < heads → IsInOrder heads q → IsFit heads k q
fit_first heads k q first order = record { order = order; dense = λ behind below. absurd (omega (arith, first, behind)) }

-- a page with records is of a row
pub of_row : (heads i : ℕ) (p : Page) → IsInOrder heads p → i < length p.records.items → p.head < heads
of_row heads i p is some = elim (cases_eq p.head heads) [
  | inl free ↦ absurd (omega (arith, some, ap length (is.free free)))
  | inr not ↦ omega (arith, is.head, not)
]

-- a page of no row is not a first page
pub behind_first : (heads k : ℕ) (pages : List Page) → ((h : ℕ) → h < heads → IsPageOf pages h h) → IsPageOf pages heads k → heads ≤ k
behind_first heads k pages own free = elim (cases_lt k heads) [
  | inl first ↦ (let is = own k first in absurd (omega (arith, first, is.2, free.2, ap (λ x. x.head) (same_Some is.0 free.0 (sym is.1 ∙ free.1)))))
  | inr behind ↦ behind
]

-- where no page is of no row, and records find room, there is a page that was never used
pub page_left : (heads capacity room : ℕ) (pages : List Page) (links : Ring) → IsPaged heads capacity pages links room → ((u j : ℕ) → IsIn (padded None (most_pages heads capacity) (homes 0 pages)) heads u j → j < 0) → length (held_records pages) ≤ capacity → length pages < most_pages heads capacity
page_left heads capacity room pages links is none left = elim (cases_lt (length pages) (most_pages heads capacity)) [
  | inl less ↦ less
  | inr all ↦
      let many = dense_pages heads pages (λ k p behind there. is.dense k p behind there (row k p there)) in
      absurd (omega (arith, many, all, left))
]
  where
    row : (k : ℕ) (p : Page) → slice_get pages k ≡ Some p → p.head < heads
    row k p there = elim (cases_eq p.head heads) [
      | inl free ↦ absurd (omega (arith, none k k (page_of_in (most_pages heads capacity) k pages heads (p, there, free))))
      | inr not ↦ omega (arith, (at_all (IsInOrder heads) pages k p is.order there).head, not)
    ]

pub all_from : {X : Type 0} (P : X → Type 0) (xs : List X) → ((k : ℕ) (x : X) → slice_get xs k ≡ Some x → P x) → All P xs
all_from P xs each k d inside = each k (get_or xs k d) (slice_get-get_or xs k d inside)

held_none : (pages : List Page) → ((k : ℕ) (p : Page) → slice_get pages k ≡ Some p → p.records.items ≡ []) → held_records pages ≡ []
held_none [] none = refl
held_none (p ∷ pages) none = rw (none 0 p refl) (held_none pages (λ k q is. none (suc k) q is))

pub opened_none : (heads : ℕ) (pages : List Page) → AreOpened heads pages → held_records pages ≡ []
opened_none heads pages is = held_none pages (λ k p there. (is.1 k p there).1)

-- rows begin in order
pub opened_all : (heads capacity room : ℕ) (pages : List Page) (links : Ring) → links.slots ≡ most_pages heads capacity → links.heads ≡ heads + 1 → AreOpened heads pages → AreLinks links (padded None links.slots (homes 0 pages)) → most_pages heads capacity ≤ room → (heads < 2 ^ 16) × (capacity < 2 ^ 32) → IsPaged heads capacity pages links room
opened_all heads capacity room pages links slots chains opened linked enough small = record {
  slots = slots;
  chains = chains;
  linked = subst (λ (n : ℕ). AreLinks links (padded None n (homes 0 pages))) slots linked;
  enough = enough;
  few = omega (arith, opened.0);
  small = small;
  own = λ h inside. let p = got pages h (omega (arith, opened.0, inside)) in (p.0, p.1, (opened.1 h p.0 p.1).0);
  order = all_from (IsInOrder heads) pages (λ k p there.
      let is = opened.1 k p there in
      let within = slice_get_within pages k p there in
      record { range = is.2; room = omega (arith, ap length is.1); head = omega (arith, is.0, within, opened.0); free = λ at_end. is.1 });
  dense = λ k p behind there below. let within = slice_get_within pages k p there in absurd (omega (arith, behind, within, opened.0));
}

-- one first page more
pub opened_more : (links links' : Ring) (h end : ℕ) (pages : List Page) (q : Page) → AreOpened h pages → AreLinks links (padded None links.slots (homes 0 pages)) → h < links.heads → h < links.slots → SameSize links links' → end ≡ links.slots + h → Inserts links links' h end → (q.head ≡ h) × (q.records.items ≡ []) × IsPage q → AreOpened (h + 1) (pages ++ q ∷ []) × AreLinks links' (padded None links'.slots (homes 0 (pages ++ q ∷ [])))
opened_more links links' h end pages q opened linked inside slot size end_is step is = ((omega (arith, opened.0, length-append pages (q ∷ [])), each), subst (λ (n : ℕ). AreLinks links' (padded None n (homes 0 (pages ++ q ∷ [])))) (sym size.0) (rw (table_push links.slots pages q (omega (arith, opened.0, slot)), is.0, opened.0) linked'))
  where
    T : SlotChains
    T = padded None links.slots (homes 0 pages)

    each : (k : ℕ) (p : Page) → slice_get (pages ++ q ∷ []) k ≡ Some p → (p.head ≡ k) × (p.records.items ≡ []) × IsPage p
    each k p there = elim (slice_get_push pages q p k there) [
      | inl here ↦ subst (λ (x : Page). (x.head ≡ k) × (x.records.items ≡ []) × IsPage x) here.1 (omega (arith, is.0, here.0, opened.0), is.1, is.2)
      | inr old ↦ opened.1 k p old
    ]

    nothing : (u j : ℕ) → IsIn (padded None links.slots (homes 0 pages)) h u j → ⊥
    nothing u j there =
        let found = (in_page links.slots h u j pages there).1 in
        let within = slice_get_within pages u found.0 found.1 in
        omega (arith, within, opened.0, found.2, (opened.1 u found.0 found.1).0)

    linked' : AreLinks links' (set (padded None links.slots (homes 0 pages)) h (Some (h, h)))
    linked' = step (padded None links.slots (homes 0 pages)) h h linked inside (omega (arith, slot, linked.small)) (subst (λ k. get_or (padded None links.slots (homes 0 pages)) k None ≡ None) opened.0 (past_table links.slots pages)) (λ u there. nothing u h there)
        (record { low = 0; start = inr (end_is, inside, refl); up = omega arith; gap = λ u j there. absurd (nothing u j there) })

pub none_from : {X : Type 0} (xs : List X) (b : Bool) → b ≡ nat_eq (length xs) 0 → b ≡ true → xs ≡ []
none_from xs b is yes' = nil_from_length xs (grind arith)

pub some_from : {X : Type 0} (xs : List X) (b : Bool) → b ≡ nat_eq (length xs) 0 → b ≡ false → 0 < length xs
some_from xs b is no' = grind arith
