-- The chains of pages, and rows that stay in order.
use Rattle.std.proofs.Common.{◌≡◌, ◌⊎◌, inl, inr, ℕ, zero, suc, ◌+◌, ◌<◌, ◌≤◌, ◌^◌, ◌++◌, List, [], ◌∷◌, length, set, get_or, refl, ap, sym, ◌∙◌, subst, arith, length-append}
use Rattle.std.specs.Prelude.{Option, None, Some, IfSome, slice_get}
use Rattle.std.proofs.lemmas.List.{length-set}
use Rattle.std.proofs.lemmas.List.Elements.{All-set, All-push}
use Rattle.std.proofs.lemmas.Bool.{cases_eq}
use Rattle.std.proofs.lemmas.Option.{none-some, same_Some, some_pair_parts}
use Rattle.cstn_pool.specs.Slots.{padded}
use Rattle.cstn_pool.proofs.PaddedLemmas.{padded_length, padded_at, padded_set, padded_push}
use Rattle.cstn_minset.specs.declared.page.Page.{Page}
use Rattle.cstn_minset.specs.Chains.{SlotChains, IsIn, IsFirstKey}
use Rattle.cstn_minset.specs.Links.{Ring, IsPrev, AreLinks, AreOwnKeys}
use Rattle.cstn_minset.specs.Pages.{IsPageOf, homes, most_pages, IsInOrder, IsPaged}
use Rattle.cstn_minset.proofs.LinkLemmas.{in_less}
use Rattle.cstn_minset.proofs.HeldLemmas.{got_set, got_other}

pub homes_length : (n : ℕ) (pages : List Page) → length (homes n pages) ≡ length pages
homes_length n [] = refl
homes_length n (p ∷ pages) = ap suc (homes_length (suc n) pages)

home_there : (n k : ℕ) (pages : List Page) (p : Page) → slice_get pages k ≡ Some p → get_or (homes n pages) k None ≡ Some (p.head, n + k)
home_there n k [] p is = absurd (none-some p is)
home_there n zero (x ∷ pages) p is = rw (same_Some x p is) (ap (λ m. Some (p.head, m)) (omega arith))
home_there n (suc k) (x ∷ pages) p is = home_there (suc n) k pages p is ∙ ap (λ m. Some (p.head, m)) (omega arith)

there_home : (n h k j : ℕ) (pages : List Page) → get_or (homes n pages) k None ≡ Some (h, j) → (j ≡ n + k) × IsPageOf pages h k
there_home n h k j [] is = absurd (none-some (h, j) is)
there_home n h zero j (x ∷ pages) is =
    let both = some_pair_parts x.head h n j is in
    (omega (arith, both.1), (x, refl, both.0))
there_home n h (suc k) j (x ∷ pages) is =
    let found = there_home (suc n) h k j pages is in
    (omega (arith, found.0), found.1)

abbrev some_home : ℕ → ℕ → Option (ℕ × ℕ)
some_home h k = Some (h, k)

from_zero : (h k : ℕ) → some_home h (0 + k) ≡ some_home h k
from_zero h k = ap (some_home h) (omega arith)

-- the table of chains has a page under its row and its number, and nothing else
pub page_in : (n k : ℕ) (pages : List Page) (p : Page) → slice_get pages k ≡ Some p → IsIn (padded None n (homes 0 pages)) p.head k k
page_in n k pages p is = padded_at None n k (homes 0 pages) ∙ home_there 0 k pages p is ∙ from_zero p.head k

pub in_page : (n h k j : ℕ) (pages : List Page) → IsIn (padded None n (homes 0 pages)) h k j → (j ≡ k) × IsPageOf pages h k
in_page n h k j pages is = let found = there_home 0 h k j pages (sym (padded_at None n k (homes 0 pages)) ∙ is) in (omega (arith, found.0), found.1)

pub pages_are_numbers : (n : ℕ) (pages : List Page) → AreOwnKeys (padded None n (homes 0 pages))
pages_are_numbers n pages s h k is = (in_page n h s k pages is).0

pub less_are_numbers : (table : SlotChains) (slot : ℕ) → AreOwnKeys table → AreOwnKeys (set table slot None)
less_are_numbers table slot numbers s h k is = numbers s h k (in_less table slot h s k is).1

homes_set : (n i : ℕ) (pages : List Page) (q : Page) → homes n (set pages i q) ≡ set (homes n pages) i (Some (q.head, n + i))
homes_set n i [] q = refl
homes_set n zero (p ∷ pages) q = ap (λ m. Some (q.head, m) ∷ homes (suc n) pages) (omega arith)
homes_set n (suc i) (p ∷ pages) q = ap (λ t. Some (p.head, n) ∷ t) (homes_set (suc n) i pages q ∙ ap (λ m. set (homes (suc n) pages) i (Some (q.head, m))) (omega arith))

homes_push : (n : ℕ) (pages : List Page) (q : Page) → homes n (pages ++ q ∷ []) ≡ homes n pages ++ Some (q.head, n + length pages) ∷ []
homes_push n [] q = ap (λ m. Some (q.head, m) ∷ []) (omega arith)
homes_push n (p ∷ pages) q = ap (λ t. Some (p.head, n) ∷ t) (homes_push (suc n) pages q ∙ ap (λ m. homes (suc n) pages ++ Some (q.head, m) ∷ []) (omega arith))

same_homes : (n i : ℕ) (pages : List Page) (p q : Page) → slice_get pages i ≡ Some p → q.head ≡ p.head → homes n (set pages i q) ≡ homes n pages
same_homes n i [] p q is head = refl
same_homes n zero (x ∷ pages) p q is head = ap (λ h. Some (h, n) ∷ homes (suc n) pages) (head ∙ sym (ap (λ y. y.head) (same_Some x p is)))
same_homes n (suc i) (x ∷ pages) p q is head = ap (λ t. Some (x.head, n) ∷ t) (same_homes (suc n) i pages p q is head)

-- a page goes to another row
pub table_set : (n i : ℕ) (pages : List Page) (q : Page) → i < length pages → padded None n (homes 0 (set pages i q)) ≡ set (padded None n (homes 0 pages)) i (Some (q.head, i))
table_set n i pages q inside = rw (homes_set 0 i pages q, from_zero q.head i) (padded_set None n i (Some (q.head, i)) (homes 0 pages) (omega (arith, homes_length 0 pages, inside)))

-- a page is used for the first time
pub table_push : (n : ℕ) (pages : List Page) (q : Page) → length pages < n → padded None n (homes 0 (pages ++ q ∷ [])) ≡ set (padded None n (homes 0 pages)) (length pages) (Some (q.head, length pages))
table_push n pages q inside =
    rw (homes_push 0 pages q, from_zero q.head (length pages)) (padded_push None n (Some (q.head, length pages)) (homes 0 pages) (omega (arith, homes_length 0 pages, inside)) ∙ ap (λ k. set (padded None n (homes 0 pages)) k (Some (q.head, length pages))) (homes_length 0 pages))

pub table_length : (n : ℕ) (pages : List Page) → length pages ≤ n → length (padded None n (homes 0 pages)) ≡ n
table_length n pages within = padded_length None n (homes 0 pages) (omega (arith, homes_length 0 pages, within))

-- a page that is in order, in its place
pub record IsFit (heads k : ℕ) (q : Page) : Type 0 where
  pub order : IsInOrder heads q
  pub dense : heads ≤ k → q.head < heads → 63 ≤ length q.records.items

own_set : (heads k : ℕ) (pages : List Page) (p q : Page) → slice_get pages k ≡ Some p → (k < heads → q.head ≡ k) → ((h : ℕ) → h < heads → IsPageOf pages h h) → (h : ℕ) → h < heads → IsPageOf (set pages k q) h h
own_set heads k pages p q is head own h inside = elim (cases_eq k h) [
  | inl same ↦ (q, rw (← same) (got_set pages k q p is), rw (← same) (head (omega (arith, same, inside))))
  | inr other ↦ (let old = own h inside in (old.0, got_other pages k h q other ∙ old.1, old.2))
]

dense_set : (heads k : ℕ) (pages : List Page) (p q : Page) → slice_get pages k ≡ Some p → IsFit heads k q → ((j : ℕ) (x : Page) → heads ≤ j → slice_get pages j ≡ Some x → x.head < heads → 63 ≤ length x.records.items) → (j : ℕ) (x : Page) → heads ≤ j → slice_get (set pages k q) j ≡ Some x → x.head < heads → 63 ≤ length x.records.items
dense_set heads k pages p q is fit dense j x above there row = elim (cases_eq k j) [
  | inl same ↦
      let here : q ≡ x = same_Some q x (sym (got_set pages k q p is) ∙ rw (← same) at there) in
      subst (λ y. 63 ≤ length y.records.items) here (fit.dense (omega (arith, same, above)) (subst (λ y. y.head < heads) (sym here) row))
  | inr other ↦ dense j x above (sym (got_other pages k j q other) ∙ there) row
]

-- rows stay in order where a page of theirs changes, and stays in its row
pub changed : (heads capacity room k : ℕ) (pages : List Page) (links : Ring) (p q : Page) → IsPaged heads capacity pages links room → slice_get pages k ≡ Some p → q.head ≡ p.head → IsFit heads k q → IsPaged heads capacity (set pages k q) links room
changed heads capacity room k pages links p q is there head fit = record {
  slots = is.slots;
  chains = is.chains;
  linked = rw (same_homes 0 k pages p q there head) is.linked;
  enough = is.enough;
  few = omega (arith, length-set pages k q, is.few);
  small = is.small;
  own = own_set heads k pages p q there (λ below. let old = is.own k below in head ∙ ap (λ y. y.head) (same_Some p old.0 (sym there ∙ old.1)) ∙ old.2) is.own;
  order = All-set (IsInOrder heads) pages k q fit.order is.order;
  dense = dense_set heads k pages p q there fit is.dense;
}

-- rows stay in order where a page behind the first ones goes to another row, and its chains with it
pub rehomed : (heads capacity room k : ℕ) (pages : List Page) (links links' : Ring) (p q : Page) → IsPaged heads capacity pages links room → slice_get pages k ≡ Some p → heads ≤ k → (links'.slots ≡ links.slots) × (links'.heads ≡ links.heads) → AreLinks links' (padded None (most_pages heads capacity) (homes 0 (set pages k q))) → IsFit heads k q → IsPaged heads capacity (set pages k q) links' room
rehomed heads capacity room k pages links links' p q is there behind size linked fit = record {
  slots = size.0 ∙ is.slots;
  chains = size.1 ∙ is.chains;
  linked = linked;
  enough = is.enough;
  few = omega (arith, length-set pages k q, is.few);
  small = is.small;
  own = own_set heads k pages p q there (λ below. absurd (omega (arith, below, behind))) is.own;
  order = All-set (IsInOrder heads) pages k q fit.order is.order;
  dense = dense_set heads k pages p q there fit is.dense;
}

pub page_of_in : (n k : ℕ) (pages : List Page) (h : ℕ) → IsPageOf pages h k → IsIn (padded None n (homes 0 pages)) h k k
page_of_in n k pages h is = subst (λ g. IsIn (padded None n (homes 0 pages)) g k k) is.2 (page_in n k pages is.0 is.1)

-- where a walk through the pages of a row stands, there is one of its pages
pub first_page : (n h low : ℕ) (pages : List Page) (place : Option ℕ) → IsFirstKey (padded None n (homes 0 pages)) h low place → IfSome place (IsPageOf pages h)
first_page n h low pages None is = tt
first_page n h low pages (Some k) is = (in_page n h k is.key pages is.there).1

-- what the contract of `insert` and of `last_below` says of links
abbrev pub Inserts : Ring → Ring → ℕ → ℕ → Type 0
Inserts old new slot before = (t : SlotChains) (head key : ℕ) → AreLinks old t → head < old.heads → key < 2 ^ 128 → get_or t slot None ≡ None → ((u : ℕ) → ¬ IsIn t head u key) → IsPrev t old.slots old.heads head key before → AreLinks new (set t slot (Some (head, key)))

abbrev pub IsBelow : Ring → ℕ → ℕ → ℕ → Type 0
IsBelow links head slot before = (t : SlotChains) → AreLinks links t → AreOwnKeys t → IsPrev t links.slots links.heads head slot before

free_key : (table : SlotChains) (head slot u : ℕ) → AreOwnKeys table → get_or table slot None ≡ None → IsIn table head u slot → ⊥
free_key table head slot u numbers free there =
    let same : slot ≡ u = numbers u head slot there in
    none-some (head, slot) (sym free ∙ subst (λ v. IsIn table head v slot) (sym same) there)

pub inserted_at : (links links' : Ring) (table : SlotChains) (head slot before : ℕ) → AreLinks links table → AreOwnKeys table → head < links.heads → slot < 2 ^ 32 → get_or table slot None ≡ None → Inserts links links' slot before → IsBelow links head slot before → AreLinks links' (set table slot (Some (head, slot)))
inserted_at links links' table head slot before linked numbers inside small free step below =
    step table head slot linked inside (omega (arith, small)) free (λ u there. free_key table head slot u numbers free there) (below table linked numbers)

set_twice : (table : SlotChains) (i : ℕ) (x y : Option (ℕ × ℕ)) → set (set table i x) i y ≡ set table i y
set_twice [] i x y = refl
set_twice (z ∷ table) zero x y = refl
set_twice (z ∷ table) (suc i) x y = ap (λ t. z ∷ t) (set_twice table i x y)

emptied : (table : SlotChains) (i : ℕ) → get_or (set table i None) i None ≡ None
emptied [] i = refl
emptied (z ∷ table) zero = refl
emptied (z ∷ table) (suc i) = emptied table i

-- a slot that was taken out of its chain is put into another one
pub moved_to : (links links' links'' : Ring) (table : SlotChains) (from head slot before : ℕ) → AreLinks links table → AreOwnKeys table → IsIn table from slot slot → head < links'.heads → slot < 2 ^ 32 → ((t : SlotChains) (h k : ℕ) → AreLinks links t → IsIn t h slot k → AreLinks links' (set t slot None)) → Inserts links' links'' slot before → IsBelow links' head slot before → AreLinks links'' (set table slot (Some (head, slot)))
moved_to links links' links'' table from head slot before linked numbers there inside small less step below =
    rw (← set_twice table slot None (Some (head, slot)))
    (inserted_at links' links'' (set table slot None) head slot before (less table from slot linked there) (less_are_numbers table slot numbers) inside small (emptied table slot) step below)

past_homes : (n : ℕ) (pages : List Page) → get_or (homes n pages) (length pages) None ≡ None
past_homes n [] = refl
past_homes n (p ∷ pages) = past_homes (suc n) pages

pub past_table : (n : ℕ) (pages : List Page) → get_or (padded None n (homes 0 pages)) (length pages) None ≡ None
past_table n pages = padded_at None n (length pages) (homes 0 pages) ∙ past_homes 0 pages

pub slice_get_push : {X : Type 0} (xs : List X) (x y : X) (k : ℕ) → slice_get (xs ++ x ∷ []) k ≡ Some y → ((k ≡ length xs) × (x ≡ y)) ⊎ (slice_get xs k ≡ Some y)
slice_get_push [] x y zero is = inl (refl, same_Some x y is)
slice_get_push [] x y (suc k) is = absurd (none-some y is)
slice_get_push (z ∷ xs) x y zero is = inr is
slice_get_push (z ∷ xs) x y (suc k) is = elim (slice_get_push xs x y k is) [ inl here ↦ inl (ap suc here.0, here.1) | inr there ↦ inr there ]

pub got_before : {X : Type 0} (xs : List X) (x y : X) (k : ℕ) → slice_get xs k ≡ Some y → slice_get (xs ++ x ∷ []) k ≡ Some y
got_before [] x y k is = absurd (none-some y is)
got_before (z ∷ xs) x y zero is = is
got_before (z ∷ xs) x y (suc k) is = got_before xs x y k is

pub got_pushed : {X : Type 0} (xs : List X) (x : X) → slice_get (xs ++ x ∷ []) (length xs) ≡ Some x
got_pushed [] x = refl
got_pushed (z ∷ xs) x = got_pushed xs x

-- rows stay in order where one page more is used
pub pushed : (heads capacity room room' : ℕ) (pages : List Page) (links links' : Ring) (q : Page) → IsPaged heads capacity pages links room → length pages < most_pages heads capacity → room ≤ room' → (links'.slots ≡ links.slots) × (links'.heads ≡ links.heads) → AreLinks links' (padded None (most_pages heads capacity) (homes 0 (pages ++ q ∷ []))) → IsFit heads heads q → q.head < heads → IsPaged heads capacity (pages ++ q ∷ []) links' room'
pushed heads capacity room room' pages links links' q is few more size linked fit row = record {
  slots = size.0 ∙ is.slots;
  chains = size.1 ∙ is.chains;
  linked = linked;
  enough = omega (arith, is.enough, more);
  few = omega (arith, length-append pages (q ∷ []), few);
  small = is.small;
  own = λ h inside. let old = is.own h inside in (old.0, got_before pages q old.0 h old.1, old.2);
  order = All-push (IsInOrder heads) pages q is.order fit.order;
  dense = λ j x above there below. elim (slice_get_push pages q x j there) [
    | inl here ↦ subst (λ y. 63 ≤ length y.records.items) here.1 (fit.dense (omega arith) row)
    | inr old ↦ is.dense j x above old below
  ];
}
