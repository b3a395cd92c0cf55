-- What pages hold, where one of them changes.
use Rattle.std.proofs.Common.{◌≡◌, ◌≢◌, ℕ, zero, suc, ◌+◌, ◌-◌, ◌*◌, ◌<◌, ◌≤◌, ◌++◌, List, [], ◌∷◌, length, set, map, get_or, refl, ap, subst, arith, append_assoc, append-nil, length-append}
use Rattle.std.specs.Prelude.{Some, slice_get, IsPermutation}
use Rattle.std.specs.List.{swap_remove}
use Rattle.std.proofs.lemmas.List.{map-append, length-map, length-take, length-set}
use Rattle.std.proofs.lemmas.List.Sorted.{IsPermutation-refl, IsPermutation-sym, IsPermutation-trans, IsPermutation-map, IsPermutation-append_left, IsPermutation-append_right, IsPermutation-append_comm, IsPermutation-to_front, IsPermutation-swap_remove}
use Rattle.std.proofs.lemmas.Option.{none-some, same_Some}
use Rattle.cstn_minset.specs.declared.columns.Record.{Record}
use Rattle.cstn_minset.specs.declared.page.Page.{Page}
use Rattle.cstn_minset.specs.Pages.{on_page, held_records}

module _ {X : Type 0} where
  pub got_set : (xs : List X) (i : ℕ) (x y : X) → slice_get xs i ≡ Some y → slice_get (set xs i x) i ≡ Some x
  got_set [] i x y is = absurd (none-some y is)
  got_set (z ∷ xs) zero x y is = refl
  got_set (z ∷ xs) (suc i) x y is = got_set xs i x y is

  pub got_other : (xs : List X) (i j : ℕ) (x : X) → i ≢ j → slice_get (set xs i x) j ≡ slice_get xs j
  got_other [] i j x other = refl
  got_other (z ∷ xs) zero zero x other = absurd (other refl)
  got_other (z ∷ xs) zero (suc j) x other = refl
  got_other (z ∷ xs) (suc i) zero x other = refl
  got_other (z ∷ xs) (suc i) (suc j) x other = got_other xs i j x (λ same. other (ap suc same))

  swap_front : (xs ys zs : List X) → IsPermutation (xs ++ (ys ++ zs)) (ys ++ (xs ++ zs))
  swap_front xs ys zs = rw (← append_assoc xs ys zs, ← append_assoc ys xs zs) (IsPermutation-append_left zs (xs ++ ys) (ys ++ xs) (IsPermutation-append_comm xs ys))

  swap_last : (xs ys zs : List X) → IsPermutation ((xs ++ ys) ++ zs) ((xs ++ zs) ++ ys)
  swap_last xs ys zs = rw (append_assoc xs ys zs, append_assoc xs zs ys) (IsPermutation-append_right xs (ys ++ zs) (zs ++ ys) (IsPermutation-append_comm ys zs))

pub less_by_one : {X : Type 0} (xs ys : List X) (i : ℕ) (x : X) → i < length xs → ys ≡ swap_remove xs i x → length ys + 1 ≡ length xs
less_by_one xs ys i x inside is = rw is (omega (arith, inside, length-take (length xs - 1) (set xs i (get_or xs (length xs - 1) x)), length-set xs i (get_or xs (length xs - 1) x)))

-- the pages but for one
abbrev rest : List Page → ℕ → List Page
rest [] i = []
rest (p ∷ pages) zero = pages
rest (p ∷ pages) (suc i) = p ∷ rest pages i

rest_set : (pages : List Page) (i : ℕ) (q : Page) → rest (set pages i q) i ≡ rest pages i
rest_set [] i q = refl
rest_set (p ∷ pages) zero q = refl
rest_set (p ∷ pages) (suc i) q = ap (λ ps. p ∷ ps) (rest_set pages i q)

at_rest : (pages : List Page) (i : ℕ) (p : Page) → slice_get pages i ≡ Some p → IsPermutation (held_records pages) (on_page p ++ held_records (rest pages i))
at_rest [] i p is = absurd (none-some p is)
at_rest (x ∷ pages) zero p is = rw (same_Some x p is) (IsPermutation-refl _)
at_rest (x ∷ pages) (suc i) p is = IsPermutation-trans _ _ _ (IsPermutation-append_right (on_page x) _ _ (at_rest pages i p is)) (swap_front (on_page x) (on_page p) (held_records (rest pages i)))

-- what one page loses or gains, all pages lose or gain
pub exchanged : (pages : List Page) (i : ℕ) (p q : Page) (us vs : List (ℕ × Record)) → slice_get pages i ≡ Some p → IsPermutation (on_page p ++ us) (on_page q ++ vs) → IsPermutation (held_records pages ++ us) (held_records (set pages i q) ++ vs)
exchanged pages i p q us vs is step =
    let others = held_records (rest pages i) in
    let after : IsPermutation (held_records (set pages i q)) (on_page q ++ others) = subst (λ ps. IsPermutation (held_records (set pages i q)) (on_page q ++ held_records ps)) (rest_set pages i q) (at_rest (set pages i q) i q (got_set pages i q p is)) in
    IsPermutation-trans _ _ _ (IsPermutation-append_left us _ _ (at_rest pages i p is))
    (IsPermutation-trans _ _ _ (swap_last (on_page p) others us)
    (IsPermutation-trans _ _ _ (IsPermutation-append_left others _ _ step)
    (IsPermutation-trans _ _ _ (swap_last (on_page q) vs others) (IsPermutation-sym _ _ (IsPermutation-append_left vs _ _ after)))))

pub nothing_more : {X : Type 0} (xs ys : List X) → IsPermutation (xs ++ []) (ys ++ []) → IsPermutation xs ys
nothing_more xs ys same = rw (append-nil xs, append-nil ys) at same

-- the records of a page to which one was added
pub page_added : (p q : Page) (r : Record) → q.head ≡ p.head → q.records.items ≡ p.records.items ++ r ∷ [] → on_page q ≡ on_page p ++ (p.head, r) ∷ []
page_added p q r head is = rw (head, is) (map-append (λ x. (p.head, x)) p.records.items (r ∷ []))

-- a record that was added to a page was added to all
pub held_added : (pages : List Page) (i : ℕ) (p q : Page) (r : Record) → slice_get pages i ≡ Some p → q.head ≡ p.head → q.records.items ≡ p.records.items ++ r ∷ [] → IsPermutation ((p.head, r) ∷ held_records pages) (held_records (set pages i q))
held_added pages i p q r is head added =
    let x : ℕ × Record = (p.head, r) in
    let step : IsPermutation (on_page p ++ x ∷ []) (on_page q ++ []) = rw (append-nil (on_page q), page_added p q r head added) (IsPermutation-refl _) in
    let all = exchanged pages i p q (x ∷ []) [] is step in
    IsPermutation-trans _ _ _ (IsPermutation-sym _ _ (IsPermutation-to_front (held_records pages) x)) (rw (append-nil (held_records (set pages i q))) at all)

-- records that left a page left all
pub held_less : (pages : List Page) (i : ℕ) (p q : Page) (xs : List (ℕ × Record)) → slice_get pages i ≡ Some p → IsPermutation (on_page p) (on_page q ++ xs) → IsPermutation (held_records pages) (held_records (set pages i q) ++ xs)
held_less pages i p q xs is step =
    let all = exchanged pages i p q [] xs is (rw (append-nil (on_page p)) step) in
    rw (append-nil (held_records pages)) at all

-- what pages hold more where a page without records is put aside for one with records
pub held_more : (pages : List Page) (i : ℕ) (p q : Page) → slice_get pages i ≡ Some p → on_page p ≡ [] → IsPermutation (on_page q ++ held_records pages) (held_records (set pages i q))
held_more pages i p q is none =
    let step : IsPermutation (on_page p ++ on_page q) (on_page q ++ []) = rw (none, append-nil (on_page q)) (IsPermutation-refl _) in
    let all = exchanged pages i p q (on_page q) [] is step in
    IsPermutation-trans _ _ _ (IsPermutation-append_comm (on_page q) (held_records pages)) (rw (append-nil (held_records (set pages i q))) at all)

pub held_push : (pages : List Page) (q : Page) → IsPermutation (on_page q ++ held_records pages) (held_records (pages ++ q ∷ []))
held_push [] q = IsPermutation-refl _
held_push (p ∷ pages) q = IsPermutation-trans _ _ _ (swap_front (on_page q) (on_page p) (held_records pages)) (IsPermutation-append_right (on_page p) _ _ (held_push pages q))

-- a record that left a page
pub page_less : (p q : Page) (i : ℕ) (r : Record) → q.head ≡ p.head → i < length p.records.items → r ≡ get_or p.records.items i r → q.records.items ≡ swap_remove p.records.items i r → IsPermutation (on_page p) (on_page q ++ (p.head, r) ∷ [])
page_less p q i r head inside is left =
    let f : Record → ℕ × Record = λ x. (p.head, x) in
    let step : IsPermutation p.records.items (r ∷ q.records.items) = rw left (IsPermutation-swap_remove p.records.items i r inside is) in
    IsPermutation-trans _ _ _ (IsPermutation-map f _ _ step) (rw head (IsPermutation-sym _ _ (IsPermutation-to_front (map f q.records.items) (f r))))

pub page_size : (p : Page) → length (on_page p) ≡ length p.records.items
page_size p = length-map p.records.items (λ x. (p.head, x))

-- where each page behind the first ones lacks one record at most, all hold so many
pub dense_pages : (n : ℕ) (pages : List Page) → ((k : ℕ) (p : Page) → n ≤ k → slice_get pages k ≡ Some p → 63 ≤ length p.records.items) → 63 * (length pages - n) ≤ length (held_records pages)
dense_pages n [] dense = omega arith
dense_pages zero (p ∷ pages) dense =
    let first = dense 0 p (omega arith) refl in
    let more = dense_pages 0 pages (λ k q le is. dense (suc k) q (omega arith) is) in
    omega (arith, first, more, page_size p, length-append (on_page p) (held_records pages))
dense_pages (suc n) (p ∷ pages) dense =
    let more = dense_pages n pages (λ k q le is. dense (suc k) q (omega (arith, le)) is) in
    omega (arith, more, length-append (on_page p) (held_records pages))

pub none_on : (p : Page) → p.records.items ≡ [] → on_page p ≡ []
none_on p is = rw is refl
