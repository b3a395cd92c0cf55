-- Rows that have exactly the records of the bounds of a minimal set.
use Rattle.std.proofs.Common.{◌≡◌, ◌≢◌, ◌⊎◌, inl, inr, ℕ, zero, suc, ◌+◌, ◌<◌, ◌≤◌, ◌++◌, List, [], ◌∷◌, length, get_or, set, Bool, true, false, replicate, refl, ap, sym, ◌∙◌, subst, arith, length-append}
use Rattle.std.specs.Prelude.{Option, None, Some, All, sum_by, slice_get, IsPermutation, option_map, ◌≤ℤ◌, ◌↔◌, IsTrue, IfSome, IfNone, is_some}
use Rattle.std.proofs.lemmas.Bool.{cases_eq}
use Rattle.std.proofs.lemmas.List.{get_or-set_other, get_or-set_same, get_or_append_left, length-set, length-replicate}
use Rattle.std.proofs.lemmas.List.Elements.{All-map, All-append}
use Rattle.std.proofs.lemmas.List.Sums.{sum_by-cons, get_or-le-sum_by}
use Rattle.std.proofs.lemmas.List.Sorted.{All-permutation, sum_by-IsPermutation}
use Rattle.std.proofs.lemmas.Option.{none-some, same_Some, slice_get-map}
use Rattle.cstn_label.specs.declared.bounds.Bound.{Bound}
use Rattle.cstn_label.specs.declared.labels.Label.{Label}
use Rattle.cstn_label.specs.Labels.{IsWithin}
use Rattle.cstn_label.specs.Read.{marks}
use Rattle.cstn_pool.specs.declared.slot_id.SlotId.{SlotId}
use Rattle.cstn_minset.specs.declared.columns.Record.{Record}
use Rattle.cstn_minset.specs.declared.page.Page.{Page}
use Rattle.cstn_minset.specs.Pages.{Paged, on_page, held_records, SameRows}
use Rattle.cstn_minset.proofs.RowLemmas.{at_all, all_from}
use Rattle.cstn_minset.specs.Sets.{Places, Entries, entry_at, IsPlaced, IsBoundOver, IsCoveredInSet, IsCleared, record_of, records_from, HasItsRecord, IsRecordAt, IsNoneOf, IsRecordOver, IsRecordUnder, IsMinimal, IsKeptSet}
use Rattle.cstn_minset.proofs.BoundLemmas.{MarksEnd, least_or_not, within_or_not, one_is_over}
use Rattle.cstn_minset.proofs.TableLemmas.{placed_less, less_placed, minimal_less, minimal_none}

-- a place that is emptied, and one that is filled, in what is summed over the records
pub records_filled : (f : ℕ × Record → ℕ) (n s : ℕ) (T : Entries) (e : ℕ × Bound) → s < length T → entry_at T s ≡ None → sum_by f (records_from n (set T s (Some e))) ≡ f (record_of (n + s) e.1) + sum_by f (records_from n T)
records_filled f n s [] e inside free = absurd (omega (arith, inside))
records_filled f n zero (None ∷ T) e inside free = sum_by-cons f (record_of n e.1) (records_from (suc n) T) ∙ ap (λ m. f (record_of m e.1) + sum_by f (records_from (suc n) T)) (omega arith)
records_filled f n zero (Some x ∷ T) e inside free = absurd (none-some x (sym free))
records_filled f n (suc s) (None ∷ T) e inside free = records_filled f (suc n) s T e (omega (arith, inside)) free ∙ ap (λ m. f (record_of m e.1) + sum_by f (records_from (suc n) T)) (omega arith)
records_filled f n (suc s) (Some x ∷ T) e inside free =
    let rest = records_filled f (suc n) s T e (omega (arith, inside)) free in
    let at : f (record_of (suc n + s) e.1) ≡ f (record_of (n + suc s) e.1) = ap (λ m. f (record_of m e.1)) (omega arith) in
    omega (arith, rest, at, sum_by-cons f (record_of n x.1) (records_from (suc n) (set T s (Some e))), sum_by-cons f (record_of n x.1) (records_from (suc n) T))

pub records_emptied : (f : ℕ × Record → ℕ) (n s : ℕ) (T : Entries) (e : ℕ × Bound) → IsPlaced T s e → sum_by f (records_from n T) ≡ f (record_of (n + s) e.1) + sum_by f (records_from n (set T s None))
records_emptied f n s [] e is = absurd (none-some e is)
records_emptied f n zero (x ∷ T) e is = rw is (sum_by-cons f (record_of n e.1) (records_from (suc n) T) ∙ ap (λ m. f (record_of m e.1) + sum_by f (records_from (suc n) T)) (omega arith))
records_emptied f n (suc s) (None ∷ T) e is = records_emptied f (suc n) s T e is ∙ ap (λ m. f (record_of m e.1) + sum_by f (records_from (suc n) (set T s None))) (omega arith)
records_emptied f n (suc s) (Some x ∷ T) e is =
    let rest = records_emptied f (suc n) s T e is in
    let at : f (record_of (suc n + s) e.1) ≡ f (record_of (n + suc s) e.1) = ap (λ m. f (record_of m e.1)) (omega arith) in
    omega (arith, rest, at, sum_by-cons f (record_of n x.1) (records_from (suc n) T), sum_by-cons f (record_of n x.1) (records_from (suc n) (set T s None)))

pub records_le : (n : ℕ) (T : Entries) → length (records_from n T) ≤ length T
records_le n [] = omega arith
records_le n (None ∷ T) = let rest = records_le (suc n) T in omega (arith, rest)
records_le n (Some x ∷ T) = let rest = records_le (suc n) T in omega (arith, rest)

-- where a slot is free, there are fewer records than slots
pub records_less : (n s : ℕ) (T : Entries) → s < length T → entry_at T s ≡ None → length (records_from n T) < length T
records_less n s [] inside free = absurd (omega (arith, inside))
records_less n zero (None ∷ T) inside free = let rest = records_le (suc n) T in omega (arith, rest)
records_less n zero (Some x ∷ T) inside free = absurd (none-some x (sym free))
records_less n (suc s) (None ∷ T) inside free = let rest = records_less (suc n) s T (omega (arith, inside)) free in omega (arith, rest)
records_less n (suc s) (Some x ∷ T) inside free = let rest = records_less (suc n) s T (omega (arith, inside)) free in omega (arith, rest)

-- how many bounds are placed
abbrev pub placed_count : Entries → ℕ
placed_count T = length (records_from 0 T)

size_is : (xs : List (ℕ × Record)) → sum_by (λ x. 1) xs ≡ length xs
size_is [] = refl
size_is (x ∷ xs) = let rest = size_is xs in omega (arith, rest, sum_by-cons (λ y. 1) x xs)

-- as many records lie in the rows as there are bounds
pub held_count : (rows : Paged) (nodes : ℕ) (T : Entries) → IsKeptSet rows nodes T → length (held_records rows.pages) ≡ placed_count T
held_count rows nodes T is = omega (arith, is.same (λ x. 1), size_is (held_records rows.pages), size_is (records_from 0 T))

pub count_less : (T : Entries) (s : ℕ) (e : ℕ × Bound) → IsPlaced T s e → placed_count (set T s None) < placed_count T
count_less T s e is = omega (arith, records_emptied (λ x. 1) 0 s T e is, size_is (records_from 0 T), size_is (records_from 0 (set T s None)))

abbrev pub weight : {A : Type 0} → A ⊎ ¬ A → ℕ
weight (inl a) = 1
weight (inr not) = 0

pub weight_yes : {A : Type 0} (d : A ⊎ ¬ A) → A → weight d ≡ 1
weight_yes (inl a) is = refl
weight_yes (inr not) is = absurd (not is)

pub weight_no : {A : Type 0} (d : A ⊎ ¬ A) → ¬ A → weight d ≡ 0
weight_no (inl a) is = absurd (is a)
weight_no (inr not) is = refl

pub eq_or_not : (m n : ℕ) → (m ≡ n) ⊎ ¬ (m ≡ n)
eq_or_not m n = elim (cases_eq m n) [ inl same ↦ inl same | inr other ↦ inr other ]

-- how many times the slot is that of the record
abbrev pub at_slot : ℕ → ℕ × Record → ℕ
at_slot s x = weight (eq_or_not x.1.slot s)

past_slot : (m n : ℕ) (T : Entries) → m < n → sum_by (at_slot m) (records_from n T) ≡ 0
past_slot m n [] less = refl
past_slot m n (None ∷ T) less = past_slot m (suc n) T (omega (arith, less))
past_slot m n (Some x ∷ T) less =
    let rest = past_slot m (suc n) T (omega (arith, less)) in
    let here = weight_no (eq_or_not n m) (λ same. omega (arith, same, less)) in
    sum_by-cons (at_slot m) (record_of n x.1) (records_from (suc n) T) ∙ rw (rest, here) refl

no_slot : (n s m : ℕ) (T : Entries) → m ≡ n + s → entry_at T s ≡ None → sum_by (at_slot m) (records_from n T) ≡ 0
no_slot n s m [] at free = refl
no_slot n zero m (None ∷ T) at free = past_slot m (suc n) T (omega (arith, at))
no_slot n zero m (Some x ∷ T) at free = absurd (none-some x (sym free))
no_slot n (suc s) m (None ∷ T) at free = no_slot (suc n) s m T (omega (arith, at)) free
no_slot n (suc s) m (Some x ∷ T) at free =
    let rest = no_slot (suc n) s m T (omega (arith, at)) free in
    let here = weight_no (eq_or_not n m) (λ same. omega (arith, same, at)) in
    sum_by-cons (at_slot m) (record_of n x.1) (records_from (suc n) T) ∙ rw (rest, here) refl

pub all_cons : {X : Type 0} (P : X → Type 0) (x : X) (xs : List X) → P x → All P xs → All P (x ∷ xs)
all_cons P x xs p all zero d inside = p
all_cons P x xs p all (suc k) d inside = all k d (omega (arith, inside))

pub all_head : {X : Type 0} (P : X → Type 0) (x : X) (xs : List X) → All P (x ∷ xs) → P x
all_head P x xs all = all 0 x (omega arith)

pub all_tail : {X : Type 0} (P : X → Type 0) (x : X) (xs : List X) → All P (x ∷ xs) → All P xs
all_tail P x xs all k d inside = all (suc k) d (omega (arith, inside))

all_left : {X : Type 0} (P : X → Type 0) (xs ys : List X) → All P (xs ++ ys) → All P xs
all_left P xs ys all k d inside = subst P (get_or_append_left xs ys d k inside) (all k d (omega (arith, inside, length-append xs ys)))

all_right : {X : Type 0} (P : X → Type 0) (xs ys : List X) → All P (xs ++ ys) → All P ys
all_right P [] ys all = all
all_right P (x ∷ xs) ys all = all_right P xs ys (all_tail P x (xs ++ ys) all)

-- a record that lies on a page is one of all
pub held_at : (P : ℕ × Record → Type 0) (pages : List Page) (h k i : ℕ) (r : Record) → All P (held_records pages) → IsRecordAt pages h k i r → P (h, r)
held_at P [] h k i r all at = absurd (none-some at.0 at.1)
held_at P (p ∷ pages) h zero i r all at =
    let it : p ≡ at.0 = same_Some p at.0 at.1 in
    let head : p.head ≡ h = ap (λ x. x.head) it ∙ at.2 in
    let here : slice_get p.records.items i ≡ Some r = ap (λ x. slice_get x.records.items i) it ∙ at.3 in
    let pair : Record → ℕ × Record = λ x. (p.head, x) in
    subst (λ (g : ℕ). P (g, r)) head (at_all P (on_page p) i (pair r) (all_left P (on_page p) (held_records pages) all) (slice_get-map pair p.records.items i ∙ ap (option_map pair) here))
held_at P (p ∷ pages) h (suc k) i r all at = held_at P pages h k i r (all_right P (on_page p) (held_records pages) all) at

-- what holds of each record on each page holds of all
pub held_all : (P : ℕ × Record → Type 0) (pages : List Page) → ((h k i : ℕ) (r : Record) → IsRecordAt pages h k i r → P (h, r)) → All P (held_records pages)
held_all P [] each = λ k d inside. absurd (omega (arith, inside))
held_all P (p ∷ pages) each =
    All-append P (on_page p) (held_records pages)
    (All-map P (λ x. (p.head, x)) p.records.items (all_from (λ x. P (p.head, x)) p.records.items (λ i r is. each p.head 0 i r (p, refl, refl, is))))
    (held_all P pages (λ h k i r at. each h (suc k) i r at))

-- the record is one of the time-point, and of the kind
abbrev IsHit : ℕ → (Record → Type 0) → ℕ × Record → Type 0
IsHit h Kind x = (x.0 ≡ h) × Kind x.1

hit_or_not : (h : ℕ) (Kind : Record → Type 0) → ((r : Record) → Kind r ⊎ ¬ Kind r) → (x : ℕ × Record) → IsHit h Kind x ⊎ ¬ IsHit h Kind x
hit_or_not h Kind dec x = elim (cases_eq x.0 h) [
  | inr other ↦ inr (λ hit. other hit.0)
  | inl same ↦ elim (dec x.1) [ inl is ↦ inl (same, is) | inr not ↦ inr (λ hit. not hit.1) ]
]

pub sum_zero : (f : ℕ × Record → ℕ) (xs : List (ℕ × Record)) → All (λ x. f x ≡ 0) xs → sum_by f xs ≡ 0
sum_zero f [] all = refl
sum_zero f (x ∷ xs) all =
    let rest = sum_zero f xs (all_tail (λ y. f y ≡ 0) x xs all) in
    sum_by-cons f x xs ∙ rw (rest, all_head (λ y. f y ≡ 0) x xs all) refl

-- where the rows have no record of the kind, no bound of the time-point is of the kind
pub none_placed : (rows : Paged) (nodes : ℕ) (T : Entries) (h s : ℕ) (e : ℕ × Bound) (Kind : Record → Type 0) → IsKeptSet rows nodes T → ((r : Record) → Kind r ⊎ ¬ Kind r) → IsNoneOf rows.pages h Kind → IsPlaced T s e → e.1.node.0 ≡ h → ¬ Kind (record_of s e.1).1
none_placed rows nodes T h s e Kind is dec none placed node kind =
    let f : ℕ × Record → ℕ = λ x. weight (hit_or_not h Kind dec x) in
    let all : All (λ x. f x ≡ 0) (held_records rows.pages) = held_all (λ x. f x ≡ 0) rows.pages (λ g k i r at. weight_no (hit_or_not h Kind dec (g, r)) (λ hit. none k i r (at.0, at.1, at.2 ∙ hit.0, at.3) hit.1)) in
    let one : f (record_of (0 + s) e.1) ≡ 1 = ap (λ m. f (record_of m e.1)) (zero_plus s) ∙ weight_yes (hit_or_not h Kind dec (record_of s e.1)) (node, kind) in
    omega (arith, sum_zero f (held_records rows.pages) all, is.same f, records_emptied f 0 s T e placed, one)
  where
    zero_plus : (n : ℕ) → 0 + n ≡ n
    zero_plus n = omega arith

pub record_over_or_not : MarksEnd → (b : Bound) (r : Record) → IsRecordOver b r ⊎ ¬ IsRecordOver b r
record_over_or_not end b r = elim (least_or_not b.least r.least) [
  | inr less ↦ inr (λ over. less over.0)
  | inl least ↦ elim (within_or_not end r.label b.label) [ inl within ↦ inl (least, within) | inr not ↦ inr (λ over. not over.1) ]
]

pub record_under_or_not : MarksEnd → (b : Bound) (r : Record) → IsRecordUnder b r ⊎ ¬ IsRecordUnder b r
record_under_or_not end b r = elim (least_or_not r.least b.least) [
  | inr less ↦ inr (λ over. less over.0)
  | inl least ↦ elim (within_or_not end b.label r.label) [ inl within ↦ inl (least, within) | inr not ↦ inr (λ over. not over.1) ]
]

-- a bound whose record dominates another bound of its time-point dominates it
pub over_from : (b' b : Bound) (s h : ℕ) (r : Record) → record_of s b' ≡ (h, r) → h ≡ b.node.0 → IsRecordOver b r → IsBoundOver b' b
over_from b' b s h r is node over = record {
  node = ap (λ x. x.0) is ∙ node;
  least = subst (λ v. b.least ≤ℤ v) (sym (ap (λ x. x.1.least) is)) over.0;
  label = subst (λ (l : Label). IsWithin (marks l) (marks b.label)) (sym (ap (λ x. x.1.label) is)) over.1;
}

pub under_from : (b' b : Bound) (s h : ℕ) (r : Record) → record_of s b' ≡ (h, r) → h ≡ b.node.0 → IsRecordUnder b r → IsBoundOver b b'
under_from b' b s h r is node under = record {
  node = sym (ap (λ x. x.0) is ∙ node);
  least = subst (λ v. v ≤ℤ b.least) (sym (ap (λ x. x.1.least) is)) under.0;
  label = subst (λ (l : Label). IsWithin (marks b.label) (marks l)) (sym (ap (λ x. x.1.label) is)) under.1;
}

-- a bound was put in, and its record into the rows
pub put_step : (rows rows' : Paged) (nodes s birth : ℕ) (b : Bound) (T : Entries) → IsKeptSet rows nodes T → SameRows rows rows' → IsPermutation (record_of s b ∷ held_records rows.pages) (held_records rows'.pages) → s < length T → entry_at T s ≡ None → IsMinimal nodes (set T s (Some (birth, b))) → IsKeptSet rows' nodes (set T s (Some (birth, b)))
put_step rows rows' nodes s birth b T is sizes step inside free minimal = record {
  heads = sizes.0 ∙ is.heads;
  room = sizes.1 ∙ is.room ∙ sym (length-set T s (Some (birth, b)));
  listed = All-permutation Listed (record_of s b ∷ held_records rows.pages) (held_records rows'.pages) step (all_cons Listed (record_of s b) (held_records rows.pages) (birth, b, get_or-set_same T s (Some (birth, b)) None inside, refl) (λ k d within. stays (get_or (held_records rows.pages) k d) (is.listed k d within)));
  same = λ f.
      let at : f (record_of (0 + s) b) ≡ f (record_of s b) = ap (λ m. f (record_of m b)) (zero_plus s) in
      omega (arith, sum_by-IsPermutation f (record_of s b ∷ held_records rows.pages) (held_records rows'.pages) step, sum_by-cons f (record_of s b) (held_records rows.pages), is.same f, records_filled f 0 s T (birth, b) inside free, at);
  minimal = minimal;
}
  where
    zero_plus : (n : ℕ) → 0 + n ≡ n
    zero_plus n = omega arith

    Listed : ℕ × Record → Type 0
    Listed = HasItsRecord (set T s (Some (birth, b)))

    stays : (x : ℕ × Record) → HasItsRecord T x → HasItsRecord (set T s (Some (birth, b))) x
    stays x old = (old.0, old.1, get_or-set_other T s x.1.slot (Some (birth, b)) None (λ same. none-some (old.0, old.1) (sym free ∙ rw same at old.2)) ∙ old.2, old.3)

-- a bound was taken out, and its record out of the rows
pub take_step : (rows rows' : Paged) (nodes h : ℕ) (r : Record) (T : Entries) → IsKeptSet rows nodes T → SameRows rows rows' → IsPermutation (held_records rows.pages) ((h, r) ∷ held_records rows'.pages) → IsKeptSet rows' nodes (set T r.slot None)
take_step rows rows' nodes h r T is sizes step = record {
  heads = sizes.0 ∙ is.heads;
  room = sizes.1 ∙ is.room ∙ sym (length-set T r.slot None);
  listed = λ k d within. stays (get_or (held_records rows'.pages) k d) (others k d within) (left k d within);
  same = same';
  minimal = minimal_less nodes r.slot T is.minimal;
}
  where
    whole : All (HasItsRecord T) ((h, r) ∷ held_records rows'.pages)
    whole = All-permutation (HasItsRecord T) (held_records rows.pages) ((h, r) ∷ held_records rows'.pages) step is.listed

    here : HasItsRecord T (h, r)
    here = all_head (HasItsRecord T) (h, r) (held_records rows'.pages) whole

    left : All (HasItsRecord T) (held_records rows'.pages)
    left = all_tail (HasItsRecord T) (h, r) (held_records rows'.pages) whole

    zero_plus : (n : ℕ) → 0 + n ≡ n
    zero_plus n = omega arith

    same' : (f : ℕ × Record → ℕ) → sum_by f (held_records rows'.pages) ≡ sum_by f (records_from 0 (set T r.slot None))
    same' f =
        let at : f (record_of (0 + r.slot) here.1) ≡ f (h, r) = ap (λ m. f (record_of m here.1)) (zero_plus r.slot) ∙ ap f here.3 in
        omega (arith, sum_by-IsPermutation f (held_records rows.pages) ((h, r) ∷ held_records rows'.pages) step, sum_by-cons f (h, r) (held_records rows'.pages), is.same f, records_emptied f 0 r.slot T (here.0, here.1) here.2, at)

    nothing : sum_by (at_slot r.slot) (held_records rows'.pages) ≡ 0
    nothing = same' (at_slot r.slot) ∙ no_slot 0 r.slot r.slot (set T r.slot None) (sym (zero_plus r.slot)) (gone T r.slot)
      where
        gone : (T : Entries) (s : ℕ) → entry_at (set T s None) s ≡ None
        gone [] s = refl
        gone (x ∷ T) zero = refl
        gone (x ∷ T) (suc s) = gone T s

    others : (k : ℕ) (d : ℕ × Record) → k < length (held_records rows'.pages) → (get_or (held_records rows'.pages) k d).1.slot ≢ r.slot
    others k d within = λ same.
        let one = weight_yes (eq_or_not (get_or (held_records rows'.pages) k d).1.slot r.slot) same in
        omega (arith, get_or-le-sum_by (at_slot r.slot) (held_records rows'.pages) k d within, nothing, one)

    stays : (x : ℕ × Record) → x.1.slot ≢ r.slot → HasItsRecord T x → HasItsRecord (set T r.slot None) x
    stays x other old = (old.0, old.1, less_placed T r.slot x.1.slot (old.0, old.1) other old.2, old.3)

-- an empty set
pub none_kept : (rows : Paged) (nodes n : ℕ) → rows.heads ≡ nodes → rows.capacity ≡ n → held_records rows.pages ≡ [] → IsKeptSet rows nodes (replicate n None)
none_kept rows nodes n heads room none = record {
  heads = heads;
  room = room ∙ sym (length-replicate n None);
  listed = rw none (λ k d inside. absurd (omega (arith, inside)));
  same = λ f. rw none (sym (empty f 0 n));
  minimal = minimal_none nodes n;
}
  where
    empty : (f : ℕ × Record → ℕ) (m n : ℕ) → sum_by f (records_from m (replicate n None)) ≡ 0
    empty f m zero = refl
    empty f m (suc n) = empty f (suc m) n

-- some of what a bound dominates was taken out, and nothing else
pub record IsClearing (b : Bound) (old now : Places) : Type 0 where
  pub nodes : now.nodes ≡ old.nodes
  pub size : length now.table ≡ length old.table
  pub was : (s : ℕ) (e : ℕ × Bound) → IsPlaced now.table s e → IsPlaced old.table s e
  pub kept : (s : ℕ) (e : ℕ × Bound) → IsPlaced old.table s e → ¬ IsBoundOver b e.1 → IsPlaced now.table s e

pub clearing_start : (b : Bound) (old : Places) → IsClearing b old old
clearing_start b old = record { nodes = refl; size = refl; was = λ s e is. is; kept = λ s e is not. is }

pub clearing_more : (b : Bound) (old now next : Places) (s : ℕ) (e : ℕ × Bound) → IsClearing b old now → IsPlaced now.table s e → IsBoundOver b e.1 → next ≡ record now { table = set now.table s None } → IsClearing b old next
clearing_more b old now next s e is placed over next_is = rw next_is (record {
  nodes = is.nodes;
  size = length-set now.table s None ∙ is.size;
  was = λ u x there. is.was u x (placed_less now.table s u x there).1;
  kept = λ u x there not.
      less_placed now.table s u x (λ same. not (subst (λ (y : ℕ × Bound). IsBoundOver b y.1) (same_Some e x (sym placed ∙ rw same at (is.kept u x there not))) over)) (is.kept u x there not);
})

pub clearing_end : (b : Bound) (old now : Places) → IsClearing b old now → ((s : ℕ) (e : ℕ × Bound) → IsPlaced now.table s e → ¬ IsBoundOver b e.1) → IsCleared b old.table now.table
clearing_end b old now is none = record { size = is.size; was = is.was; none_under = none; kept = is.kept }

abbrev pub places : ℕ → Entries → Places
places n T = record { nodes = n; table = T }

-- the bound in a slot is the only one that it dominates, so that one is taken out
pub lifted : (old new : Places) (b : Bound) (slot birth : ℕ) (t : Bool) → IsPlaced old.table slot (birth, b) → IsMinimal old.nodes old.table
    → (IsTrue t → (s : ℕ) × (e : ℕ × Bound) × IsPlaced old.table s e × IsBoundOver b e.1 × (new ≡ places old.nodes (set old.table s None)))
    → (t ≡ false → (new ≡ old) × ((s : ℕ) (e : ℕ × Bound) → IsPlaced old.table s e → ¬ IsBoundOver b e.1)) → new ≡ places old.nodes (set old.table slot None)
lifted old new b slot birth true placed minimal taken none =
    let out = taken refl in
    elim (cases_eq slot out.0) [
      | inl same ↦ out.4 ∙ ap (λ (s : ℕ). places old.nodes (set old.table s None)) (sym same)
      | inr other ↦ absurd (minimal.minimal slot out.0 (birth, b) out.1 placed out.2 other out.3)
    ]
lifted old new b slot birth false placed minimal taken none = absurd ((none refl).1 slot (birth, b) placed (itself b))
  where
    itself : (x : Bound) → IsBoundOver x x
    itself x = elim (one_is_over x x refl refl) [ inl over ↦ over | inr over ↦ over ]

pub covers_as : (answer : Option SlotId) (T : Entries) (b : Bound) → IfSome answer (λ id. (c : Bound) × IsPlaced T id.slot (id.birth, c) × IsBoundOver c b) → IfNone answer (¬ IsCoveredInSet T b) → (IsTrue (is_some answer) ↔ IsCoveredInSet T b)
covers_as None T b some none = (λ no. absurd (cc), λ covered. absurd (none covered))
covers_as (Some id) T b some none = (λ y. (id.slot, (id.birth, some.0), some.1, some.2), λ covered. refl)
