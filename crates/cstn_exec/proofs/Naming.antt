-- The numbers of a range that pass a test, the moments once these are executed, and which time-points are called.
use Rattle.std.proofs.Common.{ℕ, zero, suc, ◌≡◌, ◌≢◌, inl, inr, ◌+◌, ◌<◌, ◌≤◌, Bool, true, false, List, [], ◌∷◌, Option, Some, None, length, map, take, ◌++◌, ◌&&◌, not, arith, refl, sym, subst, ap, ◌∙◌, get_or-set_other, get_or-set_same}
use Rattle.std.specs.Prelude.{is_none, nat_lt, slice_index_or, slice_set}
use Rattle.std.specs.List.{All, Contains, filter, range_with_len}
use Rattle.std.proofs.lemmas.Bool.{cases_Bool, cases_eq, cond-true, cond-false, both_ways}
use Rattle.std.proofs.lemmas.List.{length-set, length-map, map-append, get_or-map, take_more}
use Rattle.std.proofs.lemmas.List.Elements.{filter_passes, All-filter, All-contains}
use Rattle.cstn_facts.proofs.Members.{contains_tail}
use Rattle.cstn_facts.proofs.Ranges.{in_range, passing_same}
use Rattle.cstn_label.specs.declared.nodes.NodeId.{NodeId}
use Rattle.cstn_label.specs.Bounds.{Bound}
use Rattle.cstn_net.specs.Limits.{most_time_points}
use Rattle.cstn_net.specs.Networks.{Network, count}
use Rattle.cstn_exec.specs.Runs.{Run, executed_at, AreAskedAt, is_free, is_free_by, called}
use Rattle.cstn_exec.specs.Moves.{executed}

abbrev pub passing : (ℕ → Bool) → ℕ → ℕ → List ℕ
passing test a n = filter test (range_with_len a n)

pub passing_yes : (test : ℕ → Bool) (a n : ℕ) → test a ≡ true → passing test a (suc n) ≡ a ∷ passing test (a + 1) n
passing_yes test a n h = cond-true (test a) (a ∷ passing test (a + 1) n) (passing test (a + 1) n) h

pub passing_no : (test : ℕ → Bool) (a n : ℕ) → test a ≡ false → passing test a (suc n) ≡ passing test (a + 1) n
passing_no test a n h = cond-false (test a) (a ∷ passing test (a + 1) n) (passing test (a + 1) n) h

-- each number of `passing` passes, and is in the range
pub from_passing : (test : ℕ → Bool) (a n x : ℕ) → Contains (passing test a n) x → (a ≤ x) × (x < a + n) × (test x ≡ true)
from_passing test a n x c =
    let within = All-contains (λ x. (a ≤ x) × (x < a + n)) (passing test a n) x
    (All-filter test (λ x. (a ≤ x) × (x < a + n)) (range_with_len a n) (in_range a n)) c in
    (within.0, within.1, All-contains (λ x. test x ≡ true) (passing test a n) x (filter_passes test (range_with_len a n)) c)

pub in_passing : (test : ℕ → Bool) (a n x : ℕ) → a ≤ x → x < a + n → test x ≡ true → Contains (passing test a n) x
in_passing test a zero x from upto h = absurd (omega arith)
in_passing test a (suc n) x from upto h = elim (cases_Bool (test a)) [
  | inl passes ↦
      subst (λ l. Contains l x) (sym (passing_yes test a n passes)) (elim (cases_eq x a) [
        | inl same ↦ (0, omega arith, sym same)
        | inr other ↦ contains_tail a x (passing test (a + 1) n) (in_passing test (a + 1) n x (omega arith) (omega arith) h)
      ])
  | inr fails ↦
      let other : x ≢ a = λ same. both_ways (test a) fails (subst (λ y. test y ≡ true) same h) in
      subst (λ l. Contains l x) (sym (passing_no test a n fails)) (in_passing test (a + 1) n x (omega arith) (omega arith) h)
]

-- ---- one more number

-- ---- the moments after the time-points of the list are executed

pub executed_size : (t : ℕ) (xs : List ℕ) (ms : List (Option ℕ)) → length (executed t xs ms) ≡ length ms
executed_size t [] ms = refl
executed_size t (x ∷ xs) ms = executed_size t xs (slice_set ms x (Some t)) ∙ length-set ms x (Some t)

executed_kept : (t : ℕ) (xs : List ℕ) (ms : List (Option ℕ)) (x : ℕ) → x < length ms → slice_index_or ms x None ≡ Some t →
    slice_index_or (executed t xs ms) x None ≡ Some t
executed_kept t [] ms x inside e = e
executed_kept t (y ∷ ys) ms x inside e =
    let size = length-set ms y (Some t) in
    executed_kept t ys (slice_set ms y (Some t)) x (omega arith) (elim (cases_eq x y) [
      | inl same ↦ subst (λ z. slice_index_or (slice_set ms z (Some t)) x None ≡ Some t) same (get_or-set_same ms x (Some t) None inside)
      | inr other ↦ get_or-set_other ms y x (Some t) None other ∙ e
    ])

-- a number that passes is executed at t
pub executed_passing : (test : ℕ → Bool) (t a n : ℕ) (ms : List (Option ℕ)) (x : ℕ) → x < length ms → a ≤ x → x < a + n → test x ≡ true →
    slice_index_or (executed t (passing test a n) ms) x None ≡ Some t
executed_passing test t a zero ms x inside from upto h = absurd (omega arith)
executed_passing test t a (suc n) ms x inside from upto h = elim (cases_Bool (test a)) [
  | inl passes ↦
      let size = length-set ms a (Some t) in
      subst (λ l. slice_index_or (executed t l ms) x None ≡ Some t) (sym (passing_yes test a n passes)) (elim (cases_eq x a) [
        | inl same ↦ executed_kept t (passing test (a + 1) n) (slice_set ms a (Some t)) x (omega arith)
            (subst (λ z. slice_index_or (slice_set ms z (Some t)) x None ≡ Some t) same (get_or-set_same ms x (Some t) None inside))
        | inr other ↦ executed_passing test t (a + 1) n (slice_set ms a (Some t)) x (omega arith) (omega arith) (omega arith) h
      ])
  | inr fails ↦
      let other : x ≢ a = λ same. both_ways (test a) fails (subst (λ y. test y ≡ true) same h) in
      subst (λ l. slice_index_or (executed t l ms) x None ≡ Some t) (sym (passing_no test a n fails))
      (executed_passing test t (a + 1) n ms x inside (omega arith) (omega arith) h)
]

-- a number that fails keeps the moment that it had
pub executed_failing : (test : ℕ → Bool) (t a n : ℕ) (ms : List (Option ℕ)) (x : ℕ) → test x ≡ false →
    slice_index_or (executed t (passing test a n) ms) x None ≡ slice_index_or ms x None
executed_failing test t a zero ms x h = refl
executed_failing test t a (suc n) ms x h = elim (cases_Bool (test a)) [
  | inl passes ↦
      let other : x ≢ a = λ same. both_ways (test a) (subst (λ y. test y ≡ false) same h) passes in
      subst (λ l. slice_index_or (executed t l ms) x None ≡ slice_index_or ms x None) (sym (passing_yes test a n passes))
      (executed_failing test t (a + 1) n (slice_set ms a (Some t)) x h ∙ get_or-set_other ms a x (Some t) None other)
  | inr fails ↦
      subst (λ l. slice_index_or (executed t l ms) x None ≡ slice_index_or ms x None) (sym (passing_no test a n fails))
      (executed_failing test t (a + 1) n ms x h)
]

pub executed_push : (t : ℕ) (xs : List ℕ) (y : ℕ) (ms : List (Option ℕ)) → executed t (xs ++ y ∷ []) ms ≡ slice_set (executed t xs ms) y (Some t)
executed_push t [] y ms = refl
executed_push t (x ∷ xs) y ms = executed_push t xs y (slice_set ms x (Some t))

pub executed_more : (t : ℕ) (xs : List NodeId) (i : ℕ) (d : NodeId) (ms : List (Option ℕ)) → i < length xs →
    executed t (map (λ x. x.0) (take (i + 1) xs)) ms ≡ slice_set (executed t (map (λ x. x.0) (take i xs)) ms) (slice_index_or xs i d).0 (Some t)
executed_more t xs i d ms inside =
    ap (λ l. executed t l ms) (ap (map (λ x. x.0)) (take_more xs i d inside) ∙ map-append (λ x. x.0) (take i xs) (slice_index_or xs i d ∷ []))
    ∙ executed_push t (map (λ x. x.0) (take i xs)) (slice_index_or xs i d).0 ms

-- ---- which time-points are called

-- the called time-points are those that are free by the moments that the bounds ask for
pub called_by : (net : Network) (bounds : List Bound) (run : Run) (t : ℕ) (after : List ℕ) → count net ≤ most_time_points → length run.moments ≡ count net →
    AreAskedAt net bounds run t after →
    filter (is_free_by run.moments after t) (range_with_len 0 (length run.moments)) ≡ called net bounds run t
called_by net bounds run t after few size same =
    ap (λ n. filter (is_free_by run.moments after t) (range_with_len 0 n)) size
    ∙ passing_same (is_free_by run.moments after t) (is_free net bounds run t) 0 (count net)
    (λ x from inside. ap (λ m. is_none (executed_at run x) && not (nat_lt t m)) (same x (omega arith)))

-- each named number is one of a time-point
pub named_within : (xs : List NodeId) (test : ℕ → Bool) (n : ℕ) → map (λ x. x.0) xs ≡ filter test (range_with_len 0 n) → All (λ x. x.0 < n) xs
named_within xs test n e = λ k d inside.
    let at = get_or-map (λ x. x.0) xs k d d.0 inside in
    let size = ap length e in
    let there = length-map xs (λ x. x.0) in
    let within = All-filter test (λ x. (0 ≤ x) × (x < 0 + n)) (range_with_len 0 n) (in_range 0 n) k d.0 (omega arith) in
    let same = ap (λ l. slice_index_or l k d.0) e in
    let upto = within.1 in
    omega arith
