-- The branch that the program keeps stands for the branch of the definition, through each of its calls.
use Rattle.std.proofs.Common.{ℕ, suc, ◌≡◌, inl, inr, ◌+◌, ◌<◌, ◌≤◌, Bool, true, false, ◌&&◌, ◌||◌, not, List, [], ◌∷◌, Option, Some, None, length, drop, get_or, arith, drop-cons, add-one, le-leb, refl, sym, subst, ap, ◌∙◌, get_or-set_other, get_or-set_same}
use Rattle.std.specs.Prelude.{◌==◌, is_none, is_some, nat_le, slice_set, if◌then◌else◌}
use Rattle.std.specs.List.{position, list_all, range_with_len}
use Rattle.std.specs.Option.{option_and_then}
use Rattle.std.proofs.Math.Path.{fun_ext}
use Rattle.std.proofs.lemmas.Bool.{cases_Bool, cases_eq, cases_lt, cond-true, cond-false, eq-eqb, ne_eqb, both_ways, lt-leb, and_right}
use Rattle.std.proofs.lemmas.List.{length-set, set_past, drop_all}
use Rattle.std.proofs.lemmas.List.Folds.{list_all_at}
use Rattle.cstn_facts.proofs.Options.{is_some-true, is_some-false}
use Rattle.cstn_facts.proofs.Ranges.{each_passes, all_pass}
use Rattle.cstn_label.specs.declared.nodes.NodeId.{NodeId}
use Rattle.cstn_net.specs.Limits.{most_deadline}
use Rattle.cstn_net.specs.Networks.{Network, IsNetwork, Observes, limit, is_prop}
use Rattle.cstn_exec.proofs.Knowing.{observer_at, at_observer}
use Rattle.cstn_outline.specs.Trees.{is_named}
use Rattle.cstn_tree.specs.Good.{Branch, placed_with, are_new, are_in_time, observed_on}
use Rattle.cstn_tree.specs.Branches.{the_placed, IsBranchOf}
use Rattle.cstn_outline.specs.Read.{node_numbers}
use Rattle.cstn_tree.specs.declared.branches.Branch.{Branch as ProgramBranch}

-- ---- observers

pub observed_by : (net : Network) (wf : IsNetwork net) (b : Branch) (x p : ℕ) → Observes net x p → observed_on net b p ≡ b.placed x
observed_by net wf b x p o = ap (option_and_then b.placed) (observer_at net wf x p o)

pub observed_by_none : (net : Network) (wf : IsNetwork net) (b : Branch) (p : ℕ) → ((x : ℕ) → Observes net x p → ⊥) → observed_on net b p ≡ None
observed_by_none net wf b p nowhere = go (position (is_prop p) net.observes) refl
  where
    go : (o : Option ℕ) → position (is_prop p) net.observes ≡ o → observed_on net b p ≡ None
    go None e = ap (option_and_then b.placed) e
    go (Some x) e = absurd (nowhere x (at_observer net wf x p e))

-- ---- each time-point is named

pub all_some : (moments : List (Option ℕ)) (n : ℕ) → length moments ≡ n →
    list_all is_some moments ≡ list_all (λ x. is_some (the_placed moments x)) (range_with_len 0 n)
all_some moments n size = elim (cases_Bool (list_all is_some moments)) [
  | inl all ↦ all ∙ sym (all_pass (λ x. is_some (the_placed moments x)) 0 n (λ x from upto. there x (omega arith) all))
  | inr fails ↦ fails ∙ sym (not_all fails)
]
  where
    there : (x : ℕ) → x < length moments → list_all is_some moments ≡ true → is_some (the_placed moments x) ≡ true
    there x inside all = elim (cases_Bool (is_some (the_placed moments x))) [
      | inl h ↦ h
      | inr h ↦ absurd (both_ways (list_all is_some moments) (list_all_at is_some moments x None inside h) all)
    ]

    all_from : (ms : List (Option ℕ)) → ((x : ℕ) → x < length ms → is_some (the_placed ms x) ≡ true) → list_all is_some ms ≡ true
    all_from [] h = refl
    all_from (m ∷ ms) h = rw (h 0 (omega arith)) (all_from ms (λ x inside. h (suc x) (omega arith)))

    not_all : list_all is_some moments ≡ false → list_all (λ x. is_some (the_placed moments x)) (range_with_len 0 n) ≡ false
    not_all fails = elim (cases_Bool (list_all (λ x. is_some (the_placed moments x)) (range_with_len 0 n))) [
      | inl all ↦
          absurd (both_ways (list_all is_some moments) fails (all_from moments (λ x inside.
          each_passes (λ x. is_some (the_placed moments x)) 0 n all x (omega arith) (omega arith))))
      | inr h ↦ h
    ]

-- ---- one more time-point is named

abbrev pub with_one : (ℕ → Option ℕ) → ℕ → ℕ → ℕ → Option ℕ
with_one placed t x = λ y. if y == x then Some t else placed y

pub set_one : (moments : List (Option ℕ)) (t x : ℕ) → x < length moments → the_placed (slice_set moments x (Some t)) ≡ with_one (the_placed moments) t x
set_one moments t x inside = fun_ext (λ y. elim (cases_eq y x) [
  | inl same ↦
      subst (λ z. the_placed (slice_set moments x (Some t)) z ≡ with_one (the_placed moments) t x z) (sym same)
      (get_or-set_same moments x (Some t) None inside ∙ sym (cond-true (x == x) (Some t) (the_placed moments x) (eq-eqb x x refl)))
  | inr other ↦
      get_or-set_other moments x y (Some t) None other ∙ sym (cond-false (y == x) (Some t) (the_placed moments y) (ne_eqb y x other))
])

and_moved : (n a b c : Bool) → (n && (a && (b && c))) ≡ (b && (n && (a && c)))
and_moved true true true c = refl
and_moved true true false c = refl
and_moved true false true c = refl
and_moved true false false c = refl
and_moved false a true c = refl
and_moved false a false c = refl

new_with : (placed : ℕ → Option ℕ) (t x : ℕ) (xs : List ℕ) → are_new (with_one placed t x) xs ≡ (not (is_named x xs) && are_new placed xs)
new_with placed t x [] = refl
new_with placed t x (y ∷ ys) = elim (cases_eq y x) [
  | inl same ↦
      let here = cond-true (y == x) (Some t) (placed y) (eq-eqb y x same) in
      let there = eq-eqb x y (sym same) in
      ap (λ o. is_none o && (not (is_named y ys) && are_new (with_one placed t x) ys)) here
      ∙ sym (ap (λ b. not (b || is_named x ys) && are_new placed (y ∷ ys)) there)
  | inr other ↦
      let here = cond-false (y == x) (Some t) (placed y) (ne_eqb y x other) in
      let there = ne_eqb x y (λ e. other (sym e)) in
      ap (λ o. is_none o && (not (is_named y ys) && are_new (with_one placed t x) ys)) here
      ∙ ap (λ b. is_none (placed y) && (not (is_named y ys) && b)) (new_with placed t x ys)
      ∙ and_moved (is_none (placed y)) (not (is_named y ys)) (not (is_named x ys)) (are_new placed ys)
      ∙ sym (ap (λ b. not (b || is_named x ys) && are_new placed (y ∷ ys)) there)
]

-- whether these time-points may be named at t
abbrev pub may_name : Network → (ℕ → Option ℕ) → ℕ → List ℕ → Bool
may_name net placed t xs = are_new placed xs && are_in_time net t xs

pub may_name_next : (net : Network) (placed : ℕ → Option ℕ) (t x : ℕ) (xs : List ℕ) → is_none (placed x) ≡ true → nat_le t (limit net x) ≡ true →
    may_name net placed t (x ∷ xs) ≡ may_name net (with_one placed t x) t xs
may_name_next net placed t x xs free soon =
    ap (λ b. (b && (not (is_named x xs) && are_new placed xs)) && (nat_le t (limit net x) && are_in_time net t xs)) free
    ∙ ap (λ b. (not (is_named x xs) && are_new placed xs) && (b && are_in_time net t xs)) soon
    ∙ ap (λ b. b && are_in_time net t xs) (sym (new_with placed t x xs))

pub may_not_name : (net : Network) (placed : ℕ → Option ℕ) (t x : ℕ) (xs : List ℕ) → is_none (placed x) ≡ false → may_name net placed t (x ∷ xs) ≡ false
may_not_name net placed t x xs taken =
    ap (λ b. (b && (not (is_named x xs) && are_new placed xs)) && (nat_le t (limit net x) && are_in_time net t xs)) taken

pub may_not_name_late : (net : Network) (placed : ℕ → Option ℕ) (t x : ℕ) (xs : List ℕ) → nat_le t (limit net x) ≡ false → may_name net placed t (x ∷ xs) ≡ false
may_not_name_late net placed t x xs late =
    ap (λ b. are_new placed (x ∷ xs) && (b && are_in_time net t xs)) late ∙ and_right (are_new placed (x ∷ xs)) false refl

pub placed_next : (placed : ℕ → Option ℕ) (t x : ℕ) (xs : List ℕ) → placed_with placed t (x ∷ xs) ≡ placed_with (with_one placed t x) t xs
placed_next placed t x xs = fun_ext (λ y. go (y == x) (is_named y xs) y)
  where
    go : (b n : Bool) (y : ℕ) → (if b || n then Some t else placed y) ≡ (if n then Some t else (if b then Some t else placed y))
    go true true y = refl
    go true false y = refl
    go false true y = refl
    go false false y = refl

-- the program's branch after one more time-point is named has a place for each of the n, and no moment above a million
pub branch_with : (n : ℕ) (b new : ProgramBranch) (x t : ℕ) → IsBranchOf n b → t ≤ most_deadline → new.moments.items ≡ slice_set b.moments.items x (Some t) →
    IsBranchOf n new
branch_with n b new x t is soon items = record {
  wide = ap length items ∙ length-set b.moments.items x (Some t) ∙ is.wide;
  in_time = λ y m e. at y m (subst (λ l. the_placed l y ≡ Some m) items e);
}
  where
    at : (y m : ℕ) → the_placed (slice_set b.moments.items x (Some t)) y ≡ Some m → m ≤ most_deadline
    at y m e = elim (cases_lt x (length b.moments.items)) [
      | inl inside ↦
          let one : with_one (the_placed b.moments.items) t x y ≡ Some m = ap (λ placed. placed y) (sym (set_one b.moments.items t x inside)) ∙ e in
          elim (cases_Bool (y == x)) [
            | inl same ↦
                let here : Some t ≡ Some m = sym (cond-true (y == x) (Some t) (the_placed b.moments.items y) same) ∙ one in
                let value : t ≡ m = cc in
                omega arith
            | inr other ↦ is.in_time y m (sym (cond-false (y == x) (Some t) (the_placed b.moments.items y) other) ∙ one)
          ]
      | inr outside ↦ is.in_time y m (subst (λ l. the_placed l y ≡ Some m) (set_past b.moments.items x (Some t) outside) e)
    ]

-- ---- one more of the time-points of a line

module _ (net : Network) (moments : List (Option ℕ)) (t : ℕ) (named : List NodeId) (k : ℕ) (d : NodeId) (inside : k < length named) where
  abbrev pub here : ℕ
  here = (get_or named k d).0

  left : node_numbers (drop k named) ≡ here ∷ node_numbers (drop (k + 1) named)
  left = ap node_numbers (drop-cons named k d inside) ∙ ap (λ n. here ∷ node_numbers (drop n named)) (sym (add-one k))

  pub fits_next : (x : ℕ) → x ≡ here → x < length moments → is_some (the_placed moments here) ≡ false → t ≤ limit net here →
      may_name net (the_placed (slice_set moments x (Some t))) t (node_numbers (drop (k + 1) named)) ≡ may_name net (the_placed moments) t (node_numbers (drop k named))
  fits_next x is within free soon =
      let one = set_one moments t x within ∙ ap (λ y. with_one (the_placed moments) t y) is in
      ap (λ placed. may_name net placed t (node_numbers (drop (k + 1) named))) one
      ∙ sym (may_name_next net (the_placed moments) t here (node_numbers (drop (k + 1) named)) (ap is_none (is_some-false (the_placed moments here) free)) (le-leb t (limit net here) soon))
      ∙ sym (ap (may_name net (the_placed moments) t) left)

  pub placed_more : (x : ℕ) → x ≡ here → x < length moments →
      placed_with (the_placed (slice_set moments x (Some t))) t (node_numbers (drop (k + 1) named)) ≡ placed_with (the_placed moments) t (node_numbers (drop k named))
  placed_more x is within =
      let one = set_one moments t x within ∙ ap (λ y. with_one (the_placed moments) t y) is in
      ap (λ placed. placed_with placed t (node_numbers (drop (k + 1) named))) one
      ∙ sym (placed_next (the_placed moments) t here (node_numbers (drop (k + 1) named)))
      ∙ sym (ap (placed_with (the_placed moments) t) left)

  pub taken_fails : is_some (the_placed moments here) ≡ true → may_name net (the_placed moments) t (node_numbers (drop k named)) ≡ false
  taken_fails taken =
      let at = is_some-true (the_placed moments here) taken in
      ap (may_name net (the_placed moments) t) left
      ∙ may_not_name net (the_placed moments) t here (node_numbers (drop (k + 1) named)) (ap is_none at.1)

  pub late_fails : limit net here < t → may_name net (the_placed moments) t (node_numbers (drop k named)) ≡ false
  late_fails late =
      ap (may_name net (the_placed moments) t) left
      ∙ may_not_name_late net (the_placed moments) t here (node_numbers (drop (k + 1) named)) (lt-leb t (limit net here) late)

pub placed_done : (moments : List (Option ℕ)) (t : ℕ) (named : List NodeId) (k : ℕ) → length named ≤ k →
    the_placed moments ≡ placed_with (the_placed moments) t (node_numbers (drop k named))
placed_done moments t named k past = sym (ap (λ l. placed_with (the_placed moments) t (node_numbers l)) (drop_all k named past))
