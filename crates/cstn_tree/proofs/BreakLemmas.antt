-- The tests of a line say whether it breaks, by what stands above it.
use Rattle.std.proofs.Common.{ℕ, zero, suc, ◌≡◌, ◌⊎◌, inl, inr, ◌+◌, ◌<◌, ◌≤◌, Bool, true, false, ◌&&◌, ◌||◌, not, List, [], ◌∷◌, ◌++◌, Option, Some, None, length, map, arith, refl, sym, subst, ap, ◌∙◌, append_assoc, length-append}
use Rattle.std.specs.Prelude.{◌==◌, is_none, is_some, nat_le, pos, ◌-ℤ◌, ◌≤ℤ◌, ℤ, if◌then◌else◌}
use Rattle.std.specs.List.{Contains, list_all, range_with_len}
use Rattle.std.proofs.lemmas.Bool.{cases_Bool, cases_eq, cases_lt, cond-true, cond-false, and_parts, and_cases, or_cases, or_left, or_right, eq-eqb, ne_eqb, both_ways, false≢true, not-false}
use Rattle.std.proofs.lemmas.List.{map-append, length-map}
use Rattle.std.proofs.lemmas.List.Elements.{All-nil, All-cons, All-append}
use Rattle.std.proofs.lemmas.Option.{same_Some}
use Rattle.cstn_facts.proofs.Options.{is_none-true, is_some-false}
use Rattle.cstn_facts.proofs.Ranges.{each_passes, all_pass}
use Rattle.cstn_facts.proofs.Members.{contains_tail, contains_head, contains_cases}
use Rattle.cstn_label.specs.Labels.{Label}
use Rattle.cstn_net.specs.Networks.{Network, IsWellFormed, Constraint, Observes, count, limit}
use Rattle.cstn_exec.specs.Runs.{is_possible, fits_known}
use Rattle.cstn_outline.specs.Trees.{Tree, TreeLine, is_named, lines_of_tree}
use Rattle.cstn_outline.specs.Trees.Tree.{at, ask, done}
use Rattle.cstn_outline.specs.Trees.TreeLine.{AtLine, AskLine, DoneLine}
use Rattle.cstn_tree.specs.Good.{Branch, branch_begun, placed_with, are_new, are_in_time, is_met_within, is_met_so_far, is_met, fits_at, below_at, observed_on, known_from, below_ask, fits_ask, is_complete, or_else, first_broken_from, first_broken}
use Rattle.cstn_tree.specs.Breaks.{Above, Named, Asked, IsNamedAbove, IsUncontradicted, IsViolated, Breaks, on_branches, IsFirstBreak}
use Rattle.cstn_tree.specs.Breaks.Breaks.{not_later, not_known, named_above, named_twice, too_late, not_met, not_observed, asked_above, not_named}
use Rattle.cstn_tree.proofs.Standing.{fits_at_from, fits_ask_from, complete_from}
use Rattle.cstn_tree.proofs.BranchLemmas.{observed_by}
use Rattle.cstn_outline.proofs.WalkLemmas.{named_has, has_named}
use Rattle.cstn_label.proofs.MarkLemmas.{fits_true, true_fits}
use Rattle.cstn_reply.proofs.Sessions.{no_state}

-- ---- elements

one_fails : {X : Type 0} (test : X → Bool) (xs : List X) → list_all test xs ≡ false → (x : X) × Contains xs x × (test x ≡ false)
one_fails test [] h = absurd (both_ways true h refl)
one_fails test (x ∷ xs) h = elim (and_cases (test x) (list_all test xs) h) [
  | inl here ↦ (x, contains_head x xs, here)
  | inr later ↦ let found = one_fails test xs later in (found.0, contains_tail x found.0 xs found.1, found.2)
]

same_named : (t m : ℕ) (xs ys : List ℕ) → Named t xs ≡ Named m ys → (t ≡ m) × (xs ≡ ys)
same_named t m xs ys e = (cc, cc)

same_asked : (p q : ℕ) (v w : Bool) → Asked p v ≡ Asked q w → (p ≡ q) × (v ≡ w)
same_asked p q v w e = (cc, cc)

named_or_asked : (t p : ℕ) (v : Bool) (xs : List ℕ) → Named t xs ≡ Asked p v → ⊥
named_or_asked t p v xs e = cc

asked_later : (t p : ℕ) (v : Bool) (xs : List ℕ) (above : List Above) → Contains (Named t xs ∷ above) (Asked p v) → Contains above (Asked p v)
asked_later t p v xs above c = elim (contains_cases (Named t xs) (Asked p v) above c) [
  | inl same ↦ absurd (named_or_asked t p v xs same)
  | inr later ↦ later
]

named_later : (p m x : ℕ) (v : Bool) (above : List Above) → IsNamedAbove (Asked p v ∷ above) x m → IsNamedAbove above x m
named_later p m x v above (xs, c, has) = elim (contains_cases (Asked p v) (Named m xs) above c) [
  | inl same ↦ absurd (named_or_asked m p v xs (sym same))
  | inr later ↦ (xs, later, has)
]

-- ---- a branch and the lines above

-- the moment t is at most one that stands above, or comes before an outcome that was asked above is known
abbrev IsEarly : Network → List Above → ℕ → Type 0
IsEarly net above t =
    ((u : ℕ) × (ys : List ℕ) × Contains above (Named u ys) × (t ≤ u)) ⊎
    ((p : ℕ) × (v : Bool) × (x : ℕ) × (m : ℕ) × Contains above (Asked p v) × Observes net x p × IsNamedAbove above x m × (t < m + net.reaction p))

-- the branch says what the lines above say
record IsBranch (net : Network) (b : Branch) (above : List Above) : Type 0 where
  placed : (x m : ℕ) → IsNamedAbove above x m → b.placed x ≡ Some m
  named : (x m : ℕ) → b.placed x ≡ Some m → IsNamedAbove above x m
  asked : (p : ℕ) (v : Bool) → Contains above (Asked p v) → b.asked p ≡ Some v
  seen : (p : ℕ) (v : Bool) → b.asked p ≡ Some v → Contains above (Asked p v)
  observed : (p : ℕ) (v : Bool) → Contains above (Asked p v) → (x : ℕ) × (m : ℕ) × Observes net x p × IsNamedAbove above x m
  later : (u : ℕ) (ys : List ℕ) → Contains above (Named u ys) → u < b.from
  known : (p : ℕ) (v : Bool) (x m : ℕ) → Contains above (Asked p v) → Observes net x p → IsNamedAbove above x m → m + net.reaction p ≤ b.from
  early : (t : ℕ) → t < b.from → IsEarly net above t

branch_start : (net : Network) → IsBranch net branch_begun []
branch_start net = record {
  placed = λ x m named. absurd (let h = named.1.1 in omega arith);
  named = λ x m e. absurd (cc);
  asked = λ p v c. absurd (let h = c.1 in omega arith);
  seen = λ p v e. absurd (cc);
  observed = λ p v c. absurd (let h = c.1 in omega arith);
  later = λ u ys c. absurd (let h = c.1 in omega arith);
  known = λ p v x m c. absurd (let h = c.1 in omega arith);
  early = λ t h. absurd (omega (arith, h));
}

module _ (net : Network) (wf : IsWellFormed net) (b : Branch) (above : List Above) (is : IsBranch net b above) where
  -- ---- `at`

  module _ (t : ℕ) (xs : List ℕ) where
    -- where the time-points of the line are not named above, a time-point is named on the line or above where the branch says so
    placed_here : ((x : ℕ) → is_named x xs ≡ true → b.placed x ≡ None) → (x m : ℕ) → IsNamedAbove (Named t xs ∷ above) x m → placed_with b.placed t xs x ≡ Some m
    placed_here once x m (ys, c, has) = elim (contains_cases (Named t xs) (Named m ys) above c) [
      | inl same ↦
          let both = same_named t m xs ys same in
          let here = has_named x xs (subst (λ zs. Contains zs x) (sym both.1) has) in
          cond-true (is_named x xs) (Some t) (b.placed x) here ∙ ap (λ n. Some n) both.0
      | inr later ↦
          let there = is.placed x m (ys, later, has) in
          elim (cases_Bool (is_named x xs)) [
            | inl here ↦ absurd (no_state (b.placed x) m (once x here) there)
            | inr other ↦ cond-false (is_named x xs) (Some t) (b.placed x) other ∙ there
          ]
    ]

    named_here : (x m : ℕ) → placed_with b.placed t xs x ≡ Some m → IsNamedAbove (Named t xs ∷ above) x m
    named_here x m e = elim (cases_Bool (is_named x xs)) [
      | inl here ↦
          let same = same_Some t m (sym (cond-true (is_named x xs) (Some t) (b.placed x) here) ∙ e) in
          (xs, subst (λ n. Contains (Named t xs ∷ above) (Named n xs)) same (contains_head (Named t xs) above), named_has x xs here)
      | inr other ↦
          let there = is.named x m (sym (cond-false (is_named x xs) (Some t) (b.placed x) other) ∙ e) in
          (there.0, contains_tail (Named t xs) (Named m there.0) above there.1, there.2)
    ]

    branch_at : fits_at net b t xs ≡ true → IsBranch net (below_at b t xs) (Named t xs ∷ above)
    branch_at fits =
        let f = fits_at_from net b t xs fits in
        let first = f.first in
        record {
          placed = placed_here f.once;
          named = named_here;
          asked = λ p v c. is.asked p v (asked_later t p v xs above c);
          seen = λ p v e. contains_tail (Named t xs) (Asked p v) above (is.seen p v e);
          observed = λ p v c. let o = is.observed p v (asked_later t p v xs above c) in
              (o.0, o.1, o.2, (o.3.0, contains_tail (Named t xs) (Named o.1 o.3.0) above o.3.1, o.3.2));
          later = λ u ys c. elim (contains_cases (Named t xs) (Named u ys) above c) [
            | inl same ↦ let both = same_named t u xs ys same in let one = both.0 in omega (arith, one)
            | inr there ↦ let low = is.later u ys there in omega (arith, low, first)
          ];
          known = λ p v x m c o named.
              let there = asked_later t p v xs above c in
              let observer = is.observed p v there in
              let same : observer.0 ≡ x = wf.network.one_observer observer.0 x p observer.2 o in
              let placed = is.placed observer.0 observer.1 observer.3 in
              let on_line = placed_here f.once x m named in
              elim (cases_Bool (is_named x xs)) [
                | inl here ↦ absurd (no_state (b.placed x) observer.1 (f.once x here) (subst (λ y. b.placed y ≡ Some observer.1) same placed))
                | inr other ↦
                    let known = is.known p v x m there o (is.named x m (sym (cond-false (is_named x xs) (Some t) (b.placed x) other) ∙ on_line)) in
                    omega (arith, known, first)
              ];
          early = λ u below. inl (t, xs, contains_head (Named t xs) above, omega (arith, below));
        }

    -- ---- what an `at` that fits doesn't do

    twice_fails : (placed : ℕ → Option ℕ) (x : ℕ) (one other : List ℕ) → Contains other x → are_new placed (one ++ x ∷ other) ≡ true → ⊥
    twice_fails placed x [] other c h =
        let parts = and_parts (is_none (placed x)) (not (is_named x other) && are_new placed other) h in
        let free = (and_parts (not (is_named x other)) (are_new placed other) parts.1).0 in
        both_ways (is_named x other) (not-true (is_named x other) free) (has_named x other c)
      where
        not-true : (b : Bool) → not b ≡ true → b ≡ false
        not-true true h = absurd (false≢true h)
        not-true false h = refl
    twice_fails placed x (y ∷ one) other c h =
        let parts = and_parts (is_none (placed y)) (not (is_named y (one ++ x ∷ other)) && are_new placed (one ++ x ∷ other)) h in
        twice_fails placed x one other c (and_parts (not (is_named y (one ++ x ∷ other))) (are_new placed (one ++ x ∷ other)) parts.1).1

    possible_here : (a : Label) → IsUncontradicted above a → is_possible b.asked a ≡ true
    unfolding is_possible
    possible_here a h = all_pass (λ q. fits_known (b.asked q) (a q)) 0 52 (λ p from upto. go p (b.asked p) refl)
      where
        go : (p : ℕ) (o : Option Bool) → b.asked p ≡ o → fits_known (b.asked p) (a p) ≡ true
        go p None e = subst (λ o. fits_known o (a p) ≡ true) (sym e) refl
        go p (Some v) e = subst (λ o. fits_known o (a p) ≡ true) (sym e) (true_fits v (a p) (h p v (is.seen p v e)))

    uncontradicted : (a : Label) → is_possible b.asked a ≡ true → IsUncontradicted above a
    unfolding is_possible
    uncontradicted a h = λ p v c.
        let o = is.observed p v c in
        let letter = wf.letters o.0 p o.2 in
        let fit = each_passes (λ q. fits_known (b.asked q) (a q)) 0 52 h p (omega arith) (omega arith) in
        fits_true v (a p) (subst (λ o. fits_known o (a p) ≡ true) (is.asked p v c) fit)

    named_either : (c : Constraint) → Contains xs c.from ⊎ Contains xs c.to → (is_named c.from xs || is_named c.to xs) ≡ true
    named_either c (inl from) = or_left (is_named c.from xs) (is_named c.to xs) (has_named c.from xs from)
    named_either c (inr to) = or_right (is_named c.from xs) (is_named c.to xs) (has_named c.to xs to)

  unbroken_at : (t : ℕ) (xs : List ℕ) → fits_at net b t xs ≡ true → Breaks net above (AtLine t xs) → ⊥
  unbroken_at _ _ fits (not_later t u xs ys c early) =
      let first = (fits_at_from net b t xs fits).first in
      let low = is.later u ys c in
      omega (arith, first, low, early)
  unbroken_at _ _ fits (not_known t p x m v xs c o named early) =
      let first = (fits_at_from net b t xs fits).first in
      let low = is.known p v x m c o named in
      omega (arith, first, low, early)
  unbroken_at _ _ fits (named_above t x m xs has named) =
      no_state (b.placed x) m ((fits_at_from net b t xs fits).once x (has_named x xs has)) (is.placed x m named)
  unbroken_at _ _ fits (named_twice t x one other has) =
      let xs = one ++ x ∷ other in
      let parts = and_parts (nat_le b.from t) _ fits in
      twice_fails t xs b.placed x one other has (and_parts (are_new b.placed xs) _ parts.1).0
  unbroken_at _ _ fits (too_late t x xs has late) =
      let soon = (fits_at_from net b t xs fits).limits x (has_named x xs has) in
      omega (arith, soon, late)
  unbroken_at _ _ fits (not_met t xs c in_net v) =
      let f = fits_at_from net b t xs fits in
      v.broken (f.meets c in_net (possible_here t xs c.label v.uncontradicted) (named_either t xs c v.here) v.from v.to
      (placed_here t xs f.once c.from v.from v.from_named) (placed_here t xs f.once c.to v.to v.to_named))

  -- ---- what an `at` that doesn't fit does

  AreNotNew : (ℕ → Option ℕ) → List ℕ → Type 0
  AreNotNew placed xs =
      ((x : ℕ) × (m : ℕ) × Contains xs x × (placed x ≡ Some m)) ⊎ ((x : ℕ) × (one : List ℕ) × (other : List ℕ) × (xs ≡ one ++ x ∷ other) × Contains other x)

  is_there : (o : Option ℕ) → is_none o ≡ false → (m : ℕ) × (o ≡ Some m)
  is_there None h = absurd (false≢true (sym h))
  is_there (Some m) h = (m, refl)

  not_new : (placed : ℕ → Option ℕ) (xs : List ℕ) → are_new placed xs ≡ false → AreNotNew placed xs
  unfolding AreNotNew
  not_new placed [] h = absurd (false≢true (sym h))
  not_new placed (x ∷ xs) h = elim (and_cases (is_none (placed x)) (not (is_named x xs) && are_new placed xs) h) [
    | inl taken ↦ let m = is_there (placed x) taken in inl (x, m.0, contains_head x xs, m.1)
    | inr rest ↦
        elim (and_cases (not (is_named x xs)) (are_new placed xs) rest) [
          | inl twice ↦ inr (x, [], xs, refl, named_has x xs (not-false (is_named x xs) twice))
          | inr below ↦
              elim (not_new placed xs below) [
                | inl (y, m, has, there) ↦ inl (y, m, contains_tail x y xs has, there)
                | inr (y, one, other, same, has) ↦ inr (y, x ∷ one, other, ap (λ l. x ∷ l) same, has)
              ]
        ]
  ]

  not_within : (most : ℤ) (from to : Option ℕ) → is_met_within most from to ≡ false →
      (m_f : ℕ) × (m_t : ℕ) × (from ≡ Some m_f) × (to ≡ Some m_t) × ((pos m_t -ℤ pos m_f) ≤ℤ most → ⊥)
  not_within most None to h = absurd (false≢true (sym h))
  not_within most (Some from) None h = absurd (false≢true (sym h))
  not_within most (Some from) (Some to) h = (from, to, refl, refl, λ le. let low = le.le in grind (arith, h, low))

  or_false : (a c : Bool) → (a || c) ≡ false → (a ≡ false) × (c ≡ false)
  or_false true c h = absurd (false≢true (sym h))
  or_false false c h = (refl, h)

  either : (xs : List ℕ) (c : Constraint) → (is_named c.from xs || is_named c.to xs) ≡ true → Contains xs c.from ⊎ Contains xs c.to
  either xs c h = elim (or_cases (is_named c.from xs) (is_named c.to xs) h) [
    | inl from ↦ inl (named_has c.from xs from)
    | inr to ↦ inr (named_has c.to xs to)
  ]

  violated : (t : ℕ) (xs : List ℕ) (c : Constraint) → is_met (placed_with b.placed t xs) b.asked xs c ≡ false → IsViolated above t xs c
  violated t xs c h =
      let placed = placed_with b.placed t xs in
      let parts = or_false (not (is_named c.from xs || is_named c.to xs)) (is_met_so_far placed b.asked c) h in
      let kept = or_false (not (is_possible b.asked c.label)) (is_met_within c.most (placed c.from) (placed c.to)) parts.1 in
      let both = not_within c.most (placed c.from) (placed c.to) kept.1 in
      record {
        from = both.0;
        to = both.1;
        here = either xs c (not-false (is_named c.from xs || is_named c.to xs) parts.0);
        from_named = named_here t xs c.from both.0 both.2;
        to_named = named_here t xs c.to both.1 both.3;
        uncontradicted = uncontradicted t xs c.label (not-false (is_possible b.asked c.label) kept.0);
        broken = both.4;
      }

  not_le : (m n : ℕ) → nat_le m n ≡ false → n < m
  not_le m n h = grind arith

  early_breaks : (t : ℕ) (xs : List ℕ) → IsEarly net above t → Breaks net above (AtLine t xs)
  early_breaks t xs (inl (u, ys, c, low)) = not_later t u xs ys c low
  early_breaks t xs (inr (p, v, x, m, c, o, named, low)) = not_known t p x m v xs c o named low

  not_new_breaks : (t : ℕ) (xs : List ℕ) → AreNotNew b.placed xs → Breaks net above (AtLine t xs)
  unfolding AreNotNew
  not_new_breaks t xs (inl (x, m, has, there)) = named_above t x m xs has (is.named x m there)
  not_new_breaks t xs (inr (x, one, other, same, has)) = subst (λ l. Breaks net above (AtLine t l)) (sym same) (named_twice t x one other has)

  breaks_at : (t : ℕ) (xs : List ℕ) → fits_at net b t xs ≡ false → Breaks net above (AtLine t xs)
  breaks_at t xs fails =
      let meets = list_all (is_met (placed_with b.placed t xs) b.asked xs) net.constraints in
      elim (and_cases (nat_le b.from t) (are_new b.placed xs && (are_in_time net t xs && meets)) fails) [
        | inl early ↦ early_breaks t xs (is.early t (not_le b.from t early))
        | inr rest ↦
            elim (and_cases (are_new b.placed xs) (are_in_time net t xs && meets) rest) [
              | inl old ↦ not_new_breaks t xs (not_new b.placed xs old)
              | inr more ↦
                  elim (and_cases (are_in_time net t xs) meets more) [
                    | inl late ↦ let x = one_fails (λ x. nat_le t (limit net x)) xs late in too_late t x.0 xs x.1 (not_le t (limit net x.0) x.2)
                    | inr unmet ↦
                        let c = one_fails (is_met (placed_with b.placed t xs) b.asked xs) net.constraints unmet in
                        not_met t xs c.0 c.1 (violated t xs c.0 c.2)
                  ]
            ]
      ]

  -- ---- `ask`

  unbroken_ask : (p : ℕ) → fits_ask net b p ≡ true → Breaks net above (AskLine p) → ⊥
  unbroken_ask _ fits (not_observed p nowhere) =
      let f = (fits_ask_from net wf.network b p fits) in
      nowhere f.placed.observer f.moment f.placed.observes (is.named f.placed.observer f.moment f.placed.there)
  unbroken_ask _ fits (asked_above p v c) =
      let free = is_none-true (b.asked p) (and_parts (is_some (observed_on net b p)) (is_none (b.asked p)) fits).1 in
      no_state (b.asked p) v free (is.asked p v c)

  is_seen : (o : Option Bool) → is_none o ≡ false → (v : Bool) × (o ≡ Some v)
  is_seen None h = absurd (false≢true (sym h))
  is_seen (Some v) h = (v, refl)

  breaks_ask : (p : ℕ) → fits_ask net b p ≡ false → Breaks net above (AskLine p)
  breaks_ask p fails = elim (and_cases (is_some (observed_on net b p)) (is_none (b.asked p)) fails) [
    | inl none ↦
        not_observed p (λ x m o named.
        no_state (observed_on net b p) m (is_some-false (observed_on net b p) none) (observed_by net wf.network b x p o ∙ is.placed x m named))
    | inr taken ↦ let v = is_seen (b.asked p) taken in asked_above p v.0 (is.seen p v.0 v.1)
  ]

  branch_ask : (p : ℕ) (v : Bool) → fits_ask net b p ≡ true → IsBranch net (below_ask net b p v) (Asked p v ∷ above)
  branch_ask p v fits =
      let f = fits_ask_from net wf.network b p fits in
      let free = is_none-true (b.asked p) (and_parts (is_some (observed_on net b p)) (is_none (b.asked p)) fits).1 in
      let observer = f.placed.observer in
      let there = is.named observer f.moment f.placed.there in
      let on : observed_on net b p ≡ Some f.moment = observed_by net wf.network b observer p f.placed.observes ∙ f.placed.there in
      let known_at : known_from (net.reaction p) (observed_on net b p) ≡ f.moment + net.reaction p = ap (known_from (net.reaction p)) on in
      let from = (below_ask net b p v).from in
      let above_from : b.from ≤ from = omega arith in
      let above_known : f.moment + net.reaction p ≤ from = omega (arith, known_at) in
      let deeper : (x m : ℕ) → IsNamedAbove above x m → IsNamedAbove (Asked p v ∷ above) x m =
      λ x m named. (named.0, contains_tail (Asked p v) (Named m named.0) above named.1, named.2) in
      record {
        placed = λ x m named. is.placed x m (named_later p m x v above named);
        named = λ x m e. deeper x m (is.named x m e);
        asked = λ q w c. elim (contains_cases (Asked p v) (Asked q w) above c) [
          | inl same ↦ let both = same_asked p q v w same in cond-true (q == p) (Some v) (b.asked q) (eq-eqb q p (sym both.0)) ∙ ap (λ x. Some x) both.1
          | inr later ↦
              let known = is.asked q w later in
              elim (cases_eq q p) [
                | inl same ↦ absurd (no_state (b.asked p) w free (subst (λ r. b.asked r ≡ Some w) same known))
                | inr other ↦ cond-false (q == p) (Some v) (b.asked q) (ne_eqb q p other) ∙ known
              ]
        ];
        seen = λ q w e. elim (cases_eq q p) [
          | inl same ↦
              let value = same_Some v w (sym (cond-true (q == p) (Some v) (b.asked q) (eq-eqb q p same)) ∙ e) in
              subst (λ r. Contains (Asked p v ∷ above) (Asked r w)) (sym same) (subst (λ u. Contains (Asked p v ∷ above) (Asked p u)) value (contains_head (Asked p v) above))
          | inr other ↦ contains_tail (Asked p v) (Asked q w) above (is.seen q w (sym (cond-false (q == p) (Some v) (b.asked q) (ne_eqb q p other)) ∙ e))
        ];
        observed = λ q w c. elim (contains_cases (Asked p v) (Asked q w) above c) [
          | inl same ↦
              let both = same_asked p q v w same in
              (observer, f.moment, subst (λ r. Observes net observer r) both.0 f.placed.observes, deeper observer f.moment there)
          | inr later ↦ let o = is.observed q w later in (o.0, o.1, o.2, deeper o.0 o.1 o.3)
        ];
        later = λ u ys c. elim (contains_cases (Asked p v) (Named u ys) above c) [
          | inl same ↦ absurd (named_or_asked u p v ys (sym same))
          | inr later ↦ let low = is.later u ys later in omega (arith, low, above_from)
        ];
        known = λ q w x m c o named.
            let before = named_later p m x v above named in
            elim (contains_cases (Asked p v) (Asked q w) above c) [
              | inl same ↦
                  let both = same_asked p q v w same in
                  let observes = subst (λ r. Observes net x r) (sym both.0) o in
                  let one : observer ≡ x = wf.network.one_observer observer x p f.placed.observes observes in
                  let moment = same_Some f.moment m (sym f.placed.there ∙ ap b.placed one ∙ is.placed x m before) in
                  subst (λ r. m + net.reaction r ≤ from) both.0 (subst (λ n. n + net.reaction p ≤ from) moment above_known)
              | inr later ↦ let low = is.known q w x m later o before in omega (arith, low, above_from)
            ];
        early = λ t below. elim (cases_lt t b.from) [
          | inl before ↦ earlier p v t (is.early t before)
          | inr past ↦
              inr (p, v, observer, f.moment, contains_head (Asked p v) above, f.placed.observes, deeper observer f.moment there, omega (arith, below, known_at, past))
        ];
      }
    where
      earlier : (p : ℕ) (v : Bool) (t : ℕ) → IsEarly net above t → IsEarly net (Asked p v ∷ above) t
      earlier p v t (inl (u, ys, c, low)) = inl (u, ys, contains_tail (Asked p v) (Named u ys) above c, low)
      earlier p v t (inr (q, w, x, m, c, o, named, low)) =
          inr (q, w, x, m, contains_tail (Asked p v) (Asked q w) above c, o, (named.0, contains_tail (Asked p v) (Named m named.0) above named.1, named.2), low)

  -- ---- `done`

  unbroken_done : is_complete net b ≡ true → Breaks net above DoneLine → ⊥
  unbroken_done whole (not_named x inside nowhere) =
      let there = (complete_from net b whole).all x inside in
      nowhere there.0 (is.named x there.0 there.1)

  breaks_done : is_complete net b ≡ false → Breaks net above DoneLine
  breaks_done fails =
      let x = one_left (λ x. is_some (b.placed x)) 0 (count net) fails in
      not_named x.0 (omega (arith, x.2)) (λ m named. no_state (b.placed x.0) m (is_some-false (b.placed x.0) x.3) (is.placed x.0 m named))
    where
      one_left : (test : ℕ → Bool) (low n : ℕ) → list_all test (range_with_len low n) ≡ false → (x : ℕ) × (low ≤ x) × (x < low + n) × (test x ≡ false)
      one_left test low zero h = absurd (false≢true (sym h))
      one_left test low (suc n) h = elim (and_cases (test low) (list_all test (range_with_len (low + 1) n)) h) [
        | inl here ↦ (low, omega arith, omega arith, here)
        | inr later ↦
            let x = one_left test (low + 1) n later in
            let from = x.1 in
            let upto = x.2 in
            (x.0, omega (arith, from), omega (arith, upto), x.3)
      ]

-- ---- the first line that breaks

pub branch_lines : (above : List Above) (tree : Tree) → map (λ (l : List Above × TreeLine). l.1) (on_branches above tree) ≡ lines_of_tree tree
branch_lines above (at t xs next) = ap (λ ls. AtLine t xs ∷ ls) (branch_lines (Named t xs ∷ above) next)
branch_lines above (ask p one other) =
    ap (λ ls. AskLine p ∷ ls) (map-append (λ (l : List Above × TreeLine). l.1) (on_branches (Asked p true ∷ above) one) (on_branches (Asked p false ∷ above) other)
    ∙ ap (λ ls. ls ++ map (λ (l : List Above × TreeLine). l.1) (on_branches (Asked p false ∷ above) other)) (branch_lines (Asked p true ∷ above) one)
    ∙ ap (λ ls. lines_of_tree one ++ ls) (branch_lines (Asked p false ∷ above) other))
branch_lines above done = refl

module _ (net : Network) where
  abbrev Stays : List Above × TreeLine → Type 0
  Stays l = Breaks net l.0 l.1 → ⊥

  first_here : (first : ℕ) (l : List Above × TreeLine) (ls : List (List Above × TreeLine)) → Breaks net l.0 l.1 → IsFirstBreak net first (l ∷ ls) (Some first)
  first_here first l ls breaks = ([], l, ls, refl, omega arith, All-nil Stays, breaks)

  first_later : (first : ℕ) (l : List Above × TreeLine) (ls : List (List Above × TreeLine)) (o : Option ℕ) → (Breaks net l.0 l.1 → ⊥) →
      IsFirstBreak net (first + 1) ls o → IsFirstBreak net first (l ∷ ls) o
  first_later first l ls None fits none = All-cons Stays l ls fits none
  first_later first l ls (Some number) fits (before, line, after, same, is, none, breaks) =
      (l ∷ before, line, after, ap (λ k. l ∷ k) same, omega (arith, is), All-cons Stays l before fits none, breaks)

  first_append : (first : ℕ) (one other : List (List Above × TreeLine)) (o p : Option ℕ) → IsFirstBreak net first one o → IsFirstBreak net (first + length one) other p →
      IsFirstBreak net first (one ++ other) (or_else o p)
  first_append first one other (Some number) p (before, line, after, same, is, none, breaks) second =
      (before, line, after ++ other, ap (λ l. l ++ other) same ∙ append_assoc before (line ∷ after) other, is, none, breaks)
  first_append first one other None None none second = All-append Stays one other none second
  first_append first one other None (Some number) none (before, line, after, same, is, none_before, breaks) =
      let size = length-append one before in
      (one ++ before, line, after, ap (λ l. one ++ l) same ∙ sym (append_assoc one before (line ∷ after)), omega (arith, is, size), All-append Stays one before none none_before, breaks)

  first_if : (test : Bool) (first : ℕ) (l : List Above × TreeLine) (ls : List (List Above × TreeLine)) (rest : Option ℕ) → (test ≡ true → Breaks net l.0 l.1 → ⊥) →
      (test ≡ false → Breaks net l.0 l.1) → (test ≡ true → IsFirstBreak net (first + 1) ls rest) → IsFirstBreak net first (l ∷ ls) (if test then rest else Some first)
  first_if true first l ls rest fits breaks below = first_later first l ls rest (fits refl) (below refl)
  first_if false first l ls rest fits breaks below = first_here first l ls (breaks refl)

  first_from : IsWellFormed net → (b : Branch) (above : List Above) (tree : Tree) (first : ℕ) → IsBranch net b above →
      IsFirstBreak net first (on_branches above tree) (first_broken_from net b tree first)
  first_from wf b above (at t xs next) first is =
      first_if (fits_at net b t xs) first (above, AtLine t xs) (on_branches (Named t xs ∷ above) next) (first_broken_from net (below_at b t xs) next (first + 1))
      (unbroken_at net wf b above is t xs) (breaks_at net wf b above is t xs)
      (λ fits. first_from wf (below_at b t xs) (Named t xs ∷ above) next (first + 1) (branch_at net wf b above is t xs fits))
  first_from wf b above (ask p one other) first is =
      let left = on_branches (Asked p true ∷ above) one in
      let right = on_branches (Asked p false ∷ above) other in
      let size : length left ≡ length (lines_of_tree one) = sym (length-mapped left) ∙ ap length (branch_lines (Asked p true ∷ above) one) in
      first_if (fits_ask net b p) first (above, AskLine p) (left ++ right)
      (or_else (first_broken_from net (below_ask net b p true) one (first + 1)) (first_broken_from net (below_ask net b p false) other (first + 1 + length (lines_of_tree one))))
      (unbroken_ask net wf b above is p) (breaks_ask net wf b above is p)
      (λ fits. first_append (first + 1) left right (first_broken_from net (below_ask net b p true) one (first + 1))
      (first_broken_from net (below_ask net b p false) other (first + 1 + length (lines_of_tree one)))
      (first_from wf (below_ask net b p true) (Asked p true ∷ above) one (first + 1) (branch_ask net wf b above is p true fits))
      (subst (λ n. IsFirstBreak net (first + 1 + n) right (first_broken_from net (below_ask net b p false) other (first + 1 + length (lines_of_tree one)))) (sym size)
      (first_from wf (below_ask net b p false) (Asked p false ∷ above) other (first + 1 + length (lines_of_tree one)) (branch_ask net wf b above is p false fits))))
    where
      length-mapped : (ls : List (List Above × TreeLine)) → length (map (λ (l : List Above × TreeLine). l.1) ls) ≡ length ls
      length-mapped ls = length-map ls (λ (l : List Above × TreeLine). l.1)
  first_from wf b above done first is =
      first_if (is_complete net b) first (above, DoneLine) [] None (unbroken_done net wf b above is) (breaks_done net wf b above is) (λ whole. All-nil Stays)

  -- the line that is found is the first that breaks
  pub first_breaks : (tree : Tree) → IsWellFormed net → IsFirstBreak net 2 (on_branches [] tree) (first_broken net tree)
  first_breaks tree wf = first_from wf branch_begun [] tree 2 (branch_start net)
