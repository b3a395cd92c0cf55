-- Rows, and the scenarios that they stand for.
use Rattle.std.proofs.Common.{ℕ, zero, suc, ◌≡◌, ◌≢◌, inl, inr, ◌+◌, ◌*◌, ◌/◌, ◌%◌, ◌^◌, ◌<◌, Bool, true, false, cond, Option, Some, None, List, [], ◌∷◌, ◌++◌, length, get_or, take, ◌==◌, arith, refl, sym, subst, ◌∙◌, ap}
use Rattle.std.specs.Prelude.{is_some}
use Rattle.std.specs.Option.{option_map}
use Rattle.std.specs.List.{All}
use Rattle.std.proofs.lemmas.Bool.{cases_eq, eq-eqb, ne_eqb}
use Rattle.std.proofs.Math.Nat.{pow-succ'}
use Rattle.std.proofs.lemmas.List.{take_more, length-append, map-append, append-nil}
use Rattle.std.proofs.lemmas.List.Elements.{All-cons, All-nil, All-head, All-tail, All-weaker}
use Rattle.cstn_label.specs.declared.props.Prop.{Prop}
use Rattle.cstn_label.specs.Labels.{Scenario}
use Rattle.cstn_net.specs.Networks.{Network, IsNetwork, Observes}
use Rattle.cstn_table.specs.Tables.{observed_props, row_of, scenario_of}
use Rattle.cstn_table.specs.Read.{numbers}
use Rattle.cstn_table.specs.Raises.{rows, AreObserved}

digit_below : (v : Bool) (r w : ℕ) → r < w → 2 * r + cond v 1 0 < 2 * w
digit_below true r w h = omega arith
digit_below false r w h = omega arith

-- the row of a scenario of n propositions is below 2 ^ n
pub row_below : (ps : List ℕ) (s : Scenario) → row_of ps s < 2 ^ length ps
row_below [] s = omega arith
row_below (p ∷ ps) s = rw (pow-succ' 2 (length ps)) (digit_below (s p) (row_of ps s) (2 ^ length ps) (row_below ps s))

-- scenarios with the same values have the same row
pub same_row : (ps : List ℕ) (s r : Scenario) → All (λ p. r p ≡ s p) ps → row_of ps r ≡ row_of ps s
same_row [] s r same = refl
same_row (p ∷ ps) s r same =
    rw (All-head (λ p. r p ≡ s p) p ps same, same_row ps s r (All-tail (λ p. r p ≡ s p) p ps same)) refl

digits_same : (v w : Bool) (m n : ℕ) → 2 * m + cond v 1 0 ≡ 2 * n + cond w 1 0 → (v ≡ w) × (m ≡ n)
digits_same true true m n e = (refl, omega arith)
digits_same true false m n e = absurd (omega arith)
digits_same false true m n e = absurd (omega arith)
digits_same false false m n e = (refl, omega arith)

-- scenarios with the same row have the same values
pub same_values : (ps : List ℕ) (s r : Scenario) → row_of ps r ≡ row_of ps s → All (λ p. r p ≡ s p) ps
same_values [] s r e = All-nil (λ p. r p ≡ s p)
same_values (p ∷ ps) s r e =
    let both = digits_same (r p) (s p) (row_of ps r) (row_of ps s) e in
    All-cons (λ p. r p ≡ s p) p ps both.0 (same_values ps s r both.1)

-- each proposition of the list stands there once
pub AreApart : List ℕ → Type 0
AreApart [] = Unit {0}
AreApart (p ∷ ps) = All (λ q. q ≢ p) ps × AreApart ps

digits_of : (row : ℕ) → 2 * (row / 2) + cond (row % 2 == 1) 1 0 ≡ row
digits_of row = elim (cases_eq (row % 2) 1) [
  | inl e ↦ rw (eq-eqb (row % 2) 1 e) (omega arith)
  | inr n ↦ rw (ne_eqb (row % 2) 1 n) (omega arith)
]

-- the scenario of a row has that row
pub row_of_scenario : (ps : List ℕ) (row : ℕ) → AreApart ps → row < 2 ^ length ps → row_of ps (scenario_of ps row) ≡ row
unfolding AreApart
row_of_scenario [] row apart h = omega arith
row_of_scenario (p ∷ ps) row apart h =
    let wide = pow-succ' 2 (length ps) in
    let rest = row_of_scenario ps (row / 2) apart.1 (omega arith) in
    let alike = same_row ps (scenario_of ps (row / 2)) (scenario_of (p ∷ ps) row)
    (All-weaker (λ q. q ≢ p) (λ q. scenario_of (p ∷ ps) row q ≡ scenario_of ps (row / 2) q)
    (λ q other. rw (ne_eqb q p other) refl) ps apart.0) in
    let here = digits_of row in
    rw (alike, rest, eq-eqb p p refl) here

-- what holds of each observed proposition holds of each in the list, and the other way round
pub all_observed : (P : ℕ → Type 0) (os : List (Option ℕ)) → All P (observed_props os) → (x p : ℕ) → get_or os x None ≡ Some p → P p
all_observed P [] all x p e = cc
all_observed P (None ∷ os) all zero p e = cc
all_observed P (None ∷ os) all (suc x) p e = all_observed P os all x p e
all_observed P (Some q ∷ os) all zero p e =
    let same : q ≡ p = cc in
    subst P same (All-head P q (observed_props os) all)
all_observed P (Some q ∷ os) all (suc x) p e = all_observed P os (All-tail P q (observed_props os) all) x p e

pub all_props : (P : ℕ → Type 0) (os : List (Option ℕ)) → ((x p : ℕ) → get_or os x None ≡ Some p → P p) → All P (observed_props os)
all_props P [] each = All-nil P
all_props P (None ∷ os) each = all_props P os (λ x p e. each (suc x) p e)
all_props P (Some q ∷ os) each = All-cons P q (observed_props os) (each 0 q refl) (all_props P os (λ x p e. each (suc x) p e))

-- where each proposition has at most one observer, each stands in the list once
pub props_apart : (os : List (Option ℕ)) →
    ((x y p : ℕ) → get_or os x None ≡ Some p → get_or os y None ≡ Some p → x ≡ y) → AreApart (observed_props os)
unfolding AreApart
props_apart [] one = tt
props_apart (None ∷ os) one = props_apart os (λ x y p e f. let same = one (suc x) (suc y) p e f in omega arith)
props_apart (Some q ∷ os) one = (
  all_props (λ r. r ≢ q) os (λ x r e same.
      let there : get_or os x None ≡ Some q = e ∙ ap Some same in
      let places = one 0 (suc x) q refl there in
      absurd (omega arith)),
  props_apart os (λ x y p e f. let same = one (suc x) (suc y) p e f in omega arith),
)

-- one more time-point gives one more proposition, if it observes one
props_append : (os : List (Option ℕ)) (o : Option ℕ) → observed_props (os ++ o ∷ []) ≡ observed_props os ++ observed_props (o ∷ [])
props_append [] o = refl
props_append (None ∷ os) o = props_append os o
props_append (Some q ∷ os) o = ap (λ ps. q ∷ ps) (props_append os o)

pub props_more : (os : List (Option ℕ)) (i : ℕ) (o : Option ℕ) → i < length os → get_or os i None ≡ o →
    observed_props (take (i + 1) os) ≡ observed_props (take i os) ++ observed_props (o ∷ [])
props_more os i o inside there = rw (take_more os i None inside, there) (props_append (take i os) o)

-- a turn of the loop that counts the observed propositions
pub count_turn : (os : List (Option ℕ)) (i : ℕ) (o : Option Prop) (b : Bool) → i < length os →
    option_map (λ p. p.index) o ≡ get_or os i None → b ≡ is_some o →
    length (observed_props (take (i + 1) os)) ≡ length (observed_props (take i os)) + cond b 1 0
count_turn os i None b inside there is =
    rw (is, props_more os i None inside (sym there), length-append (observed_props (take i os)) []) refl
count_turn os i (Some p) b inside there is =
    rw (is, props_more os i (Some p.index) inside (sym there), length-append (observed_props (take i os)) (p.index ∷ [])) refl

-- a turn of the loop that lists the observed propositions
pub props_turn : (os : List (Option ℕ)) (i : ℕ) (old new : List Prop) (p : Prop) → i < length os →
    Some p.index ≡ get_or os i None → numbers old ≡ observed_props (take i os) → new ≡ old ++ p ∷ [] →
    numbers new ≡ observed_props (take (i + 1) os)
props_turn os i old new p inside there before now =
    rw (now, map-append (λ q. q.index) old (p ∷ []), before) (sym (props_more os i (Some p.index) inside (sym there)))

pub props_stay : (os : List (Option ℕ)) (i : ℕ) (old : List Prop) → i < length os →
    None ≡ get_or os i None → numbers old ≡ observed_props (take i os) → numbers old ≡ observed_props (take (i + 1) os)
props_stay os i old inside there before = rw (props_more os i None inside (sym there), append-nil (observed_props (take i os))) before

-- the scenario of a row by the program's propositions is the one by the observed ones
pub by_observed : (net : Network) (props : List Prop) (row : ℕ) (s : Scenario) → AreObserved net props →
    s ≡ scenario_of (numbers props) row → s ≡ scenario_of (observed_props net.observes) row
by_observed net props row s observed is = is ∙ ap (λ ps. scenario_of ps row) observed.all

module _ (net : Network) (good : IsNetwork net) where
  one_place : (x y p : ℕ) → get_or net.observes x None ≡ Some p → get_or net.observes y None ≡ Some p → x ≡ y
  one_place x y p e f = good.one_observer x y p (record { what = e }) (record { what = f })

  -- a row's scenario has that row
  pub row_there : (row : ℕ) → row < rows net → row_of (observed_props net.observes) (scenario_of (observed_props net.observes) row) ≡ row
  row_there row h = row_of_scenario (observed_props net.observes) row (props_apart net.observes one_place) h

  -- the scenario of a scenario's row gives observed propositions the same values
  pub values_there : (s : Scenario) (x p : ℕ) → Observes net x p →
      scenario_of (observed_props net.observes) (row_of (observed_props net.observes) s) p ≡ s p
  values_there s x p o =
      let row = row_of (observed_props net.observes) s in
      let there = row_there row (row_below (observed_props net.observes) s) in
      all_observed (λ p. scenario_of (observed_props net.observes) row p ≡ s p) net.observes
      (same_values (observed_props net.observes) s (scenario_of (observed_props net.observes) row) there) x p o.what
