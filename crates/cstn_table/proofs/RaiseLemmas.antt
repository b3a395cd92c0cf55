-- What forces a moment up, and what a raise keeps.
use Rattle.std.proofs.Common.{ℕ, zero, suc, ◌≡◌, inl, inr, ◌+◌, ◌*◌, ◌/◌, ◌%◌, ◌<◌, ◌≤◌, List, length, get_or, set, arith, sym, subst, ◌∙◌, ap}
use Rattle.std.specs.Prelude.{pos, ◌-ℤ◌, ◌≤ℤ◌}
use Rattle.std.specs.List.{Contains}
use Rattle.std.proofs.lemmas.Bool.{cases_eq, cases_lt}
use Rattle.std.proofs.lemmas.Int.{ints}
use Rattle.std.proofs.lemmas.Nat.{mul-add-lt, div-mul-add, mod-mul-add}
use Rattle.std.proofs.lemmas.List.{length-set, get_or-set_same, get_or-set_other}
use Rattle.cstn_label.specs.Labels.{Scenario, Holds}
use Rattle.cstn_net.specs.Limits.{most_deadline}
use Rattle.cstn_net.specs.Networks.{Network, IsNetwork, IsWellFormed, Constraint, Observes, count, limit}
use Rattle.cstn_net.specs.Strategies.{Table, Agrees, IsConsistent, IsDynamic}
use Rattle.cstn_table.specs.Tables.{observed_props, row_of, scenario_of, row_at}
use Rattle.cstn_table.specs.Raises.{IsForced, IsLow, rows}
use Rattle.cstn_table.proofs.RowLemmas.{row_there, values_there}

-- in a dynamic table, scenarios that agree on the observed propositions have the same moments
abbrev pub IsUnseen : Network → Type 0
IsUnseen net = (table : Table) (s r : Scenario) (x : ℕ) → IsDynamic net table → x < count net →
    ((y p : ℕ) → Observes net y p → r p ≡ s p) → table r x ≡ table s x

-- the place of a time-point's moment in a row is inside the list of moments
pub place_inside : (net : Network) (moments : List ℕ) (row x : ℕ) → IsLow net moments → row < rows net → x < count net →
    row * count net + x < length moments
place_inside net moments row x low r h =
    let there : row * count net + x < count net * rows net = mul-add-lt row (count net) x (rows net) r h in
    let sized = low.sized in
    omega arith

-- what holds of the new moment at its place, and of the old moments at all others, holds of each moment after the raise
moved : (P : ℕ → Type 0) (n : ℕ) (moments : List ℕ) (row x i y t : ℕ) → x < n → y < n → row * n + x < length moments →
    (i ≡ row → y ≡ x → P t) → P (get_or moments (i * n + y) 0) → P (get_or (set moments (row * n + x) t) (i * n + y) 0)
moved P n moments row x i y t x_in y_in inside here there = elim (cases_eq (i * n + y) (row * n + x)) [
  | inl same ↦
      let i_row : i ≡ row = sym (div-mul-add i n y y_in) ∙ ap (λ k. k / n) same ∙ div-mul-add row n x x_in in
      let y_x : y ≡ x = sym (mod-mul-add i n y y_in) ∙ ap (λ k. k % n) same ∙ mod-mul-add row n x x_in in
      subst P (sym (ap (λ k. get_or (set moments (row * n + x) t) k 0) same ∙ get_or-set_same moments (row * n + x) t 0 inside)) (here i_row y_x)
  | inr other ↦ subst P (sym (get_or-set_other moments (row * n + x) (i * n + y) t 0 other)) there
]

module _ (net : Network) (good : IsNetwork net) (moments : List ℕ) (low : IsLow net moments) where
  -- what is forced in the scenario of s's row is forced in s
  pub forced_alike : IsUnseen net → (s : Scenario) (x t : ℕ) → x < count net →
      IsForced net (scenario_of (observed_props net.observes) (row_of (observed_props net.observes) s)) x t → IsForced net s x t
  forced_alike unseen s x t here forced table strategy =
      let least = forced table strategy in
      let alike = unseen table s (scenario_of (observed_props net.observes) (row_of (observed_props net.observes) s)) x
      strategy.dynamic here (λ y p o. values_there net good s y p o) in
      omega arith

  -- the moments of a row are below those of every strategy in its scenario
  pub row_forced : (row x : ℕ) → row < rows net → x < count net →
      IsForced net (scenario_of (observed_props net.observes) row) x (row_at (count net) moments row x)
  row_forced row x r here table strategy =
      let least = low.below (scenario_of (observed_props net.observes) row) x here table strategy in
      subst (λ i. row_at (count net) moments i x ≤ table (scenario_of (observed_props net.observes) row) x) (row_there net good row r) least

  -- the moments of a row are within the limits
  pub row_within : (row x : ℕ) → row < rows net → x < count net → row_at (count net) moments row x ≤ limit net x
  row_within row x r here =
      subst (λ i. row_at (count net) moments i x ≤ limit net x) (row_there net good row r)
      (low.within (scenario_of (observed_props net.observes) row) x here)

  -- moments that are low stay so after a raise to a forced moment within its limit
  pub raised_low : IsUnseen net → (row x t : ℕ) → row < rows net → x < count net →
      IsForced net (scenario_of (observed_props net.observes) row) x t → t ≤ limit net x →
      IsLow net (set moments (row * count net + x) t)
  raised_low unseen row x t r here forced upto =
      let inside = place_inside net moments row x low r here in
      record {
        few = low.few;
        sized = length-set moments (row * count net + x) t ∙ low.sized;
        within = λ s y y_in. moved (λ u. u ≤ limit net y) (count net) moments row x (row_of (observed_props net.observes) s) y t here y_in inside
            (λ i_row y_x. subst (λ z. t ≤ limit net z) (sym y_x) upto) (low.within s y y_in);
        below = λ s y y_in. moved (λ u. IsForced net s y u) (count net) moments row x (row_of (observed_props net.observes) s) y t here y_in inside
            (λ i_row y_x. subst (λ z. IsForced net s z t) (sym y_x) (forced_alike unseen s x t here
            (subst (λ i. IsForced net (scenario_of (observed_props net.observes) i) x t) (sym i_row) forced)))
            (low.below s y y_in);
      }

  -- a constraint whose label holds in a row's scenario forces its start to the earliest moment that meets it
  pub forced_start : (c : Constraint) → Contains net.constraints c → c.to < count net → (row : ℕ) → row < rows net →
      Holds (scenario_of (observed_props net.observes) row) c.label → (t : ℕ) →
      ((u : ℕ) → (pos (row_at (count net) moments row c.to) -ℤ pos u) ≤ℤ c.most → t ≤ u) →
      IsForced net (scenario_of (observed_props net.observes) row) c.from t
  forced_start c has to_in row r holds t least table strategy =
      let met = strategy.meets (scenario_of (observed_props net.observes) row) c has holds in
      let below = row_forced row c.to r to_in table strategy in
      least (table (scenario_of (observed_props net.observes) row) c.from) (omega (arith, ints))

  -- what is forced in the scenario r is forced in the scenario of a row that isn't told apart from r before that moment
  pub forced_by_pair : ((x p : ℕ) → Observes net x p → x < count net) → (r : Scenario) (row x t : ℕ) → row < rows net → x < count net →
      ((u : ℕ) → u < t → Agrees net (row_at (count net) moments row) u (scenario_of (observed_props net.observes) row) r) →
      IsForced net r x t → IsForced net (scenario_of (observed_props net.observes) row) x t
  forced_by_pair within r row x t h here agrees forced table strategy =
      let own = scenario_of (observed_props net.observes) row in
      let later = forced table strategy in
      elim (cases_lt (table own x) t) [
        | inl early ↦
            let same = strategy.dynamic own r x here (λ p k.
            let below = row_forced row k.observer h (within k.observer p k.observes) table strategy in
            let passed = k.passed in
            agrees (table own x) early p (record { observer = k.observer; observes = k.observes; passed = omega arith })) in
            omega arith
        | inr late ↦ late
      ]

-- the moments of a row are at most 1,000,000
pub row_small : (net : Network) → IsWellFormed net → (moments : List ℕ) → IsLow net moments → (row x : ℕ) → row < rows net →
    x < count net → row_at (count net) moments row x ≤ most_deadline
row_small net good moments low row zero r here = let within = row_within net good.network moments low row zero r here in omega arith
row_small net good moments low row (suc x) r here =
    let within = row_within net good.network moments low row (suc x) r here in
    let soon = good.in_time in
    omega arith

-- where a moment past the limit of x is forced, there is no strategy
pub past_limit : (net : Network) (s : Scenario) (x t : ℕ) → x < count net → limit net x < t → IsForced net s x t → IsConsistent net → ⊥
past_limit net s x t here past forced consistent =
    let later = forced consistent.0 consistent.1 in
    let within = consistent.1.within s x here in
    omega arith
