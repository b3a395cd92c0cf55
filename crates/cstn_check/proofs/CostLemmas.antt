-- How many rules the turns of growth try.
use Rattle.std.proofs.Common.{ℕ, zero, suc, ◌≡◌, inl, inr, ◌+◌, ◌-◌, ◌*◌, ◌<◌, ◌≤◌, nat_lt, true, false, cond, arith, subst}
use Rattle.std.proofs.lemmas.Bool.{cases_lt, cond-true, cond-false}
use Rattle.std.proofs.Math.Nat.{mul-suc, suc-mul}
use Rattle.cstn_check.specs.Spent.{most_tries}

-- how many rules turn j tries at most where the list comes to g entries: f on each of the first n entries, and m chains and two
-- waits with each entry on any other
abbrev pub turn_cost : ℕ → ℕ → ℕ → ℕ → ℕ → ℕ
turn_cost m f n g j = cond (nat_lt j n) f (m + 2 * g)

-- how many rules the first j turns try at most
abbrev pub turn_costs : ℕ → ℕ → ℕ → ℕ → ℕ → ℕ
turn_costs m f n g zero = 0
turn_costs m f n g (suc j) = turn_costs m f n g j + turn_cost m f n g j

cost_old : (m f n g j : ℕ) → j < n → turn_cost m f n g j ≡ f
cost_old m f n g j low = let t : nat_lt j n ≡ true = grind arith in cond-true _ _ _ t

cost_new : (m f n g j : ℕ) → n ≤ j → turn_cost m f n g j ≡ m + 2 * g
cost_new m f n g j low = let t : nat_lt j n ≡ false = grind arith in cond-false _ _ _ t

cost_more : (m f n g h j : ℕ) → g ≤ h → turn_cost m f n g j ≤ turn_cost m f n h j
cost_more m f n g h j upto = elim (cases_lt j n) [
  | inl low ↦ omega (arith, cost_old m f n g j low, cost_old m f n h j low)
  | inr above ↦ omega (arith, cost_new m f n g j above, cost_new m f n h j above, upto)
]

pub costs_more : (m f n g h j : ℕ) → g ≤ h → turn_costs m f n g j ≤ turn_costs m f n h j
costs_more m f n g h zero upto = omega arith
costs_more m f n g h (suc j) upto = let rest = costs_more m f n g h j upto in omega (arith, rest, cost_more m f n g h j upto)

-- one more turn adds at most its cost to the tries
pub costs_step : (m f n g h j before now : ℕ) → g ≤ h → j + 1 ≤ h → (j < n → now ≤ before + f) → now ≤ before + (m + 2 * (j + 1)) → (start : ℕ) → before ≤ start + turn_costs m f n g j → now ≤ start + turn_costs m f n h (j + 1)
costs_step m f n g h j before now upto short fresh most start was =
    let next : j + 1 ≡ suc j = omega arith in
    let more = costs_more m f n g h j upto in
    elim (cases_lt j n) [
      | inl low ↦ rw next (omega (arith, fresh low, cost_old m f n h j low, more, was))
      | inr above ↦ rw next (omega (arith, most, cost_new m f n h j above, more, was, short))
    ]

costs_old : (m f n g j : ℕ) → j ≤ n → turn_costs m f n g j ≡ f * j
costs_old m f n g zero low = omega arith
costs_old m f n g (suc j) low =
    let rest = costs_old m f n g j (omega (arith, low)) in
    let times : f * suc j ≡ f * j + f = mul-suc f j in
    omega (arith, rest, times, cost_old m f n g j (omega (arith, low)))

costs_new : (m f n g d : ℕ) → turn_costs m f n g (n + d) ≡ f * n + d * (m + 2 * g)
costs_new m f n g zero =
    let e : n + 0 ≡ n = omega arith in
    let none : 0 * (m + 2 * g) ≡ 0 = omega arith in
    let all = costs_old m f n g n (omega arith) in
    rw e (omega (arith, all, none))
costs_new m f n g (suc d) =
    let e : n + suc d ≡ suc (n + d) = omega arith in
    let rest = costs_new m f n g d in
    let times : suc d * (m + 2 * g) ≡ d * (m + 2 * g) + (m + 2 * g) = suc-mul d (m + 2 * g) in
    rw e (omega (arith, rest, times, cost_new m f n g (n + d) (omega arith)))

costs_grow : (m f n g j k : ℕ) → j ≤ k → turn_costs m f n g j ≤ turn_costs m f n g k
costs_grow m f n g j zero upto = let e : j ≡ 0 = omega (arith, upto) in rw e (omega arith)
costs_grow m f n g j (suc k) upto = elim (cases_lt k j) [
  | inl last ↦ let e : j ≡ suc k = omega (arith, last, upto) in rw e (omega arith)
  | inr before ↦ let rest = costs_grow m f n g j k before in omega (arith, rest)
]

-- all turns of a list of g entries cost at most `most_tries`
pub costs_all : (m f n g j : ℕ) → j ≤ g → n ≤ g → turn_costs m f n g j ≤ most_tries m f n g
costs_all m f n g j upto front =
    let e : n + (g - n) ≡ g = omega (arith, front) in
    let all = costs_new m f n g (g - n) in
    let grow = costs_grow m f n g j g upto in
    let whole : turn_costs m f n g g ≡ f * n + (g - n) * (m + 2 * g) = subst (λ k. turn_costs m f n g k ≡ f * n + (g - n) * (m + 2 * g)) e all in
    omega (arith, grow, whole)
