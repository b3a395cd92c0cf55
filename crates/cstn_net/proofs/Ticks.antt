-- A network that has no strategy on whole ticks, and has one when every value is doubled.
use Rattle.std.proofs.Common.{ℕ, zero, suc, Bool, true, false, ◌≡◌, ◌+◌, ◌<◌, ◌≤◌, Some, None, get_or, inl, inr, arith, refl, sym, subst, ap, ◌∙◌}
use Rattle.std.proofs.Common.{rules}
use Rattle.std.specs.Prelude.{ℤ, pos, negsuc, ◌-ℤ◌, ◌≤ℤ◌}
use Rattle.std.proofs.lemmas.Int.{ints}
use Rattle.std.proofs.lemmas.Bool.{cases_lt}
use Rattle.cstn_label.specs.declared.marks.Mark.{Mark}
use Rattle.cstn_label.specs.declared.marks.Mark.TheVariants.{Absent, Yes, No}
use Rattle.cstn_label.specs.Labels.{Scenario, Holds, MarkFits, IsMarkPlain, IsPlain}
use Rattle.cstn_net.specs.Limits.{most_deadline}
use Rattle.cstn_net.specs.Networks.{Constraint, IsConstraint, IsNetwork, IsOnObserved, IsValue, IsWellFormed}
use Rattle.cstn_net.specs.Strategies.{Schedule, Table, IsTable, IsDynamic, IsStrategy, IsConsistent, Meets}
use Rattle.cstn_net.specs.Examples.{both, split, coarse, fine, fine_q, fine_x, fine_table}

-- P observes p and Q observes q
observer_of : (d : ℕ) (e l : ℤ) (x p : ℕ) → get_or (split d e l).observes x None ≡ Some p → (x ≡ suc p) × (p < 2)
observer_of d e l zero p o = cc
observer_of d e l (suc zero) p o = let same : 0 ≡ p = cc in (ap suc same, omega arith)
observer_of d e l (suc (suc zero)) p o = let same : 1 ≡ p = cc in (ap suc same, omega arith)
observer_of d e l (suc (suc (suc zero))) p o = cc
observer_of d e l (suc (suc (suc (suc x)))) p o = cc

both_plain : (m n : Mark) → IsMarkPlain m → IsMarkPlain n → IsPlain (both m n)
both_plain m n h k zero = h
both_plain m n h k (suc zero) = k
both_plain m n h k (suc (suc p)) = tt

both_observed : (d : ℕ) (e l : ℤ) (m n : Mark) → IsOnObserved (split d e l) (both m n)
both_observed d e l m n zero marked = (1, record { what = refl })
both_observed d e l m n (suc zero) marked = (2, record { what = refl })
both_observed d e l m n (suc (suc p)) marked = absurd (marked refl)

is_constraint : (d : ℕ) (e l : ℤ) (id from to : ℕ) (most : ℤ) (m n : Mark) → from < 4 → to < 4 → IsMarkPlain m → IsMarkPlain n →
    IsConstraint (split d e l) (record { id = id; from = from; to = to; most = most; label = both m n })
is_constraint d e l id from to most m n h k one other =
    record { from = h; to = k; plain = both_plain m n one other; observed = both_observed d e l m n }

are_constraints : (d : ℕ) (e l : ℤ) (k : ℕ) (c : Constraint) → k < 4 → IsConstraint (split d e l) (get_or (split d e l).constraints k c)
are_constraints d e l zero c h = is_constraint d e l 0 0 2 e No Absent (omega arith) (omega arith) tt tt
are_constraints d e l (suc zero) c h = is_constraint d e l 1 2 0 l Yes Absent (omega arith) (omega arith) tt tt
are_constraints d e l (suc (suc zero)) c h = is_constraint d e l 2 0 3 e No No (omega arith) (omega arith) tt tt
are_constraints d e l (suc (suc (suc zero))) c h = is_constraint d e l 3 3 0 l No Yes (omega arith) (omega arith) tt tt
are_constraints d e l (suc (suc (suc (suc k)))) c h = absurd (omega arith)

are_values : (d : ℕ) (e l : ℤ) → IsValue e → IsValue l → (k : ℕ) (c : Constraint) → k < 4 →
    IsValue (get_or (split d e l).constraints k c).most
are_values d e l one other zero c h = one
are_values d e l one other (suc zero) c h = other
are_values d e l one other (suc (suc zero)) c h = one
are_values d e l one other (suc (suc (suc zero))) c h = other
are_values d e l one other (suc (suc (suc (suc k)))) c h = absurd (omega arith)

is_network : (d : ℕ) (e l : ℤ) → IsNetwork (split d e l)
is_network d e l = record {
  origin = omega arith;
  one_observer = λ x y p o q. (observer_of d e l x p o.what).0 ∙ sym (observer_of d e l y p q.what).0;
  reacts = λ x p o. omega arith;
  constraints = are_constraints d e l;
}

is_well_formed : (d : ℕ) (e l : ℤ) → d ≤ most_deadline → IsValue e → IsValue l → IsWellFormed (split d e l)
is_well_formed d e l small one other = record {
  network = is_network d e l;
  few_points = omega arith;
  letters = λ x p o. let below = (observer_of d e l x p o.what).1 in omega arith;
  soon = λ x p o. omega arith;
  few_constraints = omega arith;
  ascending = search rules;
  values = are_values d e l one other;
  in_time = small;
}

pub coarse_well_formed : IsWellFormed coarse
coarse_well_formed = is_well_formed 3 (pos 1) (negsuc 1) (omega arith) (search rules) (search rules)

pub fine_well_formed : IsWellFormed fine
fine_well_formed = is_well_formed 6 (pos 2) (negsuc 3) (omega arith) (search rules) (search rules)

-- the scenario in which the propositions 0 and 1 have these values, and no other is true
values : Bool → Bool → Scenario
values p q zero = p
values p q (suc zero) = q
values p q (suc (suc r)) = false

both_hold : (s : Scenario) (m n : Mark) → MarkFits (s 0) m → MarkFits (s 1) n → Holds s (both m n)
both_hold s m n h k zero = h
both_hold s m n h k (suc zero) = k
both_hold s m n h k (suc (suc p)) = tt

-- where Q is at 1 or later, q isn't known at 1
unknown : (at : Schedule) (x : ℕ) → 1 ≤ at 2 → get_or coarse.observes x None ≡ Some 1 → at x + 1 ≤ 1 → ⊥
unknown at zero waits observes passed = cc
unknown at (suc zero) waits observes passed = cc
unknown at (suc (suc zero)) waits observes passed = omega arith
unknown at (suc (suc (suc zero))) waits observes passed = cc
unknown at (suc (suc (suc (suc x)))) waits observes passed = cc

module _ (table : Table) (h : IsStrategy coarse table) where
  q_late : 2 ≤ table (values true false) 2
  unfolding values
  q_late =
      let met = h.meets (values true false) (record { id = 1; from = 2; to = 0; most = negsuc 1; label = both Yes Absent })
      (1, omega arith, refl) (both_hold (values true false) Yes Absent tt tt) in
      omega (arith, ints)

  x_early : table (values false false) 3 ≤ 1
  unfolding values
  x_early =
      let met = h.meets (values false false) (record { id = 2; from = 0; to = 3; most = pos 1; label = both No No })
      (2, omega arith, refl) (both_hold (values false false) No No tt tt) in
      let origin = h.within (values false false) 0 (omega arith) in
      omega (arith, ints)

  x_late : 2 ≤ table (values false true) 3
  unfolding values
  x_late =
      let met = h.meets (values false true) (record { id = 3; from = 3; to = 0; most = negsuc 1; label = both No Yes })
      (3, omega arith, refl) (both_hold (values false true) No Yes tt tt) in
      omega (arith, ints)

  -- Q waits for p, which isn't known at 0
  q_waits : 1 ≤ table (values false false) 2
  q_waits = elim (cases_lt (table (values false false) 2) 1) [
    | inl soon ↦
        let same = h.dynamic (values false false) (values true false) 2 (omega arith)
        (λ p known. let passed = known.passed in absurd (omega arith)) in
        let late = q_late in
        absurd (omega arith)
    | inr waits ↦ waits
  ]

  same_values : (p x : ℕ) → get_or coarse.observes x None ≡ Some p → table (values false false) x + 1 ≤ 1 →
      values false true p ≡ values false false p
  unfolding values
  same_values zero x observes passed = refl
  same_values (suc zero) x observes passed = absurd (unknown (table (values false false)) x q_waits observes passed)
  same_values (suc (suc p)) x observes passed = refl

  -- q isn't known at the moment of X, so X can't be early where q is false and late where q is true
  pub coarse_refuted : ⊥
  coarse_refuted =
      let early = x_early in
      let late = x_late in
      let same = h.dynamic (values false false) (values false true) 3 (omega arith)
      (λ p known. let passed = known.passed in same_values p known.observer known.observes.what (omega arith)) in
      omega arith

pub no_coarse_strategy : IsConsistent coarse → ⊥
no_coarse_strategy c = coarse_refuted c.0 c.1

q_in_time : (p : Bool) → fine_q p ≤ 6
q_in_time true = omega arith
q_in_time false = omega arith

x_in_time : (p q : Bool) → fine_x p q ≤ 6
x_in_time true q = omega arith
x_in_time false true = omega arith
x_in_time false false = omega arith

within : IsTable fine fine_table
within s zero h = omega arith
within s (suc zero) h = omega arith
within s (suc (suc zero)) h = q_in_time (s 0)
within s (suc (suc (suc x))) h = x_in_time (s 0) (s 1)

q_after_p : (p : Bool) → 0 + 1 ≤ fine_q p
q_after_p true = omega arith
q_after_p false = omega arith

x_after_p : (p q : Bool) → 0 + 1 ≤ fine_x p q
x_after_p true q = omega arith
x_after_p false true = omega arith
x_after_p false false = omega arith

-- X is at the same moment in scenarios with the same p and, where q is known by then, the same q
x_same : (p q r : Bool) → (fine_q p + 1 ≤ fine_x p q → r ≡ q) → fine_x p r ≡ fine_x p q
x_same true q r told = refl
x_same false true r told = ap (fine_x false) (told (omega arith))
x_same false false r told = ap (fine_x false) (told (omega arith))

dynamic : IsDynamic fine fine_table
dynamic s r zero h agrees = refl
dynamic s r (suc zero) h agrees = refl
dynamic s r (suc (suc zero)) h agrees =
    ap fine_q (agrees 0 (record { observer = 1; observes = record { what = refl }; passed = q_after_p (s 0) }))
dynamic s r (suc (suc (suc x))) h agrees =
    let same_p : r 0 ≡ s 0 = agrees 0 (record { observer = 1; observes = record { what = refl }; passed = x_after_p (s 0) (s 1) }) in
    ap (λ p. fine_x p (r 1)) same_p ∙
    x_same (s 0) (s 1) (r 1) (λ passed. agrees 1 (record { observer = 2; observes = record { what = refl }; passed = passed }))

q_early : (p : Bool) → MarkFits p No → (pos (fine_q p) -ℤ pos 0) ≤ℤ pos 2
q_early true h = absurd h
q_early false h = omega (arith, ints)

q_late_enough : (p : Bool) → MarkFits p Yes → (pos 0 -ℤ pos (fine_q p)) ≤ℤ negsuc 3
q_late_enough true h = omega (arith, ints)
q_late_enough false h = absurd h

x_early_enough : (p q : Bool) → MarkFits p No → MarkFits q No → (pos (fine_x p q) -ℤ pos 0) ≤ℤ pos 2
x_early_enough true q h k = absurd h
x_early_enough false true h k = absurd k
x_early_enough false false h k = omega (arith, ints)

x_late_enough : (p q : Bool) → MarkFits p No → MarkFits q Yes → (pos 0 -ℤ pos (fine_x p q)) ≤ℤ negsuc 3
x_late_enough true q h k = absurd h
x_late_enough false true h k = omega (arith, ints)
x_late_enough false false h k = absurd k

meets : (s : Scenario) (c : Constraint) (k : ℕ) → k < 4 → get_or fine.constraints k c ≡ c → Holds s c.label →
    Meets (fine_table s) c
meets s c zero h e holds =
    subst (λ c. Holds s c.label → Meets (fine_table s) c) e (λ there. q_early (s 0) (there 0)) holds
meets s c (suc zero) h e holds =
    subst (λ c. Holds s c.label → Meets (fine_table s) c) e (λ there. q_late_enough (s 0) (there 0)) holds
meets s c (suc (suc zero)) h e holds =
    subst (λ c. Holds s c.label → Meets (fine_table s) c) e (λ there. x_early_enough (s 0) (s 1) (there 0) (there 1)) holds
meets s c (suc (suc (suc zero))) h e holds =
    subst (λ c. Holds s c.label → Meets (fine_table s) c) e (λ there. x_late_enough (s 0) (s 1) (there 0) (there 1)) holds
meets s c (suc (suc (suc (suc k)))) h e holds = absurd (omega arith)

pub fine_is_strategy : IsStrategy fine fine_table
fine_is_strategy = record {
  within = within;
  dynamic = dynamic;
  meets = λ s c has holds. meets s c has.0 has.1 has.2 holds;
}
