-- The branch network with P at 3 or later has no strategy.
use Rattle.std.proofs.Common.{ℕ, zero, suc, true, false, ◌≡◌, ◌+◌, ◌≤◌, Some, None, get_or, arith, refl}
use Rattle.std.proofs.lemmas.Int.{ints}
use Rattle.cstn_label.specs.declared.marks.Mark.{Mark}
use Rattle.cstn_label.specs.declared.marks.Mark.TheVariants.{Yes, No}
use Rattle.cstn_label.specs.Labels.{Scenario, Holds, MarkFits}
use Rattle.cstn_net.specs.Strategies.{Schedule, Table, IsStrategy, IsConsistent}
use Rattle.cstn_net.specs.Examples.{branch_late, only_mark, ten_if_true, three_if_false, observed_late}

only_holds : (s : Scenario) (m : Mark) → MarkFits (s 0) m → Holds s (only_mark m)
only_holds s m h zero = h
only_holds s m h (suc p) = tt

-- where X is at 3 or earlier and P is at 3 or later, nothing is known at the moment of X
unknown : (at : Schedule) (x p : ℕ) → at 2 ≤ 3 → 3 ≤ at 1 → get_or branch_late.observes x None ≡ Some p → at x + 1 ≤ at 2 → ⊥
unknown at zero p early waits observes passed = cc
unknown at (suc zero) p early waits observes passed = omega arith
unknown at (suc (suc zero)) p early waits observes passed = cc
unknown at (suc (suc (suc x))) p early waits observes passed = cc

module _ (table : Table) (h : IsStrategy branch_late table) where
  early : table (λ p. false) 2 ≤ 3
  early =
      let met = h.meets (λ p. false) three_if_false (1, omega arith, refl) (only_holds (λ p. false) No tt) in
      let origin = h.within (λ p. false) 0 (omega arith) in
      omega (arith, ints)

  waits : 3 ≤ table (λ p. false) 1
  waits =
      let met = h.meets (λ p. false) observed_late (2, omega arith, refl) (λ p. tt) in
      omega (arith, ints)

  -- X is at the same moment where p is true as where p is false, since p isn't known by then
  same : table (λ p. true) 2 ≡ table (λ p. false) 2
  same = h.dynamic (λ p. false) (λ p. true) 2 (omega arith) (λ p known.
      absurd (unknown (table (λ p. false)) known.observer p early waits known.observes.what known.passed))

  pub late_refuted : ⊥
  late_refuted =
      let met = h.meets (λ p. true) ten_if_true (0, omega arith, refl) (only_holds (λ p. true) Yes tt) in
      let at_three = early in
      let there = same in
      omega (arith, ints)

pub no_strategy : IsConsistent branch_late → ⊥
no_strategy c = late_refuted c.0 c.1
