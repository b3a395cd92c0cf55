-- In a dynamic table in which what the completed label of an executed time-point marks is known at its moment, each time-point
-- whose completed label isn't ruled out at its moment is executed.
use Rattle.std.proofs.Common.{ℕ, inl, inr, ◌+◌, ◌<◌, ◌≤◌, arith, subst}
use Rattle.cstn_label.specs.Labels.{Scenario, MarkFits, IsMarked, IsPossible}
use Rattle.cstn_label.proofs.MarkLemmas.{absent_or_not, fits_absent}
use Rattle.cstn_net.specs.Networks.{Observes, count}
use Rattle.cstn_net.specs.Strategies.{Table, IsKnown, IsDynamic}
use Rattle.cstn_net.proofs.Knowledge.{observer_within, flipped}
use Rattle.cstn_net.proofs.Dynamic.{same_past}
use Rattle.cstn_lift.specs.Labelled.{Labelled}
use Rattle.cstn_lift.specs.Completion.{completed_label}
use Rattle.cstn_lift.specs.WellFormed.{IsLabelled}
use Rattle.cstn_lift.specs.Strategies.{IsExecuted}
use Rattle.cstn_lift.proofs.FullLemmas.{full_plain, full_on}

-- what the completed label of an executed time-point marks is known at its moment
abbrev pub IsGuarded : Labelled → Table → Type 0
IsGuarded m table = (s : Scenario) (x j p : ℕ) → x < count m.base → IsExecuted m s x → IsMarked (completed_label m x) p →
    Observes m.base j p → table s j + m.base.reaction p ≤ table s x

module _ (m : Labelled) (good : IsLabelled m) (table : Table) (dynamic : IsDynamic m.base table) (guarded : IsGuarded m table) where
  -- where the completed label of x isn't ruled out at its moment, each proposition that it marks is known then, and fits it
  pub marks_seen : (s : Scenario) (x : ℕ) → x < count m.base → IsPossible (IsKnown m.base (table s) (table s x)) s (completed_label m x) →
      (j p : ℕ) → Observes m.base j p → IsMarked (completed_label m x) p →
      (table s j + m.base.reaction p ≤ table s x) × MarkFits (s p) (completed_label m x p)
  marks_seen s x here possible j p o marked =
      let net = m.base in
      let true_there = flipped net (table s) (table s x) s (completed_label m x) (full_plain m good x) possible in
      let r = true_there.0 in
      let agrees = true_there.1 in
      let same = dynamic s r x here agrees in
      let soon = guarded r x j p here true_there.2 marked o in
      let at = same_past net table good.base.network dynamic s r (table s x) j (observer_within net j p o) agrees (inr (omega arith)) in
      let passed : table s j + net.reaction p ≤ table s x = omega arith in
      (passed, subst (λ v. MarkFits v (completed_label m x p)) (agrees p (record { observer = j; observes = o; passed = passed })) (true_there.2 p))

  pub possible_executed : (s : Scenario) (x : ℕ) → x < count m.base →
      IsPossible (IsKnown m.base (table s) (table s x)) s (completed_label m x) → IsExecuted m s x
  possible_executed s x here possible p = elim (absent_or_not (completed_label m x p)) [
    | inl none ↦ fits_absent (s p) (completed_label m x p) none
    | inr marked ↦ let o = full_on m good x p marked in (marks_seen s x here possible o.0 p o.1 marked).1
  ]
