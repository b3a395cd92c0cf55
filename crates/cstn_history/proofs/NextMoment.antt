-- Before the next moment no table that continues a history executes anything that isn't done.
use Rattle.std.proofs.Common.{ℕ, zero, suc, ◌≡◌, inl, inr, ◌<◌, ◌≤◌, Bool, None, arith, sym, subst, ◌∙◌}
use Rattle.std.proofs.lemmas.Bool.{cases_lt}
use Rattle.cstn_label.specs.Labels.{Scenario}
use Rattle.cstn_net.specs.Networks.{count}
use Rattle.cstn_net.specs.Strategies.{Table}
use Rattle.cstn_net.proofs.Knowledge.{observer_within}
use Rattle.cstn_lift.specs.Labelled.{Labelled}
use Rattle.cstn_lift.specs.Strategies.{IsExecuted}
use Rattle.cstn_lift.specs.WellFormed.{IsLabelled}
use Rattle.cstn_history.specs.Histories.{History, IsHistory, AgreesWith}
use Rattle.cstn_history.specs.Continuations.{Continues, Can, IsDoneKnown, IsKnownAfter, IsNamed, IsEventful, IsNext, IsLeastTable, IsQuietBefore, IsAlwaysAt}
use Rattle.cstn_history.specs.Facts.{at_now, with_done, with_told}
use Rattle.cstn_history.proofs.Settled.{some_or_none}
use Rattle.cstn_history.proofs.Followed.{time_passes, outcome_comes, step_is_done}

module _ (m : Labelled) (h : History) (good : IsLabelled m) (t : ℕ) (first : (u : ℕ) → h.now ≤ u → u < t → IsEventful m h u → ⊥) where
  -- no table has anything that isn't done before n
  abbrev NoneBefore : ℕ → Type 0
  NoneBefore n = (table : Table) (s : Scenario) (x : ℕ) → Continues m h table → AgreesWith h s → x < count m.base → h.done x ≡ None →
      IsExecuted m s x → table s x < n → ⊥

  module _ (n : ℕ) (inside : n < t) (before : NoneBefore n) (table : Table) (s : Scenario) (x : ℕ) (goes : Continues m h table) (agrees : AgreesWith h s)
      (here : x < count m.base) (none : h.done x ≡ None) (e : IsExecuted m s x) (at : table s x ≡ n) where
    from_now : h.now ≤ n
    from_now = let low = goes.from_soonest s x agrees here none e in omega arith

    -- what is known at n is what was told, so each scenario agrees on it
    same : (r : Scenario) → AgreesWith h r → (p : ℕ) → IsKnownAfter m h s (table s) (table s x) p → r p ≡ s p
    same r of_r p k = elim (some_or_none (h.told p)) [
      | inl told ↦ of_r p told.0 told.1 ∙ sym (agrees p told.0 told.1)
      | inr untold ↦ absurd (unknown untold k)
    ]
      where
        unknown : h.told p ≡ None → IsKnownAfter m h s (table s) (table s x) p → ⊥
        unknown untold (inl told) = let said = told.1 in cc
        unknown untold (inr (inl d)) = first n from_now inside (inl (p, (untold, subst (λ u. IsDoneKnown m h u p) at d)))
        unknown untold (inr (inr c)) =
            let some = good.base.network.reacts c.observer p c.observes in
            let soon = c.passed in
            before table s c.observer goes agrees (observer_within m.base c.observer p c.observes) c.coming c.executed (omega arith)

    always : (r : Scenario) → AgreesWith h r → IsExecuted m r x × (table r x ≡ n)
    always r of_r =
        let both = goes.dynamic s r x agrees of_r here none e (same r of_r) in
        (both.0, both.1 ∙ at)

    not_there : ⊥
    not_there = first n from_now inside (inr (
      x,
      record {
        here = here;
        coming = none;
        least = λ r of_r.
            let there = always r of_r in
            record {
              coming = none;
              executed = there.0;
              reached = (table, goes, there.1);
              least = λ other plays. elim (cases_lt (other r x) n) [
                | inl less ↦ absurd (before other r x plays of_r here none there.0 less)
                | inr late ↦ late
              ];
            };
      },
    ))

  none_before : (n : ℕ) → n ≤ t → NoneBefore n
  none_before zero upto table s x goes agrees here none e less = omega arith
  none_before (suc n) upto table s x goes agrees here none e less = elim (cases_lt (table s x) n) [
    | inl earlier ↦ none_before n (omega arith) table s x goes agrees here none e earlier
    | inr later ↦ not_there n (omega arith) (none_before n (omega arith)) table s x goes agrees here none e (omega arith)
  ]

  pub quiet_upto : (table : Table) → Continues m h table → IsQuietBefore m h table t
  quiet_upto table goes s x agrees here none e = elim (cases_lt (table s x) t) [
    | inl less ↦ absurd (none_before t (omega arith) table s x goes agrees here none e less)
    | inr late ↦ late
  ]

module _ (m : Labelled) (h : History) (good : IsLabelled m) (t : ℕ) (next : IsNext m h t) where
  pub quiet_before : (table : Table) → Continues m h table → IsQuietBefore m h table t
  quiet_before = quiet_upto m h good t next.first

  -- a table of least moments has what is named at the next moment in each scenario
  pub named_always : (table : Table) (x : ℕ) → Continues m h table → IsLeastTable m h table → IsNamed m h t x → IsAlwaysAt m h table x t
  named_always table x goes least named s agrees =
      let there = named.least s agrees in
      let upto = there.least table goes in
      let downto = (least s x agrees named.here named.coming there.executed).least there.reached.0 there.reached.1 in
      let at = there.reached.2 in
      (there.executed, omega arith)

  pub time_goes_on : (u : ℕ) → u ≤ t → Can m h → Can m (at_now h u)
  time_goes_on u upto c = (
    c.0,
    time_passes m h c.0 c.1 u (λ s x agrees here none e.
        let late = quiet_before c.0 c.1 s x agrees here none e in omega arith),
  )

  pub told_goes_on : (u p : ℕ) (v : Bool) → u ≤ t → h.told p ≡ None → Can m h → Can m (with_told h u p v)
  told_goes_on u p v upto untold c = (
    c.0,
    outcome_comes m h c.0 c.1 u p v untold (λ s x agrees here none e.
        let late = quiet_before c.0 c.1 s x agrees here none e in omega arith),
  )

  pub done_goes_on : IsHistory m h → (table : Table) (x : ℕ) → Continues m h table → IsLeastTable m h table → IsNamed m h t x →
      Continues m (with_done h t x) table
  done_goes_on known table x goes least named = step_is_done m h good known table goes t x named.here named.coming (quiet_before table goes)
      (named_always table x goes least named)
