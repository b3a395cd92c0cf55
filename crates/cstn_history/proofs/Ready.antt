-- That a time-point isn't ready before a moment, and that it can wait until it.
use Rattle.std.proofs.Common.{ℕ, ◌≡◌, inl, inr, ◌<◌, ◌≤◌, None, arith, refl, sym, subst}
use Rattle.std.proofs.lemmas.Bool.{cases_eq, cases_lt}
use Rattle.cstn_label.specs.Labels.{Scenario}
use Rattle.cstn_net.specs.Networks.{count}
use Rattle.cstn_net.specs.Strategies.{Table}
use Rattle.cstn_lift.specs.Labelled.{Labelled}
use Rattle.cstn_lift.specs.Strategies.{IsExecuted}
use Rattle.cstn_history.specs.Histories.{History, AgreesWith}
use Rattle.cstn_history.specs.Continuations.{Continues, Can, CanWait, IsKnownAfter}
use Rattle.cstn_history.specs.Facts.{with_ready}
use Rattle.cstn_history.proofs.Recorded.{ready_there, ready_other}

module _ (m : Labelled) (h : History) (t x : ℕ) where
  abbrev later : History
  later = with_ready h t x

  -- what is known doesn't rest on when a time-point is ready
  known_ready : (s : Scenario) (table : Table) (u p : ℕ) → IsKnownAfter m h s (table s) u p → IsKnownAfter m later s (table s) u p
  known_ready s table u p (inl told) = inl told
  known_ready s table u p (inr (inl d)) = inr (inl (record {
    since = d.since;
    observed = record { observer = d.observed.observer; observes = d.observed.observes; done = d.observed.done };
    passed = d.passed;
  }))
  known_ready s table u p (inr (inr c)) = inr (inr (record {
    observer = c.observer;
    observes = c.observes;
    coming = c.coming;
    executed = c.executed;
    passed = c.passed;
  }))

  known_before : (s : Scenario) (table : Table) (u p : ℕ) → IsKnownAfter m later s (table s) u p → IsKnownAfter m h s (table s) u p
  known_before s table u p (inl told) = inl told
  known_before s table u p (inr (inl d)) = inr (inl (record {
    since = d.since;
    observed = record { observer = d.observed.observer; observes = d.observed.observes; done = d.observed.done };
    passed = d.passed;
  }))
  known_before s table u p (inr (inr c)) = inr (inr (record {
    observer = c.observer;
    observes = c.observes;
    coming = c.coming;
    executed = c.executed;
    passed = c.passed;
  }))

  pub waits_ready : CanWait m h x t → Can m later
  waits_ready (table, goes, waits) = (
    table,
    record {
      done = goes.done;
      in_time = goes.in_time;
      from_soonest = λ s y agrees here none e.
          let from = goes.from_soonest s y agrees here none e in
          elim (cases_eq y x) [
            | inl same ↦
                let at = ready_there h.ready x t y same in
                let late = waits s agrees (subst (IsExecuted m s) same e) in
                let stands = subst (λ z. t ≤ table s z) (sym same) late in
                omega arith
            | inr other ↦ let at = ready_other h.ready x t y other in omega arith
          ];
      within = goes.within;
      meets = goes.meets;
      dynamic = λ s r y of_s of_r here none e agrees. goes.dynamic s r y of_s of_r here none e (λ p k. agrees p (known_ready s table (table s y) p k));
    },
  )

  -- a table that goes on with it, and has the others no earlier than they are ready, goes on
  module _ (here : x < count m.base) (none : h.done x ≡ None) where
    goes_before : (table : Table) → Continues m later table → h.ready x ≤ t → Continues m h table
    goes_before table goes less = record {
      done = goes.done;
      in_time = goes.in_time;
      from_soonest = λ s y agrees inside left e.
          let from = goes.from_soonest s y agrees inside left e in
          elim (cases_eq y x) [
            | inl same ↦
                let at = ready_there h.ready x t y same in
                let was = subst (λ z. h.ready z ≤ t) (sym same) less in
                omega arith
            | inr other ↦ let at = ready_other h.ready x t y other in omega arith
          ];
      within = goes.within;
      meets = goes.meets;
      dynamic = λ s r y of_s of_r inside left e agrees. goes.dynamic s r y of_s of_r inside left e (λ p k. agrees p (known_before s table (table s y) p k));
    }

    pub ready_waits : Can m h → Can m later → CanWait m h x t
    ready_waits can (table, goes) = elim (cases_lt t (h.ready x)) [
      | inl sooner ↦ (can.0, can.1, (λ s agrees e. let from = can.1.from_soonest s x agrees here none e in omega arith))
      | inr less ↦ (
        table,
        goes_before table goes less,
        (λ s agrees e.
            let from = goes.from_soonest s x agrees here none e in
            let at = ready_there h.ready x t x refl in
            omega arith),
      )
    ]
