-- Time, steps and later readiness only narrow how a history may go on, and what is told only leaves cases out.
use Rattle.std.proofs.Common.{ℕ, ◌≡◌, inl, inr, ◌+◌, ◌<◌, ◌≤◌, Option, Some, None, arith, sym, subst, ap, ◌∙◌}
use Rattle.cstn_label.specs.Labels.{Scenario}
use Rattle.cstn_net.specs.Networks.{Observes, count, limit}
use Rattle.cstn_net.specs.Strategies.{Table}
use Rattle.cstn_lift.specs.Labelled.{Labelled}
use Rattle.cstn_lift.specs.Completion.{completed_label}
use Rattle.cstn_lift.specs.WellFormed.{IsLabelled}
use Rattle.cstn_lift.specs.Strategies.{IsExecuted}
use Rattle.cstn_history.specs.Histories.{History, IsHistory, AgreesWith, soonest, GoesOn, IsToldMore, known_at, or_at}
use Rattle.cstn_history.specs.Continuations.{Continues, IsKnownAfter}
use Rattle.cstn_history.proofs.Settled.{some_or_none, settles_holds}

module _ (m : Labelled) (h later : History) (good : IsLabelled m) (before : IsHistory m h) (after : IsHistory m later) (on : GoesOn h later)
    (table : Table) (goes : Continues m later table) where
  agrees_later : (s : Scenario) → AgreesWith h s → AgreesWith later s
  agrees_later s agrees p v e = agrees p v (sym (on.told p) ∙ e)

  -- what wasn't done before and is now stands at a moment at which it could be done before
  moment : (s : Scenario) (x : ℕ) → AgreesWith h s → x < count m.base → h.done x ≡ None → IsExecuted m s x →
      (soonest h x ≤ table s x) × (table s x ≤ limit m.base x)
  moment s x agrees here none e = elim (some_or_none (later.done x)) [
    | inl done ↦
        let at = goes.done s x done.0 (agrees_later s agrees) done.1 in
        let from = on.more x done.0 none done.1 in
        let upto = goes.in_time s x done.0 (agrees_later s agrees) done.1 in
        (omega arith, omega arith)
    | inr coming ↦
        let from = goes.from_soonest s x (agrees_later s agrees) here coming e in
        let low = on.now in
        let ready = on.ready x coming in
        (omega arith, goes.within s x (agrees_later s agrees) here coming e)
  ]

  -- nothing is expected of an observer that wasn't done before
  expects_none : (j p : ℕ) → Observes m.base j p → h.done j ≡ None → h.expected p ≡ None
  expects_none j p o none = elim (some_or_none (h.expected p)) [
    | inr nothing ↦ nothing
    | inl some ↦
        let seen = (before.expected p some.0 some.1).2 in
        let one = good.base.network.one_observer seen.observer j p seen.observes o in
        let done = subst (λ y. h.done y ≡ Some (before.expected p some.0 some.1).0) one seen.done in
        absurd (cc)
  ]

  -- what is known after the later history is known after the earlier one
  known_before : (s : Scenario) (u p : ℕ) → AgreesWith h s → IsKnownAfter m later s (table s) u p → IsKnownAfter m h s (table s) u p
  known_before s u p agrees (inl told) = inl (told.0, sym (on.told p) ∙ told.1)
  known_before s u p agrees (inr (inr c)) = elim (some_or_none (h.done c.observer)) [
    | inl done ↦ let kept = on.kept c.observer done.0 done.1 in let gone = c.coming in absurd (cc)
    | inr none ↦ inr (inr (record { observer = c.observer; observes = c.observes; coming = none; executed = c.executed; passed = c.passed }))
  ]
  known_before s u p agrees (inr (inl d)) = elim (some_or_none (h.done d.observed.observer)) [
    | inl done ↦
        let kept = on.kept d.observed.observer done.0 done.1 in
        let there = d.observed.done in
        let same : done.0 ≡ d.since = cc in
        let passed : known_at m later p d.since ≤ u = d.passed in
        let was : known_at m h p d.since ≤ u = subst (λ o. or_at o (d.since + m.base.reaction p) ≤ u) (on.expected p) passed in
        inr (inl (record {
          since = d.since;
          observed = record { observer = d.observed.observer; observes = d.observed.observes; done = done.1 ∙ ap Some same };
          passed = was;
        }))
    | inr none ↦
        let j = d.observed.observer in
        let at = goes.done s j d.since (agrees_later s agrees) d.observed.done in
        let passed : known_at m later p d.since ≤ u = d.passed in
        let nothing = on.expected p ∙ expects_none j p d.observed.observes none in
        let soon : d.since + m.base.reaction p ≤ u = subst (λ o. or_at o (d.since + m.base.reaction p) ≤ u) nothing passed in
        inr (inr (record {
          observer = j;
          observes = d.observed.observes;
          coming = none;
          executed = settles_holds later (completed_label m j) s (agrees_later s agrees) (after.settled j d.since d.observed.done);
          passed = omega arith;
        }))
  ]

  dynamic : (s r : Scenario) (x : ℕ) → AgreesWith h s → AgreesWith h r → x < count m.base → h.done x ≡ None → IsExecuted m s x →
      ((p : ℕ) → IsKnownAfter m h s (table s) (table s x) p → r p ≡ s p) → IsExecuted m r x × (table r x ≡ table s x)
  dynamic s r x of_s of_r here none e agrees = elim (some_or_none (later.done x)) [
    | inl done ↦ (
      settles_holds later (completed_label m x) r (agrees_later r of_r) (after.settled x done.0 done.1),
      goes.done r x done.0 (agrees_later r of_r) done.1 ∙ sym (goes.done s x done.0 (agrees_later s of_s) done.1),
    )
    | inr coming ↦ goes.dynamic s r x (agrees_later s of_s) (agrees_later r of_r) here coming e
        (λ p k. agrees p (known_before s (table s x) p of_s k))
  ]

  pub narrower : Continues m h table
  narrower = record {
    done = λ s x t agrees e. goes.done s x t (agrees_later s agrees) (on.kept x t e);
    in_time = λ s x t agrees e. goes.in_time s x t (agrees_later s agrees) (on.kept x t e);
    from_soonest = λ s x agrees here none e. (moment s x agrees here none e).0;
    within = λ s x agrees here none e. (moment s x agrees here none e).1;
    meets = λ s c agrees has force. goes.meets s c (agrees_later s agrees) has force;
    dynamic = dynamic;
  }

module _ (m : Labelled) (h later : History) (on : IsToldMore h later) (table : Table) (goes : Continues m h table) where
  agrees_before : (s : Scenario) → AgreesWith later s → AgreesWith h s
  agrees_before s agrees p v e = agrees p v (on.told p v e)

  was_done : (x : ℕ) (o : Option ℕ) → later.done x ≡ o → h.done x ≡ o
  was_done x o e = sym (on.done x) ∙ e

  -- what was known after the history is known once more is told
  known_still : (s : Scenario) (u p : ℕ) → IsKnownAfter m h s (table s) u p → IsKnownAfter m later s (table s) u p
  known_still s u p (inl told) = inl (told.0, on.told p told.0 told.1)
  known_still s u p (inr (inl d)) =
      let passed : known_at m h p d.since ≤ u = d.passed in
      inr (inl (record {
        since = d.since;
        observed = record { observer = d.observed.observer; observes = d.observed.observes; done = on.done d.observed.observer ∙ d.observed.done };
        passed = subst (λ o. or_at o (d.since + m.base.reaction p) ≤ u) (sym (on.expected p)) passed;
      }))
  known_still s u p (inr (inr c)) = inr (inr (record {
    observer = c.observer;
    observes = c.observes;
    coming = on.done c.observer ∙ c.coming;
    executed = c.executed;
    passed = c.passed;
  }))

  pub told_continues : Continues m later table
  told_continues = record {
    done = λ s x t agrees e. goes.done s x t (agrees_before s agrees) (was_done x (Some t) e);
    in_time = λ s x t agrees e. goes.in_time s x t (agrees_before s agrees) (was_done x (Some t) e);
    from_soonest = λ s x agrees here none e.
        let from = goes.from_soonest s x (agrees_before s agrees) here (was_done x None none) e in
        let now = on.now in
        let ready = on.ready x in
        omega arith;
    within = λ s x agrees here none e. goes.within s x (agrees_before s agrees) here (was_done x None none) e;
    meets = λ s c agrees has force. goes.meets s c (agrees_before s agrees) has force;
    dynamic = λ s r x of_s of_r here none e agrees. goes.dynamic s r x (agrees_before s of_s) (agrees_before r of_r) here (was_done x None none) e
        (λ p k. agrees p (known_still s (table s x) p k));
  }
