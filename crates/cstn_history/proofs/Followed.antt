-- Whoever follows a table that continues a history stays on it.
use Rattle.std.proofs.Common.{ℕ, ◌≡◌, inl, inr, ◌+◌, ◌<◌, ◌≤◌, Bool, Some, None, arith, refl, sym, subst, ap, ◌∙◌}
use Rattle.std.specs.Prelude.{max}
use Rattle.std.proofs.lemmas.Bool.{cases_eq}
use Rattle.cstn_label.specs.Labels.{Scenario}
use Rattle.cstn_net.specs.Networks.{Observes, count, limit}
use Rattle.cstn_net.specs.Strategies.{Table}
use Rattle.cstn_lift.specs.Labelled.{Labelled}
use Rattle.cstn_lift.specs.WellFormed.{IsLabelled}
use Rattle.cstn_history.specs.Histories.{History, IsHistory, AgreesWith, or_at}
use Rattle.cstn_history.specs.Continuations.{Continues, IsKnownAfter, IsQuietBefore, IsAlwaysAt}
use Rattle.cstn_history.specs.Facts.{at_now, with_done, with_told}
use Rattle.cstn_history.proofs.Recorded.{put_there, put_other, put_from, put_kept}
use Rattle.cstn_history.proofs.Settled.{some_or_none}
use Rattle.cstn_history.proofs.Narrows.{told_continues}

module _ (m : Labelled) (h : History) (table : Table) (goes : Continues m h table) (t : ℕ) (quiet : IsQuietBefore m h table t) where
  -- what is known doesn't rest on what time it is
  known_then : (s : Scenario) (u p : ℕ) → IsKnownAfter m h s (table s) u p → IsKnownAfter m (at_now h t) s (table s) u p
  known_then s u p (inl told) = inl told
  known_then s u p (inr (inl d)) = inr (inl (record {
    since = d.since;
    observed = record { observer = d.observed.observer; observes = d.observed.observes; done = d.observed.done };
    passed = d.passed;
  }))
  known_then s u p (inr (inr c)) = inr (inr (record { observer = c.observer; observes = c.observes; coming = c.coming; executed = c.executed; passed = c.passed }))

  pub time_passes : Continues m (at_now h t) table
  time_passes = record {
    done = goes.done;
    in_time = goes.in_time;
    from_soonest = λ s x agrees here none e.
        let from = goes.from_soonest s x agrees here none e in
        let late = quiet s x agrees here none e in
        omega arith;
    within = goes.within;
    meets = goes.meets;
    dynamic = λ s r x of_s of_r here none e agrees. goes.dynamic s r x of_s of_r here none e (λ p k. agrees p (known_then s (table s x) p k));
  }

module _ (m : Labelled) (h : History) (table : Table) (goes : Continues m h table) (t p : ℕ) (v : Bool) (untold : h.told p ≡ None) (quiet : IsQuietBefore m h table t) where
  quiet_later : IsQuietBefore m h table (max h.now t)
  quiet_later s x agrees here none e =
      let a = goes.from_soonest s x agrees here none e in
      let b = quiet s x agrees here none e in
      omega arith

  pub outcome_comes : Continues m (with_told h t p v) table
  outcome_comes = told_continues m (at_now h (max h.now t)) (with_told h t p v) (record {
    now = refl;
    done = λ x. refl;
    told = λ q w is. put_kept h.told p v q w untold is;
    expected = λ q. refl;
    ready = λ x. refl;
  }) table (time_passes m h table goes (max h.now t) quiet_later)

module _ (m : Labelled) (h : History) (good : IsLabelled m) (known : IsHistory m h) (table : Table) (goes : Continues m h table) (t x : ℕ)
    (here : x < count m.base) (undone : h.done x ≡ None) (quiet : IsQuietBefore m h table t) (always : IsAlwaysAt m h table x t) where
  abbrev after : History
  after = with_done h t x

  -- nothing is expected of the observer x, since it wasn't done
  expects : (p : ℕ) → Observes m.base x p → h.expected p ≡ None
  expects p o = elim (some_or_none (h.expected p)) [
    | inr nothing ↦ nothing
    | inl some ↦
        let seen = (known.expected p some.0 some.1).2 in
        let one = good.base.network.one_observer seen.observer x p seen.observes o in
        let done = subst (λ y. h.done y ≡ Some (known.expected p some.0 some.1).0) one seen.done in
        absurd (cc)
  ]

  was : (y : ℕ) → after.done y ≡ None → h.done y ≡ None
  was y none = elim (cases_eq y x) [
    | inl same ↦ let at = put_there h.done x t y same in absurd (cc)
    | inr other ↦ sym (put_other h.done x t y other) ∙ none
  ]

  known_too : (s : Scenario) (u p : ℕ) → AgreesWith h s → IsKnownAfter m h s (table s) u p → IsKnownAfter m after s (table s) u p
  known_too s u p agrees (inl told) = inl told
  known_too s u p agrees (inr (inl d)) = inr (inl (record {
    since = d.since;
    observed = record {
      observer = d.observed.observer;
      observes = d.observed.observes;
      done = put_kept h.done x t d.observed.observer d.since undone d.observed.done;
    };
    passed = d.passed;
  }))
  known_too s u p agrees (inr (inr c)) = elim (cases_eq c.observer x) [
    | inl same ↦
        let o = subst (λ y. Observes m.base y p) same c.observes in
        let at = (always s agrees).1 in
        let stands = ap (table s) same in
        let soon = c.passed in
        let passed : t + m.base.reaction p ≤ u = omega arith in
        inr (inl (record {
          since = t;
          observed = record { observer = x; observes = o; done = put_there h.done x t x refl };
          passed = subst (λ e. or_at e (t + m.base.reaction p) ≤ u) (sym (expects p o)) passed;
        }))
    | inr other ↦ inr (inr (record {
      observer = c.observer;
      observes = c.observes;
      coming = put_other h.done x t c.observer other ∙ c.coming;
      executed = c.executed;
      passed = c.passed;
    }))
  ]

  pub step_is_done : Continues m (with_done h t x) table
  step_is_done = record {
    done = λ s y u agrees is. elim (put_from h.done x t y u is) [
      | inl new ↦ ap (table s) new.0 ∙ (always s agrees).1 ∙ new.1
      | inr old ↦ goes.done s y u agrees old
    ];
    in_time = λ s y u agrees is. elim (put_from h.done x t y u is) [
      | inl new ↦
          let at = always s agrees in
          let upto = goes.within s x agrees here undone at.0 in
          let moment = at.1 in
          let same = new.1 in
          subst (λ z. u ≤ limit m.base z) (sym new.0) (omega arith)
      | inr old ↦ goes.in_time s y u agrees old
    ];
    from_soonest = λ s y agrees inside none e.
        let a = goes.from_soonest s y agrees inside (was y none) e in
        let b = quiet s y agrees inside (was y none) e in
        omega arith;
    within = λ s y agrees inside none e. goes.within s y agrees inside (was y none) e;
    meets = goes.meets;
    dynamic = λ s r y of_s of_r inside none e agrees. goes.dynamic s r y of_s of_r inside (was y none) e
        (λ p k. agrees p (known_too s (table s y) p of_s k));
  }
