-- A named time-point is executed in every scenario that agrees with what was handed in, at its least moment there.
use Rattle.std.proofs.Common.{ℕ, zero, suc, ◌≡◌, inl, inr, ◌+◌, ◌<◌, Bool, true, false, List, Some, None, arith, sym, subst, ap, ◌∙◌}
use Rattle.std.specs.Prelude.{if◌then◌else◌}
use Rattle.std.proofs.lemmas.Int.{ints}
use Rattle.std.proofs.lemmas.Bool.{cases_Bool, cond-true, cond-false, both_ways}
use Rattle.cstn_facts.proofs.Options.{cases_option, some_or_none, one_value}
use Rattle.cstn_facts.proofs.Places.{some_within}
use Rattle.cstn_label.specs.Bounds.{Bound}
use Rattle.cstn_label.specs.Labels.{Scenario, IsMarked, MarkFits}
use Rattle.cstn_label.proofs.MarkLemmas.{absent_or_not, fits_absent, mark_fits_within}
use Rattle.cstn_net.specs.Networks.{Network, IsWellFormed, Observes, count}
use Rattle.cstn_net.specs.Strategies.{Table}
use Rattle.cstn_plan.specs.Plans.{IsEarliest}
use Rattle.cstn_lift.specs.Labelled.{Labelled}
use Rattle.cstn_lift.specs.Completion.{completed_label}
use Rattle.cstn_lift.specs.WellFormed.{IsLabelled}
use Rattle.cstn_lift.specs.Lowered.{lowered}
use Rattle.cstn_lift.specs.Strategies.{IsExecuted, IsLabelledLeast, AreTwins}
use Rattle.cstn_lift.proofs.LoweredLemmas.{observer_found}
use Rattle.cstn_lift.proofs.FullLemmas.{label_within, rank, rank_falls}
use Rattle.cstn_lift.proofs.Executed.{observers_executed, twin_right}
use Rattle.cstn_lift.proofs.Equivalent.{mixed, mixed_defaulted, to_labelled, labelled_least}
use Rattle.cstn_lift.proofs.Observed.{one_least}
use Rattle.cstn_lift.proofs.Twins.{twin_least, defaulted_least}
use Rattle.cstn_exec.specs.Runs.{next, executed_at, outcome_of, known}
use Rattle.cstn_exec.specs.Right.{AgreesKnown, IsDone}
use Rattle.cstn_exec.proofs.Knowing.{known_from, known_later}
use Rattle.cstn_exec.specs.Guides.{Guided, was_left_out, named_at, is_among, is_denied}
use Rattle.cstn_exec.specs.Sound.{IsGuided, AgreesHanded, IsOnTime, IsLed}

-- a time-point that was named at t has this moment in the run, and was not left out
pub named_parts : (g : Guided) (x t : ℕ) → named_at g x ≡ Some t → (was_left_out g x ≡ false) × (executed_at g.run x ≡ Some t)
named_parts g x t e = elim (cases_Bool (was_left_out g x)) [
  | inl left ↦ absurd (some_or_none (named_at g x) t e (cond-true (was_left_out g x) None (executed_at g.run x) left))
  | inr kept ↦ (kept, sym (cond-false (was_left_out g x) None (executed_at g.run x) kept) ∙ e)
]

module _ (m : Labelled) (good : IsLabelled m) (wf : IsWellFormed (lowered m)) (g : Guided) (right : IsGuided m g) where
  abbrev net : Network
  net = lowered m

  below : (j p : ℕ) → Observes net j p → Observes m.base j p
  below j p o = record { what = o.what }

  above : (j p : ℕ) → Observes m.base j p → Observes net j p
  above j p o = record { what = o.what }

  -- `is_denied` says of p what `was_left_out` says of its observer j
  pub denied_where : (j p : ℕ) → Observes net j p → is_denied net g p ≡ was_left_out g j
  denied_where j p o = ap (is_among g.left) (observer_found net wf.network j p o)

  -- what was known at the moment of x is still known
  known_now : (x t p : ℕ) (v : Bool) → executed_at g.run x ≡ Some t → known net g.run (t + 1) p ≡ Some v → known net g.run (next g.run) p ≡ Some v
  known_now x t p v done k =
      let early = right.right.early x t done in
      known_later net wf.network g.run (t + 1) (next g.run) p v (omega arith) k

  module _ (s : Scenario) (agrees : AgreesHanded m g s) where
    -- where x was left out but is executed in s, some proposition rules out its completed label; the observer of that
    -- proposition is executed in s as well, and was left out
    left_wrong : (x t : ℕ) → executed_at g.run x ≡ Some t → IsExecuted m s x → was_left_out g x ≡ true →
        (k p : ℕ) × (u : ℕ) × Observes m.base k p × (executed_at g.run k ≡ Some u) × IsMarked (completed_label m x) p × IsExecuted m s k × (was_left_out g k ≡ false → ⊥)
    left_wrong x t done h left =
        let out = right.ruled_out x t done left in
        let from = (known_from net wf.network g.run (t + 1) out.0 out.1 out.2).0 in
        let sees = below from.observer out.0 from.observes in
        let marked : IsMarked (completed_label m x) out.0 = λ none. out.3 (fits_absent out.1 (completed_label m x out.0) none) in (
          from.observer,
          out.0,
          from.moment,
          sees,
          from.executed,
          marked,
          observers_executed m good s x from.observer out.0 h sees marked,
          λ kept.
              let value = agrees out.0 out.1 (denied_where from.observer out.0 from.observes ∙ kept) (known_now x t out.0 out.1 done out.2) in
              out.3 (subst (λ v. MarkFits v (completed_label m x out.0)) value (h out.0)),
        )

    -- a time-point of the run that is executed in s was named: first for observers, by induction on their rank
    observer_named : (n j q t : ℕ) → rank m good j < n → Observes m.base j q → executed_at g.run j ≡ Some t → IsExecuted m s j → was_left_out g j ≡ false
    observer_named zero j q t lt o done h = absurd (omega arith)
    observer_named (suc n) j q t lt o done h = elim (cases_Bool (was_left_out g j)) [
      | inr kept ↦ kept
      | inl left ↦
          let w = left_wrong j t done h left in
          let lower = rank_falls m good j q w.0 w.1 o w.3 w.5 in
          absurd (w.7 (observer_named n w.0 w.1 w.2 (omega arith) w.3 w.4 w.6))
    ]

    pub executed_named : (x t : ℕ) → executed_at g.run x ≡ Some t → IsExecuted m s x → was_left_out g x ≡ false
    executed_named x t done h = elim (cases_Bool (was_left_out g x)) [
      | inr kept ↦ kept
      | inl left ↦
          let w = left_wrong x t done h left in
          absurd (w.7 (observer_named (suc (rank m good w.0)) w.0 w.1 w.2 (omega arith) w.3 w.4 w.6))
    ]

    -- the observers of the propositions that the completed label of a named time-point marks were named
    marks_named : (x t j p u : ℕ) → executed_at g.run x ≡ Some t → was_left_out g x ≡ false → IsMarked (completed_label m x) p → Observes m.base j p →
        executed_at g.run j ≡ Some u → was_left_out g j ≡ false
    marks_named x t j p u done kept marked o done_j = elim (cases_Bool (was_left_out g j)) [
      | inr also ↦ also
      | inl left ↦
          let out = right.ruled_out j u done_j left in
          let within = label_within m good x j p o marked out.0 in
          let misfits : MarkFits out.1 (completed_label m x out.0) → ⊥ = λ fit.
          out.3 (mark_fits_within out.1 (completed_label m j out.0) (completed_label m x out.0) within fit) in
          let held = right.held x t done kept out.0 (λ none. misfits (fits_absent out.1 (completed_label m x out.0) none)) in
          let there = (known_from net wf.network g.run (u + 1) out.0 out.1 out.2).1 in
          let here = (known_from net wf.network g.run (t + 1) out.0 held.0 held.1).1 in
          let same = one_value (outcome_of g.run out.0) held.0 out.1 here there in
          absurd (misfits (subst (λ v. MarkFits v (completed_label m x out.0)) same held.2))
    ]

    pub named_executed : (x t : ℕ) → executed_at g.run x ≡ Some t → was_left_out g x ≡ false → IsExecuted m s x
    named_executed x t done kept p = elim (absent_or_not (completed_label m x p)) [
      | inl none ↦ fits_absent (s p) (completed_label m x p) none
      | inr marked ↦
          let held = right.held x t done kept p marked in
          let from = (known_from net wf.network g.run (t + 1) p held.0 held.1).0 in
          let also = marks_named x t from.observer p from.moment done kept marked (below from.observer p from.observes) from.executed in
          let value = agrees p held.0 (denied_where from.observer p from.observes ∙ also) (known_now x t p held.0 done held.1) in
          subst (λ v. MarkFits v (completed_label m x p)) (sym value) held.2
    ]

    -- s, with false for each proposition whose observer was left out: it agrees with all that is known
    abbrev other : Scenario
    other = λ p. if is_denied net g p then false else s p

    other_agrees : AgreesKnown net g.run (next g.run) other
    other_agrees p v k =
        let from = known_from net wf.network g.run (next g.run) p v k in
        let j = from.0.observer in
        elim (cases_Bool (is_denied net g p)) [
          | inr kept ↦ cond-false (is_denied net g p) false (s p) kept ∙ agrees p v kept k
          | inl left ↦
              let kept_false = right.denied j p from.0.observes (sym (denied_where j p from.0.observes) ∙ left) in
              cond-true (is_denied net g p) false (s p) left ∙ one_value (outcome_of g.run p) false v kept_false from.1
        ]

    other_twin : AreTwins m s other
    other_twin j p o h = elim (cases_Bool (is_denied net g p)) [
      | inr kept ↦ cond-false (is_denied net g p) false (s p) kept
      | inl left ↦
          let there = sym (denied_where j p (above j p o)) ∙ left in
          let done = right.placed j there in
          absurd (both_ways (was_left_out g j) (executed_named j done.0 done.1 h) there)
    ]

    pub named_least : (x t : ℕ) → named_at g x ≡ Some t → IsLabelledLeast m s x t
    named_least x t e =
        let parts = named_parts g x t e in
        let size = right.right.moments in
        let inside = some_within g.run.moments x t parts.1 in
        let here : x < count m.base = omega arith in
        let h = named_executed x t parts.1 parts.0 in
        let there = twin_right m good s other other_twin x h in
        let least = labelled_least m good other x t here there (right.right.executed other x t other_agrees parts.1) in
        (twin_least m good s other x t other_twin here).1 least

  pub on_time : IsOnTime m g
  on_time = record {
    named = λ s x t agrees e. named_least s agrees x t e;
    left = λ s x agrees left h.
        let done = right.placed x left in
        both_ways (was_left_out g x) (executed_named s agrees x done.0 done.1 h) left;
  }

  pub led : (bounds : List Bound) (table : Table) → IsEarliest net bounds table → IsDone net g.run → IsLed m g
  led bounds table plan all =
      let none : Scenario = λ p. false in
      let twin = mixed m good none in
      let defaulted = mixed_defaulted m good none in
      let strategy = to_labelled m good table none twin plan.strategy defaulted in
      let at = λ (s : Scenario) (x t : ℕ) (agrees : AgreesHanded m g s) (here : x < count m.base) (e : named_at g x ≡ Some t).
      one_least m s x t (table (twin s) x) (named_least s agrees x t e)
      (defaulted_least m table none twin good defaulted plan.least s x here (named_least s agrees x t e).executed) in
      let inside : (x t : ℕ) → named_at g x ≡ Some t → x < count m.base = λ x t e.
      (let size = right.right.moments in let within = some_within g.run.moments x t (named_parts g x t e).1 in omega arith) in
      record {
        table = λ s. table (twin s);
        strategy = strategy;
        named = λ s x agrees here h.
            let done = all x here in
            let kept = executed_named s agrees x done.0 done.1 h in
            let e : named_at g x ≡ Some done.0 = cond-false (was_left_out g x) None (executed_at g.run x) kept ∙ done.1 in
            e ∙ ap (λ t. Some t) (at s x done.0 agrees here e);
        others = λ s x agrees not_there. elim (cases_option (named_at g x)) [
          | inl nowhere ↦ nowhere
          | inr named ↦ absurd (not_there (named_least s agrees x named.0 named.1).executed)
        ];
        meets = λ s c from to agrees has force at_from at_to.
            let met = strategy.meets s c has force in
            let one = at s c.from from agrees (inside c.from from at_from) at_from in
            let other = at s c.to to agrees (inside c.to to at_to) at_to in
            omega (arith, ints);
      }
