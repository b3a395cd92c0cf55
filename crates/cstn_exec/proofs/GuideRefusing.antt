-- Which outcomes are refused.
use Rattle.std.proofs.Common.{ℕ, ◌≡◌, inl, inr, Bool, false, Option, Some, None, refl, sym, ap, ◌∙◌}
use Rattle.std.specs.Prelude.{◌↔◌, option_and_then}
use Rattle.std.proofs.lemmas.Bool.{cases_Bool, cond-true, cond-false}
use Rattle.cstn_net.specs.Networks.{Observes}
use Rattle.cstn_lift.specs.Labelled.{Labelled}
use Rattle.cstn_lift.specs.Lowered.{lowered, observer_of}
use Rattle.cstn_exec.specs.Runs.{executed_at, outcome_of, observed_at}
use Rattle.cstn_exec.specs.Moves.{NotExecuted, outcome_refusal, unless_unseen, unless_known}
use Rattle.cstn_exec.specs.Guides.{Guided, was_left_out, named_at, is_among, is_denied, see_refusal}

pub known_already : (p : ℕ) (o : Option Bool) → unless_known p o ≡ Some (NotExecuted p) → ⊥
known_already p None e = let f : ⊥ = cc in f
known_already p (Some v) e = let f : ⊥ = cc in f

-- for a network in which `observer_of` finds exactly the time-point that observes a proposition
module _ (m : Labelled) (found : (x p : ℕ) → Observes (lowered m) x p → observer_of (lowered m) p ≡ Some x)
    (only : (x p : ℕ) → observer_of (lowered m) p ≡ Some x → Observes (lowered m) x p) (g : Guided) (p : ℕ) where
  marked_so : (x : ℕ) → Observes (lowered m) x p → is_denied (lowered m) g p ≡ was_left_out g x
  marked_so x o = ap (is_among g.left) (found x p o)

  named_is : is_denied (lowered m) g p ≡ false → (x : ℕ) → Observes (lowered m) x p → named_at g x ≡ executed_at g.run x
  named_is kept x o = cond-false (was_left_out g x) None (executed_at g.run x) (sym (marked_so x o) ∙ kept)

  observed_where : (x : ℕ) → Observes (lowered m) x p → observed_at (lowered m) g.run p ≡ executed_at g.run x
  observed_where x o = ap (λ o. option_and_then (executed_at g.run) o) (found x p o)

  observed_from : (o : Option ℕ) (t : ℕ) → observer_of (lowered m) p ≡ o → option_and_then (executed_at g.run) o ≡ Some t →
      (x : ℕ) × Observes (lowered m) x p × (executed_at g.run x ≡ Some t)
  observed_from None t is e = absurd (cc)
  observed_from (Some x) t is e = (x, only x p is, e)

  -- an outcome whose observer wasn't left out is refused as not observed exactly where the observer has no moment yet
  refused_kept : is_denied (lowered m) g p ≡ false → (seen : Option ℕ) → observed_at (lowered m) g.run p ≡ seen →
      see_refusal m g p ≡ Some (NotExecuted p) ↔ ((x : ℕ) → Observes (lowered m) x p → named_at g x ≡ None)
  refused_kept kept None none =
      let same = cond-false (is_denied (lowered m) g p) (Some (NotExecuted p)) (outcome_refusal (lowered m) g.run p) kept in (
        (λ e x o. named_is kept x o ∙ sym (observed_where x o) ∙ none),
        (λ h. same ∙ ap (λ o. unless_unseen p o (unless_known p (outcome_of g.run p))) none),
      )
  refused_kept kept (Some t) some =
      let same = cond-false (is_denied (lowered m) g p) (Some (NotExecuted p)) (outcome_refusal (lowered m) g.run p) kept in (
        (λ e. absurd (known_already p (outcome_of g.run p)
            (sym (ap (λ o. unless_unseen p o (unless_known p (outcome_of g.run p))) some) ∙ sym same ∙ e))),
        (λ h.
            let at = observed_from (observer_of (lowered m) p) t refl some in
            let e : None ≡ Some t = sym (h at.0 at.1) ∙ named_is kept at.0 at.1 ∙ at.2 in
            absurd (cc)),
      )

  -- an outcome is refused as not observed exactly where no named time-point observes it
  pub refused_unnamed : see_refusal m g p ≡ Some (NotExecuted p) ↔ ((x : ℕ) → Observes (lowered m) x p → named_at g x ≡ None)
  refused_unnamed = elim (cases_Bool (is_denied (lowered m) g p)) [
    | inl gone ↦ (
      (λ e x o. cond-true (was_left_out g x) None (executed_at g.run x) (sym (marked_so x o) ∙ gone)),
      (λ h. cond-true (is_denied (lowered m) g p) (Some (NotExecuted p)) (outcome_refusal (lowered m) g.run p) gone),
    )
    | inr kept ↦ refused_kept kept (observed_at (lowered m) g.run p) refl
  ]
