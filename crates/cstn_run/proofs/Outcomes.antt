-- Which outcomes are accepted.
use Rattle.std.proofs.Common.{ℕ, ◌≡◌, ◌⊎◌, inl, inr, Bool, true, false, Option, Some, None, refl, sym, ap, ◌∙◌}
use Rattle.std.specs.Prelude.{◌↔◌}
use Rattle.std.proofs.lemmas.Bool.{cond-true, cond-false}
use Rattle.cstn_net.specs.Networks.{IsNetwork, Observes}
use Rattle.cstn_lift.specs.Labelled.{Labelled}
use Rattle.cstn_lift.specs.Lowered.{lowered}
use Rattle.cstn_exec.specs.Runs.{executed_at, outcome_of, observed_at}
use Rattle.cstn_exec.specs.Moves.{NotExecuted, Known, outcome_refusal, unless_unseen, unless_known}
use Rattle.cstn_exec.specs.Guides.{Guided, was_left_out, is_among, is_denied, see_refusal}
use Rattle.cstn_exec.proofs.Knowing.{observer_at, observed_where, observed_from}
use Rattle.cstn_run.specs.Meanings.{IsObserved}

none_kept : (p : ℕ) (o : Option Bool) → unless_known p o ≡ None → o ≡ None
none_kept p None is = refl
none_kept p (Some v) is = absurd (let f : ⊥ = cc in f)

one_kept : (p : ℕ) (v : Bool) (o : Option Bool) → unless_known p o ≡ Some (Known p v) → o ≡ Some v
one_kept p v None is = absurd (let f : ⊥ = cc in f)
one_kept p v (Some w) is = cc

never_unseen : (p : ℕ) (o : Option Bool) → unless_known p o ≡ Some (NotExecuted p) → ⊥
never_unseen p None is = let f : ⊥ = cc in f
never_unseen p (Some v) is = let f : ⊥ = cc in f

module _ (m : Labelled) (net : IsNetwork (lowered m)) (g : Guided) (p : ℕ) where
  marked_so : (x : ℕ) → Observes (lowered m) x p → is_denied (lowered m) g p ≡ was_left_out g x
  marked_so x o = ap (is_among g.left) (observer_at (lowered m) net x p o)

  -- the observer of p was named, or an outcome is refused since it was not
  observed_or_not : IsObserved m g p ⊎ (see_refusal m g p ≡ Some (NotExecuted p))
  observed_or_not = by_denied (is_denied (lowered m) g p) refl
    where
      by_observed : is_denied (lowered m) g p ≡ false → (o : Option ℕ) → observed_at (lowered m) g.run p ≡ o → IsObserved m g p ⊎ (see_refusal m g p ≡ Some (NotExecuted p))
      by_observed there None is = inr
          (cond-false (is_denied (lowered m) g p) (Some (NotExecuted p)) (outcome_refusal (lowered m) g.run p) there
          ∙ ap (λ o. unless_unseen p o (unless_known p (outcome_of g.run p))) is)
      by_observed there (Some t) is =
          let at = observed_from (lowered m) net g.run p t is in
          inl (record {
            observer = at.0;
            moment = t;
            observes = at.1;
            named = cond-false (was_left_out g at.0) None (executed_at g.run at.0) (sym (marked_so at.0 at.1) ∙ there) ∙ at.2;
          })

      by_denied : (b : Bool) → is_denied (lowered m) g p ≡ b → IsObserved m g p ⊎ (see_refusal m g p ≡ Some (NotExecuted p))
      by_denied true is = inr (cond-true (is_denied (lowered m) g p) (Some (NotExecuted p)) (outcome_refusal (lowered m) g.run p) is)
      by_denied false is = by_observed is (observed_at (lowered m) g.run p) refl

  -- where the observer of p was named, an outcome is refused only where one is kept
  where_observed : IsObserved m g p → see_refusal m g p ≡ unless_known p (outcome_of g.run p)
  where_observed seen = by_left (was_left_out g seen.observer) refl
    where
      by_left : (b : Bool) → was_left_out g seen.observer ≡ b → see_refusal m g p ≡ unless_known p (outcome_of g.run p)
      by_left true is =
          let none : None ≡ Some seen.moment = sym (cond-true (was_left_out g seen.observer) None (executed_at g.run seen.observer) is) ∙ seen.named in
          absurd (let f : ⊥ = cc in f)
      by_left false is =
          cond-false (is_denied (lowered m) g p) (Some (NotExecuted p)) (outcome_refusal (lowered m) g.run p) (marked_so seen.observer seen.observes ∙ is)
          ∙ ap (λ o. unless_unseen p o (unless_known p (outcome_of g.run p)))
          (observed_where (lowered m) net g.run seen.observer p seen.observes
          ∙ sym (cond-false (was_left_out g seen.observer) None (executed_at g.run seen.observer) is) ∙ seen.named)

  pub seen_accepted : see_refusal m g p ≡ None ↔ (IsObserved m g p × (outcome_of g.run p ≡ None))
  seen_accepted = (
    λ is. elim observed_or_not [
      | inl seen ↦ (seen, none_kept p (outcome_of g.run p) (sym (where_observed seen) ∙ is))
      | inr not ↦ absurd (let f : ⊥ = cc in f)
    ],
    λ both. where_observed both.0 ∙ ap (unless_known p) both.1,
  )

  pub seen_kept : (v : Bool) → see_refusal m g p ≡ Some (Known p v) ↔ (IsObserved m g p × (outcome_of g.run p ≡ Some v))
  seen_kept v = (
    λ is. elim observed_or_not [
      | inl seen ↦ (seen, one_kept p v (outcome_of g.run p) (sym (where_observed seen) ∙ is))
      | inr not ↦ absurd (let f : ⊥ = cc in f)
    ],
    λ both. where_observed both.0 ∙ ap (unless_known p) both.1,
  )

  pub seen_unnamed : see_refusal m g p ≡ Some (NotExecuted p) ↔ (IsObserved m g p → ⊥)
  seen_unnamed = (
    λ is seen. never_unseen p (outcome_of g.run p) (sym (where_observed seen) ∙ is),
    λ never. elim observed_or_not [
      | inl seen ↦ absurd (never seen)
      | inr not ↦ not
    ],
  )
