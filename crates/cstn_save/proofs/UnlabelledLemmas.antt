-- Labels that make no fault.
use Rattle.std.proofs.Common.{◌≡◌, ℕ, zero, suc, Bool, true, false, List, length, refl, ap, sym, ◌∙◌, arith, subst}
use Rattle.std.specs.Prelude.{if◌then◌else◌}
use Rattle.std.proofs.lemmas.List.{length-map}
use Rattle.cstn_label.specs.Labels.{Label, IsPlain, empty, joined}
use Rattle.cstn_label.proofs.LabelLemmas.{joined_empty}
use Rattle.cstn_net.specs.Networks.{Network, IsWellFormed, count}
use Rattle.cstn_lift.specs.declared.errors.LiftError.{LiftError}
use Rattle.cstn_lift.specs.declared.errors.LiftError.TheVariants.{OriginLabel, NotPlain, NotObserved, Circle, Never, TooManyConstraints, Memory}
use Rattle.cstn_lift.specs.Labelled.{Labelled, label_of}
use Rattle.cstn_lift.specs.Completion.{joined_upto, rounds, completed_label}
use Rattle.cstn_lift.specs.WellFormed.{IsLabelled}
use Rattle.cstn_lift.specs.Faults.{HasLiftFault}
use Rattle.cstn_lift.proofs.Unlabelled.{unlabelled_lowered}
use Rattle.cstn_graphml.specs.Networks.{labelled_of, observed_prop, IsMislabelled}
use Rattle.cstn_save.specs.Canonical.{timed_observations, observation_by}
use Rattle.cstn_save.specs.ReadBack.{parts}
use Rattle.cstn_save.proofs.SameLemmas.{well_formed_back}
use Rattle.cstn_lift.proofs.ListLemmas.{numbered_length}

plain_empty : (a : Label) → a ≡ empty → IsPlain a
plain_empty a is = subst IsPlain (sym is) (λ p. tt)

module _ (m : Labelled) (none : (x : ℕ) → label_of m x ≡ empty) where
  brought_none : (x : ℕ) (b : Bool) → (if b then label_of m x else empty) ≡ empty
  brought_none x true = none x
  brought_none x false = refl

  joined_same : (n : ℕ) (a : Label) → joined_upto m n a ≡ a
  joined_same zero a = refl
  joined_same (suc x) a =
      ap (λ (b : Label). joined (joined_upto m x a) b) (brought_none x _) ∙ joined_empty (joined_upto m x a) ∙ joined_same x a

  rounds_same : (n : ℕ) (a : Label) → rounds m n a ≡ a
  rounds_same zero a = refl
  rounds_same (suc n) a = joined_same (count m.base) (rounds m n a) ∙ rounds_same n a

  completed_none : (x : ℕ) → completed_label m x ≡ empty
  completed_none x = rounds_same (count m.base) (label_of m x) ∙ none x

  unlabelled_labelled : IsWellFormed m.base → length m.labels ≡ count m.base → IsLabelled m
  unlabelled_labelled base each = record {
    base = base;
    one_each = each;
    origin = none 0;
    plain = λ x inside. plain_empty (label_of m x) (none x);
    observed = λ x inside p marked. absurd (marked (ap (λ (a : Label). a p) (none x)));
    no_circle = λ x p o. ap (λ (a : Label). a p) (completed_none x);
    completed_plain = λ x inside. plain_empty (completed_label m x) (completed_none x);
  }

  pub unlabelled_faultless : IsWellFormed m.base → length m.labels ≡ count m.base → (error : LiftError) → HasLiftFault m error → ⊥
  unlabelled_faultless base each OriginLabel h = h (none 0)
  unlabelled_faultless base each (NotPlain node) h = h.here (plain_empty (label_of m node.0) (none node.0))
  unlabelled_faultless base each (NotObserved node prop) h = let named = h.0.here in named.1.0 (ap (λ (a : Label). a named.0) (none node.0))
  unlabelled_faultless base each (Circle node) h = let seen = h.here in seen.2 (ap (λ (a : Label). a seen.0) (completed_none node.0))
  unlabelled_faultless base each (Never node) h = h.here (plain_empty (completed_label m node.0) (completed_none node.0))
  unlabelled_faultless base each TooManyConstraints h =
      let same = unlabelled_lowered m (unlabelled_labelled base each) (λ x inside. none x) in
      omega (arith, h, ap (λ (n : Network). length n.constraints) same, numbered_length 0 m.base.constraints, base.few_constraints)
  unlabelled_faultless base each (Memory e) h = h

-- empty labels of a canonical document have no fault
pub unlabelled_fit : (m : Labelled) (names : List (List ℕ)) (error : LiftError) → IsWellFormed m.base → length m.labels ≡ count m.base → ((x : ℕ) → label_of m x ≡ empty) → IsMislabelled (parts m names) error → ⊥
unlabelled_fit m names error wf each none wrong =
    unlabelled_faultless (labelled_of (parts m names)) none (well_formed_back m names wf)
    (each ∙ sym (length-map m.base.observes (observation_by m.base.reaction)) ∙ sym (length-map (timed_observations m.base) observed_prop)) error wrong.fault.has

-- labels without a fault stay without one where the very same labelled network is read back
pub labelled_fit : (m : Labelled) (names : List (List ℕ)) (error : LiftError) → ((e : LiftError) → HasLiftFault m e → ⊥) → labelled_of (parts m names) ≡ m → IsMislabelled (parts m names) error → ⊥
labelled_fit m names error none same wrong = none error (subst (λ (x : Labelled). HasLiftFault x error) same wrong.fault.has)
