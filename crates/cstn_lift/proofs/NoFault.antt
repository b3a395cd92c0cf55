-- Labels without a lowest fault have none, and are in order.
use Rattle.std.proofs.Common.{◌≡◌, ◌≢◌, ℕ, suc, ◌<◌, length, refl, ap, arith, Option, Some, None}
use Rattle.std.proofs.Math.Path.{fun_ext}
use Rattle.cstn_label.specs.declared.marks.Mark.TheVariants.{Absent}
use Rattle.cstn_label.specs.Labels.{Label, IsPlain}
use Rattle.cstn_net.specs.Networks.{IsWellFormed, IsUnobserved, Observes, count}
use Rattle.cstn_net.proofs.NoFault.{no_faults, none_below, least_none, stable_plain, stable_absent}
use Rattle.cstn_net.proofs.Knowledge.{observer_within}
use Rattle.cstn_lift.specs.declared.errors.LiftError.{LiftError}
use Rattle.cstn_lift.specs.declared.errors.LiftError.TheVariants.{OriginLabel, NotPlain as NotPlainLabel, NotObserved as NotObservedLabel, Circle, Never}
use Rattle.cstn_lift.specs.Labelled.{Labelled, label_of}
use Rattle.cstn_lift.specs.Completion.{completed_label}
use Rattle.cstn_lift.specs.Lowered.{observer_of}
use Rattle.cstn_lift.specs.Faults.{HasLiftFault, HasGoodLabels, IsLowestLiftFault, ObservesMark, NamesUnobserved, lift_number}
use Rattle.cstn_lift.specs.WellFormed.{IsLabelled}
use Rattle.cstn_lift.proofs.FaultLemmas.{labelled_from}
use Rattle.cstn_lift.proofs.LoweredLemmas.{observer_found, observer_back}

-- Labels without a lowest fault, of a well-formed network.
module _ (m : Labelled) (base : IsWellFormed m.base) (one_each : length m.labels ≡ count m.base) (letters : (x p : ℕ) → label_of m x p ≢ Absent → p < 52) (none : (e : LiftError) → IsLowestLiftFault m e → ⊥) where
  pub lift_faultless : (e : LiftError) → HasLiftFault m e → ⊥
  lift_faultless e has = no_faults (HasLiftFault m) lift_number none (lift_number e) e (omega arith) has

  named_by : (x p : ℕ) (o : Option ℕ) → observer_of m.base p ≡ o → x < count m.base → label_of m x p ≢ Absent → (y : ℕ) × Observes m.base y p
  named_by x p (Some y) e inside named = (y, observer_back m.base y p e)
  named_by x p None e inside named =
      let unobserved : (y : ℕ) → Observes m.base y p → ⊥ = λ y o. let there = observer_found m.base base.network y p o in cc in
      absurd (none_below (count m.base) (λ y. NamesUnobserved m.base (label_of m y))
      (λ y first. let found = first.here in
      least_none (IsUnobserved m.base (label_of m y))
      (λ q here before. lift_faultless (NotObservedLabel (record { 0 = y }) (record { index = q; in_range = letters y q here.0 })) (first, (here, before)))
      (suc found.0) found.0 (omega arith) found.1)
      (suc x) x (omega arith) inside (p, (named, unobserved)))

  good_labels : HasGoodLabels m
  good_labels = record {
    origin = fun_ext (λ p. stable_absent (label_of m 0 p) (λ no. lift_faultless OriginLabel (λ e. no (ap (λ (a : Label). a p) e))));
    plain = λ x inside. stable_plain (label_of m x) (λ no.
        none_below (count m.base) (λ y. IsPlain (label_of m y) → ⊥) (λ y. lift_faultless (NotPlainLabel (record { 0 = y }))) (suc x) x (omega arith) inside no);
    observed = λ x inside p named. named_by x p (observer_of m.base p) refl inside named;
  }

  pub labelled_made : IsLabelled m
  labelled_made =
      labelled_from m good_labels (λ x p o. observer_within m.base x p o) base one_each
      (λ x inside seen. none_below (count m.base) (λ y. ObservesMark m.base (completed_label m y) y) (λ y. lift_faultless (Circle (record { 0 = y }))) (suc x) x (omega arith) inside seen)
      (λ x inside. stable_plain (completed_label m x) (λ no.
      none_below (count m.base) (λ y. IsPlain (completed_label m y) → ⊥) (λ y. lift_faultless (Never (record { 0 = y }))) (suc x) x (omega arith) inside no))
