-- Why the rest is refused.
use Rattle.std.proofs.Common.{◌≡◌, ◌≢◌, inl, inr, ◌≤◌, length}
use Rattle.std.proofs.lemmas.Bool.{cases_lt, cases_eq}
use Rattle.cstn_net.specs.Limits.{most_constraints}
use Rattle.cstn_lift.specs.declared.errors.LiftError.{LiftError}
use Rattle.cstn_lift.specs.declared.errors.LiftError.TheVariants.{TooManyConstraints as TooMany}
use Rattle.cstn_lift.specs.Labelled.{Labelled}
use Rattle.cstn_lift.specs.Lowered.{lowered}
use Rattle.cstn_lift.specs.WellFormed.{IsLabelled}
use Rattle.cstn_lift.specs.Faults.{HasLiftFault, IsLiftRefusal, lift_number}
use Rattle.cstn_history.specs.declared.errors.RestError.{RestError}
use Rattle.cstn_history.specs.declared.errors.RestError.TheVariants.{TooManyConstraints}
use Rattle.cstn_history.specs.Handed.{rest_number, IsRestRefusal, HasFewConstraints}

pub lift_refused : (m : Labelled) → IsLabelled m →
    ((n : Labelled) (e : LiftError) → IsLabelled n → length (lowered n).constraints ≤ most_constraints → HasLiftFault n e → ⊥) →
    (e : LiftError) (r : RestError) → IsLiftRefusal m e → (lift_number e ≡ 0 → rest_number r ≡ 0) → (lift_number e ≢ 0 → r ≡ TooManyConstraints) →
    IsRestRefusal m r
lift_refused m good faultless e r refusal memory many = elim (cases_eq (lift_number e) 0) [
  | inl none ↦ inl (memory none)
  | inr other ↦ elim (cases_lt most_constraints (length (lowered m).constraints)) [
    | inl long ↦ inr (many other, inr long)
    | inr few ↦ elim refusal [
      | inl none ↦ absurd (other none)
      | inr fault ↦ absurd (faultless m e good few fault.has)
    ]
  ]
]

pub lift_has_room : (m : Labelled) → length m.base.constraints ≤ most_constraints → ((e : LiftError) → HasLiftFault m e → ⊥) → HasFewConstraints m
lift_has_room m few faultless = elim (cases_lt most_constraints (length (lowered m).constraints)) [
  | inl long ↦ absurd (faultless TooMany long)
  | inr short ↦ record { base = few; lowered = short }
]
