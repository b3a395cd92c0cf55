-- What a verdict on what is left says of the history.
use Rattle.std.proofs.Common.{ℕ, ◌≡◌, ◌<◌, ◌≤◌, Bool, true, false, Some, None, length, refl, subst, arith}
use Rattle.std.specs.Prelude.{◌↔◌, nat_le, ◌&&◌, if◌then◌else◌}
use Rattle.std.specs.List.{All}
use Rattle.cstn_net.specs.Limits.{most_constraints}
use Rattle.cstn_net.specs.Strategies.{IsConsistent}
use Rattle.cstn_lift.specs.Labelled.{Labelled}
use Rattle.cstn_lift.specs.Lowered.{lowered}
use Rattle.cstn_lift.specs.WellFormed.{IsLabelled}
use Rattle.cstn_lift.proofs.Equivalent.{equivalent}
use Rattle.cstn_lift.proofs.WellFormed.{lowered_well_formed}
use Rattle.cstn_check.specs.Decisions.{verdict}
use Rattle.cstn_check.specs.declared.verdicts.Verdict.{Verdict}
use Rattle.cstn_check.specs.declared.verdicts.Verdict.TheVariants.{Yes, No, Full}
use Rattle.cstn_check.proofs.Deciding.{Tells, verdict_tells}
use Rattle.cstn_history.specs.Histories.{History, IsTimelyHistory}
use Rattle.cstn_history.specs.Continuations.{Can}
use Rattle.cstn_history.specs.Rest.{rest}
use Rattle.cstn_history.specs.Handed.{HasFewConstraints}
use Rattle.cstn_history.proofs.Decides.{can_both}
use Rattle.cstn_history.proofs.WellFormed.{rest_labelled}
use Rattle.cstn_follow.specs.Following.{has_few, verdict_left, IsRightVerdict}

pub few_is : (n : ℕ) → nat_le n most_constraints ≡ true → n ≤ most_constraints
few_is n is = grind arith

module _ (m : Labelled) (h : History) (fresh cap : ℕ) (v : Verdict) (is : verdict_left m h fresh cap ≡ Some v) where
  abbrev Left : Labelled
  Left = rest m h fresh

  by_few : (a b c : Bool) → has_few Left.base ≡ b → has_few (lowered Left) ≡ c
      → (if a && (b && c) then Some (verdict cap (lowered Left)) else None) ≡ Some v → HasFewConstraints Left × (verdict cap (lowered Left) ≡ v)
  by_few true true true few few_lowered says = (
    record {
      base = few_is (length Left.base.constraints) few;
      lowered = few_is (length (lowered Left).constraints) few_lowered;
    },
    (cc),
  )
  by_few true true false few few_lowered says = absurd (cc)
  by_few true false c few few_lowered says = absurd (cc)
  by_few false b c few few_lowered says = absurd (cc)

  pub left_says : HasFewConstraints Left × (verdict cap (lowered Left) ≡ v)
  left_says = by_few (has_few (lowered m)) (has_few Left.base) (has_few (lowered Left)) refl refl is

  module _ (good : IsLabelled m) (timely : IsTimelyHistory m h) (above : All (λ c. c.id < fresh) m.base.constraints) where
    pub left_labelled : IsLabelled Left
    left_labelled = rest_labelled m h fresh good timely.history timely.in_time above left_says.0.base

    left_tells : Tells cap (lowered Left) v
    left_tells = subst (Tells cap (lowered Left)) left_says.1 (verdict_tells cap (lowered Left) (lowered_well_formed Left left_labelled left_says.0.lowered))

-- the verdict on what is left is right
pub verdict_right : (m : Labelled) (h : History) (fresh cap : ℕ) (v : Verdict) → IsLabelled m → IsTimelyHistory m h → All (λ c. c.id < fresh) m.base.constraints
    → verdict_left m h fresh cap ≡ Some v → IsRightVerdict m h fresh cap v
verdict_right m h fresh cap v good timely above is = by_verdict v is
  where
    consistent : (w : Verdict) → verdict_left m h fresh cap ≡ Some w → Can m h ↔ IsConsistent (lowered (rest m h fresh))
    consistent w said =
        let both = can_both m h fresh good timely.history in
        let same = (equivalent (rest m h fresh) (left_labelled m h fresh cap w said good timely above)).consistent in
        (λ can. same.0 (both.0 can), λ found. both.1 (same.1 found))

    by_verdict : (w : Verdict) → verdict_left m h fresh cap ≡ Some w → IsRightVerdict m h fresh cap w
    by_verdict (Yes load) said = (consistent (Yes load) said).1 (left_tells m h fresh cap (Yes load) said good timely above).0
    by_verdict (No load) said = λ can. (left_tells m h fresh cap (No load) said good timely above).0 ((consistent (No load) said).0 can)
    by_verdict Full said = left_tells m h fresh cap Full said good timely above
