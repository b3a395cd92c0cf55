-- How much of a labelled network there may be, and the verdict on what is left of it.
use Rattle.std.proofs.Common.{ℕ, ◌≡◌, ◌<◌, ◌≤◌, inl, inr, Bool, true, false, Some, None, length, refl, ap, ◌∙◌, arith}
use Rattle.std.specs.Prelude.{◌⊎◌, nat_le, ◌&&◌, if◌then◌else◌}
use Rattle.std.proofs.lemmas.Bool.{and_from}
use Rattle.cstn_net.specs.Limits.{most_constraints}
use Rattle.cstn_lift.specs.Labelled.{Labelled}
use Rattle.cstn_lift.specs.Lowered.{lowered}
use Rattle.cstn_check.specs.Decisions.{verdict}
use Rattle.cstn_check.specs.declared.verdicts.Verdict.{Verdict}
use Rattle.cstn_history.specs.Histories.{History}
use Rattle.cstn_history.specs.Rest.{rest}
use Rattle.cstn_history.specs.Handed.{HasFewConstraints}
use Rattle.cstn_follow.specs.Following.{Following, has_few, is_within_limits, verdict_left, verdict_now, verdict_within}

few_true : (n : ℕ) → n ≤ most_constraints → nat_le n most_constraints ≡ true
few_true n few = grind arith

many_false : (n : ℕ) → most_constraints < n → nat_le n most_constraints ≡ false
many_false n many = grind arith

-- there is a verdict where there are few enough constraints
pub left_fits : (m : Labelled) (h : History) (fresh cap : ℕ) → length (lowered m).constraints ≤ most_constraints → HasFewConstraints (rest m h fresh)
    → verdict_left m h fresh cap ≡ Some (verdict cap (lowered (rest m h fresh)))
left_fits m h fresh cap few room =
    all_fit (has_few (lowered m)) (has_few (rest m h fresh).base) (has_few (lowered (rest m h fresh)))
    (few_true (length (lowered m).constraints) few) (few_true (length (rest m h fresh).base.constraints) room.base)
    (few_true (length (lowered (rest m h fresh)).constraints) room.lowered)
  where
    all_fit : (a b c : Bool) → a ≡ true → b ≡ true → c ≡ true
        → (if a && (b && c) then Some (verdict cap (lowered (rest m h fresh))) else None) ≡ Some (verdict cap (lowered (rest m h fresh)))
    all_fit true true true p q r = refl
    all_fit true true false p q r = absurd (cc)
    all_fit true false c p q r = absurd (cc)
    all_fit false b c p q r = absurd (cc)

-- and there is none where there are too many
pub left_many : (m : Labelled) (h : History) (fresh cap : ℕ)
    → (most_constraints < length (lowered m).constraints) ⊎ ((most_constraints < length (rest m h fresh).base.constraints) ⊎ (most_constraints < length (lowered (rest m h fresh)).constraints))
    → verdict_left m h fresh cap ≡ None
left_many m h fresh cap (inl many) =
    ap (λ b. if b && (has_few (rest m h fresh).base && has_few (lowered (rest m h fresh))) then Some (verdict cap (lowered (rest m h fresh))) else None)
    (many_false (length (lowered m).constraints) many)
left_many m h fresh cap (inr (inl many)) =
    ap (λ b. if has_few (lowered m) && (b && has_few (lowered (rest m h fresh))) then Some (verdict cap (lowered (rest m h fresh))) else None)
    (many_false (length (rest m h fresh).base.constraints) many) ∙ not_both (has_few (lowered m))
  where
    not_both : (a : Bool) → (if a && (false && has_few (lowered (rest m h fresh))) then Some (verdict cap (lowered (rest m h fresh))) else None) ≡ None
    not_both true = refl
    not_both false = refl
left_many m h fresh cap (inr (inr many)) =
    ap (λ b. if has_few (lowered m) && (has_few (rest m h fresh).base && b) then Some (verdict cap (lowered (rest m h fresh))) else None)
    (many_false (length (lowered (rest m h fresh)).constraints) many) ∙ not_all (has_few (lowered m)) (has_few (rest m h fresh).base)
  where
    not_all : (a b : Bool) → (if a && (b && false) then Some (verdict cap (lowered (rest m h fresh))) else None) ≡ None
    not_all true true = refl
    not_all true false = refl
    not_all false b = refl

-- the verdict within the limits is the verdict
pub within_is : (s : Following) (v : Verdict) → verdict_within s ≡ Some v → v ≡ verdict_now s
within_is s v is = by_fit (is_within_limits s.network s.history s.fresh) is
  where
    by_fit : (b : Bool) → (if b then Some (verdict_now s) else None) ≡ Some v → v ≡ verdict_now s
    by_fit true here = cc
    by_fit false here = absurd (cc)

-- the limits are kept, or they aren't
pub fits_within : (m : Labelled) (h : History) (fresh : ℕ) → length (lowered m).constraints ≤ most_constraints → HasFewConstraints (rest m h fresh)
    → is_within_limits m h fresh ≡ true
fits_within m h fresh few room =
    and_from (has_few (lowered m)) (has_few (rest m h fresh).base && has_few (lowered (rest m h fresh))) (few_true (length (lowered m).constraints) few)
    (and_from (has_few (rest m h fresh).base) (has_few (lowered (rest m h fresh))) (few_true (length (rest m h fresh).base.constraints) room.base)
    (few_true (length (lowered (rest m h fresh)).constraints) room.lowered))

pub many_within : (m : Labelled) (h : History) (fresh : ℕ)
    → (most_constraints < length (rest m h fresh).base.constraints) ⊎ (most_constraints < length (lowered (rest m h fresh)).constraints)
    → is_within_limits m h fresh ≡ false
many_within m h fresh (inl many) =
    ap (λ b. has_few (lowered m) && (b && has_few (lowered (rest m h fresh)))) (many_false (length (rest m h fresh).base.constraints) many)
    ∙ false_behind (has_few (lowered m))
  where
    false_behind : (a : Bool) → (a && (false && has_few (lowered (rest m h fresh)))) ≡ false
    false_behind true = refl
    false_behind false = refl
many_within m h fresh (inr many) =
    ap (λ b. has_few (lowered m) && (has_few (rest m h fresh).base && b)) (many_false (length (lowered (rest m h fresh)).constraints) many)
    ∙ false_last (has_few (lowered m)) (has_few (rest m h fresh).base)
  where
    false_last : (a b : Bool) → (a && (b && false)) ≡ false
    false_last true true = refl
    false_last true false = refl
    false_last false b = refl
