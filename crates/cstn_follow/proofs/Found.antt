-- What a check of what is left found, and what its verdict says.
use Rattle.std.proofs.Common.{ℕ, true, false, ◌≡◌, ◌<◌, ◌≤◌, ◌+◌, ◌^◌, inl, inr, Some, None, length, ap, sym, subst, ◌∙◌, arith}
use Rattle.std.specs.Prelude.{◌&&◌, nat_lt}
use Rattle.std.proofs.lemmas.Bool.{and_parts}
use Rattle.cstn_net.specs.Limits.{most_constraints, most_edits}
use Rattle.cstn_net.specs.Networks.{Network}
use Rattle.cstn_net.specs.Read.{the_network}
use Rattle.cstn_lift.specs.Labelled.{Labelled}
use Rattle.cstn_lift.specs.Lowered.{lowered}
use Rattle.cstn_lift.specs.Read.{LabelledParts, the_labelled}
use Rattle.cstn_lift.specs.WellFormed.{IsLabelled}
use Rattle.cstn_plan.specs.Plans.{PlanParts, the_bounds}
use Rattle.cstn_refute.specs.Refutations.{RefutationParts}
use Rattle.cstn_check.specs.Growth.{log_of, live_bounds}
use Rattle.cstn_check.specs.Decisions.{verdict}
use Rattle.cstn_check.specs.declared.verdicts.Verdict.{Verdict}
use Rattle.cstn_check.specs.declared.verdicts.Verdict.TheVariants.{Yes, No}
use Rattle.cstn_history.specs.declared.errors.RestError.{RestError}
use Rattle.cstn_history.specs.declared.errors.RestError.TheVariants.{TooManyConstraints}
use Rattle.cstn_history.specs.Handed.{HasFewConstraints, IsRestRefusal, rest_number}
use Rattle.cstn_history.specs.Histories.{History, IsTimelyHistory}
use Rattle.cstn_history.specs.Continuations.{Can}
use Rattle.cstn_history.specs.Read.{HistoryParts, the_history}
use Rattle.cstn_history.specs.Rest.{rest}
use Rattle.cstn_follow.specs.declared.findings.Finding.{Finding}
use Rattle.cstn_follow.specs.declared.findings.Finding.TheVariants.{Planned, Refuted, Unknown}
use Rattle.cstn_follow.specs.Executions.{ExecutionParts, IsExecution, execution_left}
use Rattle.cstn_follow.specs.Answers.{IsLeftRefuted, SaidYes, SaidNo}
use Rattle.cstn_follow.specs.Findings.{verdict_of, IsFindingOn}
use Rattle.cstn_follow.specs.Following.{is_within_limits, verdict_left}
use Rattle.cstn_follow.specs.Waiting.{HasRoomToWait}
use Rattle.cstn_follow.specs.Sessions.{SessionParts, IsFollowed, IsRightNow, IsSession, execution_of, session_parts}
use Rattle.cstn_follow.proofs.Edited.{left_fits, left_many, many_within}
use Rattle.cstn_follow.proofs.GoesOn.{left_says, left_labelled, verdict_right}

-- the verdict of a finding is the one on the network
pub finding_verdict : (cap : ℕ) (net : Network) (f : Finding) → IsFindingOn cap net f → verdict cap net ≡ verdict_of f
finding_verdict cap net (Planned load plan) is = is.0
finding_verdict cap net (Refuted refutation) is = is.0
finding_verdict cap net Unknown is = is

module _ (m : Labelled) (h : History) (fresh cap : ℕ) where
  -- where something is found, there is room
  pub found_left : (f : Finding) → length (lowered m).constraints ≤ most_constraints → HasFewConstraints (rest m h fresh) → IsFindingOn cap (lowered (rest m h fresh)) f
      → verdict_left m h fresh cap ≡ Some (verdict_of f)
  found_left f few room is = left_fits m h fresh cap few room ∙ ap (λ v. Some v) (finding_verdict cap (lowered (rest m h fresh)) f is)

  -- where what is left is refused, there are too many constraints
  pub refused_left : (e : RestError) → IsRestRefusal (rest m h fresh) e → e ≡ TooManyConstraints → verdict_left m h fresh cap ≡ None
  refused_left e refusal is = elim refusal [
    | inl none ↦ let number = ap rest_number is in absurd (omega arith)
    | inr many ↦ left_many m h fresh cap (inr many.1)
  ]

pub refused_within : (m : Labelled) (h : History) (fresh : ℕ) (e : RestError) → IsRestRefusal (rest m h fresh) e → e ≡ TooManyConstraints
    → is_within_limits m h fresh ≡ false
refused_within m h fresh e refusal is = elim refusal [
  | inl none ↦ let number = ap rest_number is in absurd (omega arith)
  | inr many ↦ many_within m h fresh many.1
]

-- what is true of the session with these parts
pub followed_session : (e : ExecutionParts) (cap edits : ℕ) (finding : Finding) → IsFollowed e cap edits finding → IsSession (session_parts e cap edits finding)
followed_session e cap edits finding good = record {
  execution = good.execution;
  few_edits = good.few_edits;
  low = good.low;
  verdict = good.verdict;
}

-- what is carried out, with what was found of what is left of it, is followed as it is to be
pub is_followed : (e y : ExecutionParts) (cap edits : ℕ) (f : Finding) → y ≡ e → IsExecution y → edits ≤ most_edits → e.fresh ≤ 2 ^ 31 + edits
    → IsFindingOn cap (lowered (execution_left e)) f → verdict_left (the_labelled e.network) (the_history e.history) e.fresh cap ≡ Some (verdict_of f)
    → IsFollowed y cap edits f
is_followed e y cap edits f is execution few low found verdict = record {
  execution = execution;
  few_edits = few;
  low = subst (λ (z : ExecutionParts). z.fresh ≤ 2 ^ 31 + edits) (sym is) low;
  found = subst (λ (z : ExecutionParts). IsFindingOn cap (lowered (execution_left z)) f) (sym is) found;
  verdict = subst (λ (z : ExecutionParts). verdict_left (the_labelled z.network) (the_history z.history) z.fresh cap ≡ Some (verdict_of f)) (sym is) verdict;
}

timely : (e : ExecutionParts) → IsExecution e → IsTimelyHistory (the_labelled e.network) (the_history e.history)
timely e good = record { history = good.kept.history; in_time = good.kept.in_time }

-- the verdict of a session is right
pub right_verdict : (s : SessionParts) (v : Verdict) → IsSession s → s.verdict ≡ v → IsRightNow s v
right_verdict s v good is =
    verdict_right (the_labelled s.network) (the_history s.history) s.fresh s.cap v good.execution.labelled (timely (execution_of s) good.execution)
    good.execution.above (good.verdict ∙ ap Some is)

pub found_right : (e : ExecutionParts) (cap edits : ℕ) (f : Finding) (v : Verdict) → IsFollowed e cap edits f → v ≡ verdict_of f
    → IsRightNow (session_parts e cap edits f) v
found_right e cap edits f v good is = right_verdict (session_parts e cap edits f) v (followed_session e cap edits f good) (sym is)

-- there is room for what is left
pub room_left : (s : SessionParts) → IsSession s → HasFewConstraints (rest (the_labelled s.network) (the_history s.history) s.fresh)
room_left s good = (left_says (the_labelled s.network) (the_history s.history) s.fresh s.cap s.verdict good.verdict).0

-- what a plan, or a refutation, that was found says of what is left
pub planned_says : (e : ExecutionParts) (cap edits : ℕ) (f : Finding) (load : ℕ) (plan : PlanParts) → IsFollowed e cap edits f → f ≡ Planned load plan
    → (verdict_of f ≡ Yes load) × (the_network plan.net ≡ lowered (execution_left e)) × (the_bounds plan.bounds ≡ live_bounds (log_of (lowered (execution_left e))))
planned_says e cap edits f load plan good is =
    let found = subst (λ (g : Finding). IsFindingOn cap (lowered (execution_left e)) g) is good.found in
    (ap verdict_of is, found.1, found.2)

pub refuted_says : (e : ExecutionParts) (cap edits : ℕ) (f : Finding) (r : RefutationParts) → IsFollowed e cap edits f → f ≡ Refuted r
    → IsLeftRefuted (session_parts e cap edits f) r
refuted_says e cap edits f r good is =
    let found = subst (λ (g : Finding). IsFindingOn cap (lowered (execution_left e)) g) is good.found in
    (ap verdict_of is, found.1, found.2)

-- what is left is a labelled network in order
pub left_in_order : (s : SessionParts) → IsSession s → IsLabelled (execution_left (execution_of s))
left_in_order s good =
    left_labelled (the_labelled s.network) (the_history s.history) s.fresh s.cap s.verdict good.verdict good.execution.labelled
    (timely (execution_of s) good.execution) good.execution.above

-- a plan of what is left is one for the parts of the session
pub planned_left : (s : SessionParts) (network : LabelledParts) (history : HistoryParts) (net : Network) → IsSession s → network ≡ s.network
    → history ≡ s.history → net ≡ lowered (execution_left (execution_of s)) → (fresh : ℕ) × IsLabelled (rest (the_labelled network) (the_history history) fresh)
    × (net ≡ lowered (rest (the_labelled network) (the_history history) fresh))
planned_left s network history net good is_network is_history is =
    subst (λ (h : HistoryParts). (fresh : ℕ) × IsLabelled (rest (the_labelled network) (the_history h) fresh)
    × (net ≡ lowered (rest (the_labelled network) (the_history h) fresh))) (sym is_history)
    (subst (λ (l : LabelledParts). (fresh : ℕ) × IsLabelled (rest (the_labelled l) (the_history s.history) fresh)
    × (net ≡ lowered (rest (the_labelled l) (the_history s.history) fresh))) (sym is_network) (s.fresh, left_in_order s good, is))

-- after a yes the history can go on, and after a no it can't
pub can_go_on : (s : SessionParts) → IsSession s → SaidYes s → Can (the_labelled s.network) (the_history s.history)
can_go_on s good said = right_verdict s (Yes said.0) good said.1

pub cannot_go_on : (s : SessionParts) → IsSession s → SaidNo s → Can (the_labelled s.network) (the_history s.history) → ⊥
cannot_go_on s good said = right_verdict s (No said.0) good said.1

lt_is : (n : ℕ) → nat_lt n most_constraints ≡ true → n < most_constraints
lt_is n is = grind arith

-- what is left has room for one constraint more, as the test says
pub room_to_wait : (m : Labelled) (h : History) (fresh : ℕ) (l : Labelled) → l ≡ rest m h fresh
    → (nat_lt (length l.base.constraints) most_constraints && nat_lt (length (lowered l).constraints) most_constraints) ≡ true → HasRoomToWait m h fresh
room_to_wait m h fresh l same is =
    let two = and_parts _ _ is in
    record {
      base = subst (λ (k : Labelled). length k.base.constraints < most_constraints) same (lt_is (length l.base.constraints) two.0);
      lowered = subst (λ (k : Labelled). length (lowered k).constraints < most_constraints) same (lt_is (length (lowered l).constraints) two.1);
    }
