-- A copy of a session is one in order, and so is one with another cap.
use Rattle.std.proofs.Common.{ℕ, ◌≡◌, ◌+◌, ◌^◌, ◌≤◌, List, Some, sym, subst, ap, ◌∙◌}
use Rattle.cstn_lift.specs.Labelled.{Labelled}
use Rattle.cstn_lift.specs.Lowered.{lowered}
use Rattle.cstn_lift.specs.Read.{the_labelled}
use Rattle.cstn_history.specs.Read.{HistoryParts, the_history}
use Rattle.cstn_history.specs.Rest.{rest}
use Rattle.cstn_follow.specs.Copied.{IsSameExecution, IsSameFinding, IsSameSession}
use Rattle.cstn_follow.specs.Executions.{ExecutionParts, IsExecution, execution_left}
use Rattle.cstn_follow.specs.Findings.{IsFindingOn}
use Rattle.cstn_check.specs.Decisions.{verdict}
use Rattle.cstn_check.specs.declared.verdicts.Verdict.{Verdict}
use Rattle.cstn_follow.specs.Following.{Following, says, verdict_left, verdict_line}
use Rattle.cstn_follow.specs.Read.{following_of, the_following}
use Rattle.cstn_follow.specs.Sessions.{SessionParts, IsFollowed, execution_of}
use Rattle.cstn_follow.specs.Trials.{on_cap}
use Rattle.cstn_follow.specs.declared.findings.Finding.{Finding}

left_same : (e y : ExecutionParts) → IsSameExecution e y → execution_left y ≡ execution_left e
left_same e y same =
    ap (λ (l : Labelled). rest l (the_history y.history) y.fresh) same.network
    ∙ ap (λ (h : HistoryParts). rest (the_labelled e.network) (the_history h) y.fresh) same.history
    ∙ ap (λ (n : ℕ). rest (the_labelled e.network) (the_history e.history) n) same.fresh

pub copy_followed : (e y : ExecutionParts) (cap edits : ℕ) (f g : Finding) → IsSameExecution e y → IsExecution y → IsSameFinding f g
    → IsFollowed e cap edits f → IsFollowed y cap edits g
copy_followed e y cap edits f g same execution alike good = record {
  execution = execution;
  few_edits = good.few_edits;
  low = subst (λ (n : ℕ). n ≤ 2 ^ 31 + edits) (sym same.fresh) good.low;
  found = subst (λ (l : Labelled). IsFindingOn cap (lowered l) g) (sym (left_same e y same)) (alike.found cap (lowered (execution_left e)) good.found);
  verdict = ap (λ (l : Labelled). verdict_left l (the_history y.history) y.fresh cap) same.network
      ∙ ap (λ (h : HistoryParts). verdict_left (the_labelled e.network) (the_history h) y.fresh cap) same.history
      ∙ ap (λ (n : ℕ). verdict_left (the_labelled e.network) (the_history e.history) n cap) same.fresh
      ∙ good.verdict ∙ ap Some (sym alike.verdict);
}

-- it is the same session in lines
pub copy_same : (s copy : SessionParts) (names : List (List ℕ)) (lines : ℕ) → IsSameSession s copy
    → the_following (following_of copy names lines) ≡ the_following (following_of s names lines)
copy_same s copy names lines same =
    ap (λ (l : Labelled). made l copy.history copy.cap copy.edits copy.fresh) same.network
    ∙ ap (λ (h : HistoryParts). made (the_labelled s.network) h copy.cap copy.edits copy.fresh) same.history
    ∙ ap (λ (n : ℕ). made (the_labelled s.network) s.history n copy.edits copy.fresh) same.cap
    ∙ ap (λ (n : ℕ). made (the_labelled s.network) s.history s.cap n copy.fresh) same.edits
    ∙ ap (λ (n : ℕ). made (the_labelled s.network) s.history s.cap s.edits n) same.fresh
  where
    made : Labelled → HistoryParts → ℕ → ℕ → ℕ → Following
    made l h cap edits fresh =
        record { network = l; names = names; history = the_history h; cap = cap; edits = edits; fresh = fresh; lines = lines }

-- another cap in the session that takes values is one in the session in lines
pub capped_said : (names : List (List ℕ)) (lines cap : ℕ) (old new : SessionParts) (v : Verdict) (text : List ℕ)
    → v ≡ verdict cap (lowered (execution_left (execution_of old))) → new ≡ record old { cap = cap; verdict = v } → text ≡ verdict_line cap v
    → on_cap (the_following (following_of old names lines)) cap ≡ says text (the_following (following_of new names lines))
capped_said names lines cap old new v text is capped line =
    let s : Following = record (the_following (following_of old names lines)) { cap = cap } in
    ap (λ words. says words s) (ap (verdict_line cap) (sym is) ∙ sym line)
    ∙ ap (λ (x : SessionParts). says text (the_following (following_of x names lines))) (sym capped)
