-- Sessions that follow what happens: what contracts see of one, and what its calls make of it.
use Rattle.std.specs.Prelude.{ℕ, ◌≡◌, ◌≤◌, ◌+◌, ◌^◌, None, Some, Result, Ok, Err}
use Rattle.cstn_net.specs.Limits.{most_edits}
use Rattle.cstn_lift.specs.Lowered.{lowered}
use Rattle.cstn_lift.specs.Read.{LabelledParts, the_labelled}
use Rattle.cstn_check.specs.declared.verdicts.Verdict.{Verdict}
use Rattle.cstn_history.specs.declared.errors.RestError.{RestError}
use Rattle.cstn_history.specs.declared.errors.RestError.TheVariants.{TooManyConstraints as IsTooMany, Memory as IsMemory}
use Rattle.cstn_history.specs.Facts.{FactRefusal}
use Rattle.cstn_history.specs.Histories.{History}
use Rattle.cstn_history.specs.Read.{HistoryParts, the_history, the_fact_refusal}
use Rattle.cstn_follow.specs.Executions.{ExecutionParts, IsExecution, execution_left}
use Rattle.cstn_follow.specs.Findings.{verdict_of, IsFindingOn}
use Rattle.cstn_follow.specs.Following.{verdict_left, IsRightVerdict}
use Rattle.cstn_follow.specs.declared.errors.FollowError.{FollowError}
use Rattle.cstn_follow.specs.declared.errors.FollowError.TheVariants.{Refused, TooManyConstraints, Memory}
use Rattle.cstn_follow.specs.declared.findings.Finding.{Finding}

-- what contracts see of a session: the labelled network as edited, what has happened, how many entries a log may have, how many
-- edits were accepted, an id above all that constraints ever had, and the verdict on what is left
pub record SessionParts : Type 0 where
  pub network : LabelledParts
  pub history : HistoryParts
  pub cap : ℕ
  pub edits : ℕ
  pub fresh : ℕ
  pub verdict : Verdict

-- what is carried out
abbrev pub execution_of : SessionParts → ExecutionParts
execution_of s = record { network = s.network; history = s.history; fresh = s.fresh }

-- the parts of what is carried out, with how many entries a log may have, how many edits were accepted, and what was found
abbrev pub session_parts : ExecutionParts → ℕ → ℕ → Finding → SessionParts
session_parts e cap edits finding = record {
  network = e.network;
  history = e.history;
  cap = cap;
  edits = edits;
  fresh = e.fresh;
  verdict = verdict_of finding;
}

-- numbers are in range, and the finding is the one of what is left, which has no more constraints than it may
pub record IsFollowed (e : ExecutionParts) (cap edits : ℕ) (finding : Finding) : Type 0 where
  pub execution : IsExecution e
  pub few_edits : edits ≤ most_edits
  pub low : e.fresh ≤ 2 ^ 31 + edits
  pub found : IsFindingOn cap (lowered (execution_left e)) finding
  pub verdict : verdict_left (the_labelled e.network) (the_history e.history) e.fresh cap ≡ Some (verdict_of finding)

-- what is true of each session
pub record IsSession (s : SessionParts) : Type 0 where
  pub execution : IsExecution (execution_of s)
  pub few_edits : s.edits ≤ most_edits
  pub low : s.fresh ≤ 2 ^ 31 + s.edits
  pub verdict : verdict_left (the_labelled s.network) (the_history s.history) s.fresh s.cap ≡ Some s.verdict

-- a verdict is true of what has happened in a session
abbrev pub IsRightNow : SessionParts → Verdict → Type 0
IsRightNow s v = IsRightVerdict (the_labelled s.network) (the_history s.history) s.fresh s.cap v

-- What a call that is told facts makes of a session, where these are what has happened then, or why they are refused: they are
-- recorded, with the verdict on what is left then; or nothing has changed, since they are refused, or too many constraints would
-- be left, or memory is.
abbrev pub Records : Result History FactRefusal → SessionParts → SessionParts → Result Verdict FollowError → Type 0
Records told old new (Ok v) =
    (told ≡ Ok (the_history new.history)) × (new ≡ record old { history = new.history; verdict = v })
    × (verdict_left (the_labelled old.network) (the_history new.history) old.fresh old.cap ≡ Some v)
Records told old new (Err (Refused e)) = (told ≡ Err (the_fact_refusal e)) × (new ≡ old)
Records told old new (Err TooManyConstraints) =
    ((later : History) × (told ≡ Ok later) × (verdict_left (the_labelled old.network) later old.fresh old.cap ≡ None)) × (new ≡ old)
Records told old new (Err (Memory e)) = new ≡ old

-- why facts aren't recorded, by why there is no network of what is left
abbrev pub unrecorded : RestError → FollowError
unrecorded IsTooMany = TooManyConstraints
unrecorded (IsMemory e) = Memory e
