-- Following what happens: a labelled network is told facts and edits, and asked what is next.
use Rattle.std.specs.Prelude.{ℕ, zero, suc, ◌<◌, Bool, false, ◌&&◌, ◌||◌, nat_le, List, [], ◌++◌, length, map, slice_index_or, Option, None, Some}
use Rattle.std.specs.Prelude.{if◌then◌else◌, codes, decimal}
use Rattle.std.specs.Option.{is_some}
use Rattle.cstn_net.specs.Limits.{most_constraints}
use Rattle.cstn_net.specs.Networks.{Network, count}
use Rattle.cstn_lift.specs.Labelled.{Labelled}
use Rattle.cstn_lift.specs.Completion.{completed_label}
use Rattle.cstn_lift.specs.Lowered.{lowered}
use Rattle.cstn_check.specs.Growth.{load_of}
use Rattle.cstn_check.specs.Decisions.{verdict}
use Rattle.cstn_check.specs.declared.verdicts.Verdict.{Verdict}
use Rattle.cstn_check.specs.declared.verdicts.Verdict.TheVariants.{Yes, No, Full as IsFull}
use Rattle.cstn_history.specs.Continuations.{Can}
use Rattle.cstn_history.specs.Histories.{History, nothing_yet, is_done, allows}
use Rattle.cstn_history.specs.Rest.{left, rest, sight_left}
use Rattle.cstn_change.specs.Changes.{id_above}
use Rattle.cstn_reply.specs.Texts.{Said, line, say, yes_line, full_line}
use Rattle.cstn_reply.specs.declared.output.Outcome.{Outcome}
use Rattle.cstn_reply.specs.declared.output.Outcome.TheVariants.{Good, Bad, Full, Unfinished}

-- a session: the labelled network as edited, the names of its time-points, what has happened, how many entries a log may have, how
-- many edits were accepted, an id above all ids ever used, and how many lines were heard
pub record Following : Type 0 where
  pub network : Labelled
  pub names : List (List ℕ)
  pub history : History
  pub cap : ℕ
  pub edits : ℕ
  pub fresh : ℕ
  pub lines : ℕ

-- a session that begins: nothing has happened yet
abbrev pub begun_following : ℕ → List (List ℕ) → Labelled → Following
begun_following cap names m = record {
  network = m;
  names = names;
  history = nothing_yet;
  cap = cap;
  edits = 0;
  fresh = id_above m.base.constraints;
  lines = 0;
}

-- what is left, and the names of its time-points
abbrev pub left_now : Following → Labelled
left_now s = rest s.network s.history s.fresh

abbrev pub name_of_point : List (List ℕ) → ℕ → List ℕ
name_of_point names x = slice_index_or names x []

abbrev pub names_left : Following → List (List ℕ)
names_left s = map (name_of_point s.names) (left s.network s.history)

-- the verdict on what is left
abbrev pub verdict_now : Following → Verdict
verdict_now s = verdict s.cap (lowered (left_now s))

-- F8 doesn't apply: a labelled network, lowered, and what is left of it, also lowered, have at most 16,384 constraints each
abbrev pub has_few : Network → Bool
has_few net = nat_le (length net.constraints) most_constraints

abbrev pub is_within_limits : Labelled → History → ℕ → Bool
is_within_limits m h fresh = has_few (lowered m) && (has_few (rest m h fresh).base && has_few (lowered (rest m h fresh)))

-- the verdict on what is left, where there are no more constraints than that
abbrev pub verdict_left : Labelled → History → ℕ → ℕ → Option Verdict
verdict_left m h fresh cap = if is_within_limits m h fresh then Some (verdict cap (lowered (rest m h fresh))) else None

-- a verdict on what is left is right: some table continues what has happened, or none does, or the log of what is left, lowered, has
-- more entries than it may
abbrev pub IsRightVerdict : Labelled → History → ℕ → ℕ → Verdict → Type 0
IsRightVerdict m h fresh cap (Yes load) = Can m h
IsRightVerdict m h fresh cap (No load) = Can m h → ⊥
IsRightVerdict m h fresh cap IsFull = cap < load_of (lowered (rest m h fresh))

abbrev pub verdict_within : Following → Option Verdict
verdict_within s = verdict_left s.network s.history s.fresh s.cap

-- how a document is shown: as it is, or by its digest alone
pub data Showing : Type 0 where
  in_full : Showing
  by_digest : Showing

-- what is said to a line: a text, or the document of a labelled network, whose time-points have these names, shown so; and the session
-- that follows
pub data Heard : Type 0 where
  says : List ℕ → Following → Heard
  saves : Showing → Labelled → List (List ℕ) → Following → Heard

-- the line of a verdict
abbrev pub verdict_line : ℕ → Verdict → List ℕ
verdict_line cap (Yes load) = yes_line load
verdict_line cap (No load) = line (codes "no " ++ decimal load)
verdict_line cap IsFull = full_line cap

-- F8, for a session that can't follow
abbrev pub too_many : List ℕ
too_many = line (codes "refused F8")

-- the session that follows, of which this is said by its verdict, if it has one
abbrev pub on_left_verdict : Following → Following → (Verdict → List ℕ) → Option Verdict → Heard
on_left_verdict s next text None = says too_many s
on_left_verdict s next text (Some v) = says (text v) next

abbrev pub follows : Following → Following → (Verdict → List ℕ) → Heard
follows s next text = on_left_verdict s next text (verdict_within next)

-- the time-point is left to be executed, or its outcome is left to be told
abbrev pub is_open : Labelled → History → ℕ → Bool
is_open m h x = if is_done h x then is_some (sight_left m h x) else allows h (completed_label m x)

-- some number below n passes the test
abbrev pub any_below : (ℕ → Bool) → ℕ → Bool
any_below test zero = false
any_below test (suc n) = any_below test n || test n

-- something is left
abbrev pub is_any_open : Following → Bool
is_any_open s = any_below (is_open s.network s.history) (count s.network.base)

-- how a session ends, by its verdict
abbrev pub outcome_by : Verdict → Outcome
outcome_by (Yes load) = Good
outcome_by (No load) = Bad
outcome_by IsFull = Full

-- what is said where the lines end
abbrev pub following_ending : Following → Said
following_ending s =
    if is_any_open s then say Unfinished (codes "unfinished " ++ decimal s.history.now)
    else say (outcome_by (verdict_now s)) (codes "done")
