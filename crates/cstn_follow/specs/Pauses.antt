-- Until when nothing at all may happen.
use Rattle.std.specs.Prelude.{ℕ, ◌≡◌, ◌<◌, ◌≤◌, ◌⊎◌, Bool, true, false, ◌&&◌, not, max, Option, None, Some, if◌then◌else◌}
use Rattle.cstn_net.specs.Limits.{most_deadline}
use Rattle.cstn_net.specs.Networks.{count}
use Rattle.cstn_lift.specs.Labelled.{Labelled}
use Rattle.cstn_lift.specs.Completion.{completed_label}
use Rattle.cstn_lift.specs.Lowered.{lowered}
use Rattle.cstn_check.specs.Growth.{load_of}
use Rattle.cstn_check.specs.Search.{halving}
use Rattle.cstn_check.specs.declared.verdicts.Verdict.{Verdict}
use Rattle.cstn_check.specs.declared.verdicts.Verdict.TheVariants.{Yes, No, Full}
use Rattle.cstn_history.specs.Continuations.{Can}
use Rattle.cstn_history.specs.Facts.{at_now}
use Rattle.cstn_history.specs.Histories.{History, is_done, allows}
use Rattle.cstn_history.specs.Rest.{rest}
use Rattle.cstn_next.specs.Next.{IsAllDone}
use Rattle.cstn_follow.specs.Following.{any_below, is_open, is_within_limits, verdict_left}
use Rattle.cstn_follow.specs.declared.answers.Pause.{Pause}
use Rattle.cstn_follow.specs.declared.answers.Pause.TheVariants.{Until, Finished, TooManyConstraints, Impossible, Unknown}

-- what a verdict says of whether what has happened can go on; nothing where there is none, or it is full
abbrev pub said_of : Option Verdict → Option Bool
said_of None = None
said_of (Some (Yes load)) = Some true
said_of (Some (No load)) = Some false
said_of (Some Full) = None

-- the time-point is left to be done
abbrev pub is_undone : Labelled → History → ℕ → Bool
is_undone m h x = not (is_done h x) && allows h (completed_label m x)

abbrev pub is_any_undone : Labelled → History → Bool
is_any_undone m h = any_below (is_undone m h) (count m.base)

-- something is left: a time-point to be done, or an outcome to be told
abbrev pub is_any_left : Labelled → History → Bool
is_any_left m h = any_below (is_open m h) (count m.base)

-- nothing may happen until t: when time passes up to t, from now on and up to 1,000,000, the history can go on, and with no later moment
pub record IsLastNow (m : Labelled) (h : History) (t : ℕ) : Type 0 where
  pub from : h.now ≤ t
  pub upto : t ≤ most_deadline
  pub goes : Can m (at_now h t)
  pub last : (u : ℕ) → u ≤ most_deadline → Can m (at_now h u) → u ≤ t

-- what is said of what is left when it is t now, or when it is now where that is later
abbrev pub said_at : Labelled → History → ℕ → ℕ → ℕ → Option Bool
said_at m h fresh cap t = said_of (verdict_left m (at_now h (max h.now t)) fresh cap)

-- until when nothing may happen, from now up to the deadline, by at most 20 tries, where a time-point is left to be done, and else
-- 1,000,000; none where a log that was tried is full
abbrev pub pause_found : Labelled → History → ℕ → ℕ → Option ℕ
pause_found m h fresh cap =
    if is_any_undone m h then halving (said_at m h fresh cap) 20 (record { low = h.now; high = m.base.deadline }) else Some most_deadline

-- F8 doesn't apply to a later `now`
abbrev pub has_room_later : Labelled → History → ℕ → Bool
has_room_later m h fresh = is_within_limits m (at_now h (max h.now 1)) fresh

-- the answer: by what is found after a yes where something is left
abbrev pub pause_until : Option ℕ → Pause
pause_until None = Unknown
pause_until (Some t) = Until t

abbrev pub pause_after : Labelled → History → ℕ → ℕ → Pause
pause_after m h fresh cap = if is_any_left m h then pause_until (pause_found m h fresh cap) else Finished

abbrev pub pause_by : Labelled → History → ℕ → ℕ → Verdict → Pause
pause_by m h fresh cap (Yes load) = pause_after m h fresh cap
pause_by m h fresh cap (No load) = Impossible
pause_by m h fresh cap Full = Unknown

abbrev pub pause_of : Labelled → History → ℕ → ℕ → Verdict → Pause
pause_of m h fresh cap v = if has_room_later m h fresh then pause_by m h fresh cap v else TooManyConstraints

-- the log of what is left, as it is or at another moment, has more entries than it may
abbrev pub IsPauseFull : Labelled → History → ℕ → ℕ → Type 0
IsPauseFull m h fresh cap = (cap < load_of (lowered (rest m h fresh))) ⊎ ((t : ℕ) × (cap < load_of (lowered (rest m (at_now h t) fresh))))

-- the answer is right: nothing may happen until this moment and no longer; or nothing is left; or at a later moment there are too many
-- constraints; or no table continues the history; or a log that is tried is full
abbrev pub IsRightPause : Labelled → History → ℕ → ℕ → Pause → Type 0
IsRightPause m h fresh cap (Until t) = IsLastNow m h t
IsRightPause m h fresh cap Finished = Can m h × IsAllDone m h
IsRightPause m h fresh cap TooManyConstraints = has_room_later m h fresh ≡ false
IsRightPause m h fresh cap Impossible = Can m h → ⊥
IsRightPause m h fresh cap Unknown = IsPauseFull m h fresh cap
