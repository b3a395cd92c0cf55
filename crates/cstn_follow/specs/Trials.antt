-- What a line would be answered, and another cap.
use Rattle.std.specs.Prelude.{ℕ, Bool, true, false, not, ◌&&◌, List, Option, None, Some, if◌then◌else◌, take, codes, bytes_eq}
use Rattle.std.specs.Option.{option_map, option_and_then}
use Rattle.cstn_net.specs.Limits.{most_load}
use Rattle.cstn_text.specs.Numbers.{number_within}
use Rattle.cstn_lines.specs.EditLines.{added, removed, changed, asked}
use Rattle.cstn_lines.specs.FollowLines.{Follow, done_at, came_at, now_at, awaited_at, ready_at, edits, ends_by, asks_next, asks_by, asks_blame, asks_rest}
use Rattle.cstn_follow.specs.Asking.{Spoken, of_line, of_question, of_amendment, asks_digest, the_spoken, spoken_read}
use Rattle.cstn_follow.specs.Words.{behind_word}
use Rattle.cstn_follow.specs.Following.{Following, Heard, says, saves, verdict_now, verdict_line}
use Rattle.cstn_follow.specs.Hearing.{on_line}
use Rattle.cstn_follow.specs.Questions.{tells_verdict}
use Rattle.cstn_follow.specs.declared.trials.Triable.{Triable as TriableLine}
use Rattle.cstn_follow.specs.declared.trials.Triable.TheVariants.{Line, Cap as CapOf}

-- a line that can be tried: it tells, edits or asks, or sets how many entries a log may have
pub data Triable : Type 0 where
  of_spoken : Spoken → Triable
  sets_cap : ℕ → Triable

abbrev pub the_triable : TriableLine → Triable
the_triable (Line line) = of_spoken (the_spoken line)
the_triable (CapOf cap) = sets_cap cap.entries

-- `cap ` and a number from 1 to 4,194,304
abbrev pub cap_read : List ℕ → Option ℕ
cap_read bytes = option_and_then (number_within 1 most_load) (behind_word (codes "cap ") bytes)

-- what a line says that says this, or else sets the cap
abbrev pub triable_by : Option Spoken → List ℕ → Option Triable
triable_by (Some spoken) bytes = Some (of_spoken spoken)
triable_by None bytes = option_map sets_cap (cap_read bytes)

abbrev pub triable_read : List ℕ → Option Triable
triable_read bytes = triable_by (spoken_read bytes) bytes

-- `cap`: the session has this cap, as if it had been started with it
abbrev pub on_cap : Following → ℕ → Heard
on_cap s cap = tells_verdict (record s { cap = cap })

-- what is said to a line that can be tried
abbrev pub on_triable : Following → Triable → Heard
on_triable s (of_spoken spoken) = on_line s (Some spoken)
on_triable s (sets_cap cap) = on_cap s cap

-- the line is an edit, or a deadline
abbrev pub is_plan_line : Follow → Bool
is_plan_line (edits (added from to most a)) = true
is_plan_line (edits (removed id)) = true
is_plan_line (edits (changed id most)) = true
is_plan_line (edits asked) = false
is_plan_line (ends_by deadline) = true
is_plan_line (done_at t names) = false
is_plan_line (came_at t p v) = false
is_plan_line (now_at t) = false
is_plan_line (awaited_at t p) = false
is_plan_line (ready_at t name) = false
is_plan_line asks_next = false
is_plan_line (asks_by name) = false
is_plan_line asks_blame = false
is_plan_line asks_rest = false

abbrev pub is_replanning : Triable → Bool
is_replanning (of_spoken (of_line line)) = is_plan_line line
is_replanning (of_spoken (of_question question)) = false
is_replanning (of_spoken (of_amendment amendment)) = true
is_replanning (of_spoken asks_digest) = false
is_replanning (sets_cap cap) = false

-- the text refuses a line
abbrev pub is_refusal : List ℕ → Bool
is_refusal text = bytes_eq (take 8 text) (codes "refused ")

-- this text, but where it accepts an edit, an amendment or a deadline the line of the verdict after it
abbrev pub trial_text : Bool → List ℕ → Following → List ℕ
trial_text replans text next = if replans && not (is_refusal text) then verdict_line next.cap (verdict_now next) else text

-- this is said, and the session stays as it is
abbrev pub trial_said : Following → Bool → Heard → Heard
trial_said s replans (says text next) = says (trial_text replans text next) s
trial_said s replans (saves how m names next) = saves how m names s

-- `try`: what the line would be answered
abbrev pub on_try : Following → Triable → Heard
on_try s line = trial_said s (is_replanning line) (on_triable s line)
