-- What a session that follows says to a line.
use Rattle.std.specs.Prelude.{ℕ, suc, min, ◌++◌, Option, None, Some, codes, decimal, if◌then◌else◌, nat_lt}
use Rattle.cstn_net.specs.Limits.{most_deadline}
use Rattle.cstn_lines.specs.EditLines.{Edit, added, removed, changed, asked}
use Rattle.cstn_lines.specs.FollowLines.{Follow, done_at, came_at, now_at, awaited_at, ready_at, edits, ends_by, asks_next, asks_by, asks_blame, asks_rest}
use Rattle.cstn_reply.specs.Texts.{line}
use Rattle.cstn_follow.specs.Amending.{Amendment, forgives, steps}
use Rattle.cstn_follow.specs.Asking.{Spoken, of_line, of_question, of_amendment, asks_digest}
use Rattle.cstn_follow.specs.Following.{Following, Heard, says}
use Rattle.cstn_follow.specs.Further.{on_asked}
use Rattle.cstn_follow.specs.FactLines.{on_did, on_saw, on_now, on_await, on_expect}
use Rattle.cstn_follow.specs.ForgivingLines.{on_forgive}
use Rattle.cstn_follow.specs.StepLines.{on_step}
use Rattle.cstn_follow.specs.PlanLines.{on_add, on_remove, on_change, on_deadline}
use Rattle.cstn_follow.specs.Questions.{on_next, on_check, on_rest, on_digest}
use Rattle.cstn_follow.specs.Searches.{on_by, on_blame}

-- what is said to an edit or a check
abbrev pub on_plan : Following → Edit → Heard
on_plan s (added from to most a) = on_add s from to most a
on_plan s (removed id) = on_remove s id
on_plan s (changed id most) = on_change s id most
on_plan s asked = on_check s

-- what is said to a line that is no line of the session
abbrev pub on_other : Following → Heard
on_other s = says (line (codes "refused line " ++ decimal s.lines)) s

-- what is said to a deadline, which is one of the session up to 1,000,000
abbrev pub on_ends_by : Following → ℕ → Heard
on_ends_by s deadline = if nat_lt most_deadline deadline then on_other s else on_deadline s deadline

-- what is said to a line that tells, edits or asks
abbrev pub on_follow : Following → Follow → Heard
on_follow s (done_at t names) = on_did s t names
on_follow s (came_at t p v) = on_saw s t p v
on_follow s (now_at t) = on_now s t
on_follow s (awaited_at t p) = on_await s t p
on_follow s (ready_at t name) = on_expect s t name
on_follow s (edits edit) = on_plan s edit
on_follow s (ends_by deadline) = on_ends_by s deadline
on_follow s asks_next = on_next s
on_follow s (asks_by name) = on_by s name
on_follow s asks_blame = on_blame s
on_follow s asks_rest = on_rest s

-- what is said to an amendment
abbrev pub on_amendment : Following → Amendment → Heard
on_amendment s forgives = on_forgive s
on_amendment s (steps name) = on_step s name

-- what is said to a line, where it is one of the session
abbrev pub on_line : Following → Option Spoken → Heard
on_line s None = on_other s
on_line s (Some (of_line line)) = on_follow s line
on_line s (Some (of_question question)) = on_asked s question
on_line s (Some (of_amendment amendment)) = on_amendment s amendment
on_line s (Some asks_digest) = on_digest s

-- the session that has heard one line more; there are never more than 16,777,217
abbrev pub counted : Following → Following
counted s = record s { lines = min (suc s.lines) 16777217 }

-- what is said to the next line
abbrev pub hear : Following → Option Spoken → Heard
hear s said = on_line (counted s) said
