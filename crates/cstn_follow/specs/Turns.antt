-- The turns of a session that follows: what it answers to lines, in whichever way documents are written.
use Rattle.std.specs.Prelude.{ℕ, List}
use Rattle.cstn_lift.specs.Labelled.{Labelled}
use Rattle.cstn_check.specs.declared.verdicts.Verdict.{Verdict}
use Rattle.cstn_reply.specs.Sessions.{Turn, more}
use Rattle.cstn_follow.specs.Asking.{spoken_read}
use Rattle.cstn_follow.specs.Digests.{shown}
use Rattle.cstn_follow.specs.Following.{Following, Heard, says, saves, IsRightVerdict}
use Rattle.cstn_follow.specs.Hearing.{hear}

-- how a labelled network, whose time-points have these names, is written as a document
abbrev pub Writing : Type 0
Writing = Labelled → List (List ℕ) → List ℕ

-- what is said to a line is a text, or what is shown of a document
abbrev pub heard_by : Writing → Heard → Turn Following
heard_by write (says text next) = more text next
heard_by write (saves how m names next) = more (shown how (write m names)) next

-- the answer to a line, which may be none of the session
abbrev pub turn_by : Writing → Following → List ℕ → Turn Following
turn_by write s text = heard_by write (hear s (spoken_read text))

-- a verdict is true of what has happened in a session
abbrev pub IsTrueOfSession : Following → Verdict → Type 0
IsTrueOfSession s v = IsRightVerdict s.network s.history s.fresh s.cap v
