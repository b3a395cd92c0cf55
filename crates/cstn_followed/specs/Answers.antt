-- What is answered to facts and questions in a session that follows, in the words of plans and histories.
use Rattle.std.specs.Prelude.{ℕ, ◌≡◌, ◌<◌, ◌⊎◌, ◌↔◌, Bool, List, ◌++◌, Option, None, Some, codes}
use Rattle.std.specs.List.{Contains}
use Rattle.std.specs.List.Sorted.{IsStrictlyIncreasing}
use Rattle.cstn_lift.specs.Labelled.{Labelled}
use Rattle.cstn_lift.specs.Lowered.{lowered}
use Rattle.cstn_check.specs.Growth.{load_of}
use Rattle.cstn_check.specs.declared.verdicts.Verdict.{Verdict}
use Rattle.cstn_check.specs.declared.verdicts.Verdict.TheVariants.{Yes, No, Full}
use Rattle.cstn_history.specs.Histories.{History}
use Rattle.cstn_history.specs.Continuations.{IsNamed, IsAwaited, IsNext}
use Rattle.cstn_history.specs.Rest.{rest}
use Rattle.cstn_next.specs.Next.{IsAllDone}
use Rattle.cstn_lines.specs.FollowLines.{Follow}
use Rattle.cstn_reply.specs.Texts.{line, full_line}
use Rattle.cstn_follow.specs.Answers.{IsLatest, AreToBlame}
use Rattle.cstn_follow.specs.Following.{Following, verdict_now, verdict_line}
use Rattle.cstn_follow.specs.FactLines.{unknown_name}
use Rattle.cstn_follow.specs.Hearing.{counted}
use Rattle.cstn_follow.specs.Questions.{next_text}
use Rattle.cstn_follow.specs.Searches.{by_refusal, by_line, ids_text}
use Rattle.cstn_follow.specs.Waiting.{rest_until, waits_until}
use Rattle.cstn_check.specs.Givers.{ids_of}
use Rattle.cstn_follow.specs.Blame.{network_alone, ids_to_blame}
use Rattle.cstn_follow.specs.Recorded.{IsRecorded}
use Rattle.cstn_follow.specs.Turns.{IsTrueOfSession}

-- ---- facts

-- the fact is recorded, and nothing else but the count of lines changes; the text is the line of the verdict on what is left then,
-- which is true
pub record Accepts (s : Following) (fact : Follow) (text : List ℕ) (next : Following) : Type 0 where
  pub later : History
  pub recorded : IsRecorded s.names s.history fact later
  pub next_is : next ≡ record (counted s) { history = later }
  pub text_is : text ≡ verdict_line s.cap (verdict_now next)
  pub is_true : IsTrueOfSession next (verdict_now next)

-- ---- what is next

-- t is the next moment; these time-points are named at it, and these outcomes are awaited at it, both in ascending number
pub record IsNextOf (m : Labelled) (h : History) (t : ℕ) (steps outcomes : List ℕ) : Type 0 where
  pub next : IsNext m h t
  pub named : (x : ℕ) → Contains steps x ↔ IsNamed m h t x
  pub awaited : (p : ℕ) → Contains outcomes p ↔ IsAwaited m h t p
  pub ascending : IsStrictlyIncreasing steps × IsStrictlyIncreasing outcomes

-- after yes the text is `done` where nothing is left, and else tells what is next; after no and full it is the line of the verdict
abbrev pub AnswersNext : Following → Verdict → List ℕ → Type 0
AnswersNext s (Yes load) text =
    (IsAllDone s.network s.history × (text ≡ line (codes "done")))
    ⊎ ((t : ℕ) × (steps : List ℕ) × (outcomes : List ℕ) × IsNextOf s.network s.history t steps outcomes
    × (text ≡ line (next_text s.names t steps outcomes)))
AnswersNext s (No load) text = text ≡ verdict_line s.cap (No load)
AnswersNext s Full text = text ≡ verdict_line s.cap Full

-- ---- until when

-- the search by halving tries x at some moment or later, and the log of what is left then has more entries than it may
abbrev pub IsWaitFull : Following → ℕ → Type 0
IsWaitFull s x =
    (waits_until s.network s.history s.fresh x s.cap ≡ None)
    × ((t : ℕ) × (s.cap < load_of (lowered (rest_until s.network s.history s.fresh x t))))

-- after yes the text tells the last moment until which x can wait, or that a log is full; after no and full it is the line of the verdict
abbrev pub AnswersWait : Following → ℕ → Verdict → List ℕ → Type 0
AnswersWait s x (Yes load) text =
    ((t : ℕ) × IsLatest s.network s.history x t × (text ≡ by_line s.names t x)) ⊎ (IsWaitFull s x × (text ≡ full_line s.cap))
AnswersWait s x (No load) text = text ≡ verdict_line s.cap (No load)
AnswersWait s x Full text = text ≡ verdict_line s.cap Full

-- where it isn't told until when x can wait, the text is the refusal, and else the answer
abbrev pub UnlessRefused : Following → ℕ → Option (List ℕ) → List ℕ → Type 0
UnlessRefused s x (Some refusal) text = text ≡ refusal
UnlessRefused s x None text = AnswersWait s x (verdict_now s) text

-- the name is no time-point's, or it is told until when the time-point can wait unless that is refused
abbrev pub AnswersBy : Following → List ℕ → Option ℕ → List ℕ → Type 0
AnswersBy s name None text = text ≡ line (unknown_name name)
AnswersBy s name (Some x) text = UnlessRefused s x (by_refusal s x (s.history.done x)) text

-- ---- which constraints

-- each id is one of a constraint
abbrev pub AreOwn : Labelled → List ℕ → Type 0
AreOwn m ids = (id : ℕ) → Contains ids id → Contains (ids_of m.base) id

-- the search that leaves out one id after the other tries some of the constraints alone, and the log of what is left by them has more
-- entries than it may
abbrev pub IsBlameFull : Following → Type 0
IsBlameFull s =
    (ids_to_blame s.network s.history s.fresh s.cap ≡ None)
    × ((test : ℕ → Bool) × (s.cap < load_of (lowered (rest (network_alone s.network test) s.history s.fresh))))

-- after no the text tells which ids are to blame, or that a log is full; after yes and full it is the line of the verdict
abbrev pub AnswersBlame : Following → Verdict → List ℕ → Type 0
AnswersBlame s (Yes load) text = text ≡ verdict_line s.cap (Yes load)
AnswersBlame s (No load) text =
    ((ids : List ℕ) × AreToBlame s.network s.history ids × AreOwn s.network ids × (text ≡ line (codes "blame" ++ ids_text ids)))
    ⊎ (IsBlameFull s × (text ≡ full_line s.cap))
AnswersBlame s Full text = text ≡ verdict_line s.cap Full
