-- Sessions with marks, which lead back to where they were set.
use Rattle.std.specs.Prelude.{ℕ, suc, nat_lt, ◌++◌, List, [], ◌∷◌, length, Option, None, Some, if◌then◌else◌, codes, decimal, bytes_eq}
use Rattle.std.specs.Option.{option_map, option_and_then}
use Rattle.cstn_lift.specs.Labelled.{Labelled}
use Rattle.cstn_reply.specs.Texts.{Said, line}
use Rattle.cstn_reply.specs.Sessions.{Turn, more}
use Rattle.cstn_follow.specs.Words.{behind_word}
use Rattle.cstn_follow.specs.Digests.{shown}
use Rattle.cstn_follow.specs.Following.{Following, Heard, says, saves, begun_following, following_ending}
use Rattle.cstn_follow.specs.Hearing.{counted, on_other}
use Rattle.cstn_follow.specs.Trials.{Triable, the_triable, triable_read, on_triable, on_try}
use Rattle.cstn_follow.specs.Turns.{Writing}
use Rattle.cstn_follow.specs.declared.marked.Saying.{Saying as SayingLine}
use Rattle.cstn_follow.specs.declared.marked.Saying.TheVariants.{Line, Try, Mark, Back}

-- what a line of a session with marks says: what one without marks can say, or to try this, to set a mark, or to go back to the last one
pub data Saying : Type 0 where
  of_triable : Triable → Saying
  tries : Triable → Saying
  sets_mark : Saying
  goes_back : Saying

abbrev pub the_saying : SayingLine → Saying
the_saying (Line line) = of_triable (the_triable line)
the_saying (Try line) = tries (the_triable line)
the_saying Mark = sets_mark
the_saying Back = goes_back

-- `try ` and a line that can be tried
abbrev pub try_read : List ℕ → Option Triable
try_read bytes = option_and_then triable_read (behind_word (codes "try ") bytes)

-- what a line says that says this, or else tries a line, sets a mark or goes back
abbrev pub saying_by : Option Triable → List ℕ → Option Saying
saying_by (Some line) bytes = Some (of_triable line)
saying_by None bytes =
    if bytes_eq bytes (codes "mark") then Some sets_mark
    else if bytes_eq bytes (codes "back") then Some goes_back
    else option_map tries (try_read bytes)

abbrev pub saying_read : List ℕ → Option Saying
saying_read bytes = saying_by (triable_read bytes) bytes

-- a session with marks: the session as it is, and as it was where each mark was set, the last one first
pub record Marked : Type 0 where
  pub now : Following
  pub marks : List Following

-- a session that begins has no marks
abbrev pub begun_marked : ℕ → List (List ℕ) → Labelled → Marked
begun_marked cap names m = record { now = begun_following cap names m; marks = [] }

-- how many marks there may be
abbrev pub most_marks : ℕ
most_marks = 8

-- what is said to a line, with the session that follows, and the marks that there are then
pub record MarkedHeard : Type 0 where
  pub heard : Heard
  pub marks : List Following

-- `mark`: the session may be led back to where it is; or M1, where there are 8 marks
abbrev pub on_mark : Following → List Following → MarkedHeard
on_mark s marks =
    if nat_lt (length marks) most_marks then record { heard = says (line (codes "mark " ++ decimal (suc (length marks)))) s; marks = s ∷ marks }
    else record { heard = says (line (codes "refused M1")) s; marks = marks }

-- `back`: the session is as it was at the last mark, which is gone, but for the count of lines; or M2, where there is no mark
abbrev pub on_back : Following → List Following → MarkedHeard
on_back s [] = record { heard = says (line (codes "refused M2")) s; marks = [] }
on_back s (mark ∷ marks) =
    record { heard = says (line (codes "back " ++ decimal (length marks))) (record mark { lines = s.lines }); marks = marks }

-- what is said to a line, where it is one of the session
abbrev pub on_saying : Following → List Following → Option Saying → MarkedHeard
on_saying s marks None = record { heard = on_other s; marks = marks }
on_saying s marks (Some (of_triable line)) = record { heard = on_triable s line; marks = marks }
on_saying s marks (Some (tries line)) = record { heard = on_try s line; marks = marks }
on_saying s marks (Some sets_mark) = on_mark s marks
on_saying s marks (Some goes_back) = on_back s marks

-- what is said to the next line
abbrev pub hear_marked : Marked → Option Saying → MarkedHeard
hear_marked t said = on_saying (counted t.now) t.marks said

-- ---- turns

-- what is said to a line is a text, or what is shown of a document
abbrev pub marked_by : Writing → Heard → List Following → Turn Marked
marked_by write (says text next) marks = more text (record { now = next; marks = marks })
marked_by write (saves how m names next) marks = more (shown how (write m names)) (record { now = next; marks = marks })

-- the answer to a line, which may be none of the session
abbrev pub marked_turn_by : Writing → Marked → List ℕ → Turn Marked
marked_turn_by write t text = marked_by write (hear_marked t (saying_read text)).heard (hear_marked t (saying_read text)).marks

-- what is said where the lines end
abbrev pub marked_ending : Marked → Said
marked_ending t = following_ending t.now
