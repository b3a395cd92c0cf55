-- Sessions with marks, by the lines that count.
use Rattle.std.specs.Prelude.{ℕ, suc, ◌≡◌, ◌++◌, nat_lt, List, [], ◌∷◌, length, map, Option, None, Some, if◌then◌else◌, codes}
use Rattle.cstn_save.specs.Canonical.{canonical}
use Rattle.cstn_reply.specs.Sessions.{Turn}
use Rattle.cstn_follow.specs.Following.{Following}
use Rattle.cstn_follow.specs.Marks.{Saying, of_triable, tries, sets_mark, goes_back, Marked, most_marks, saying_read, marked_turn_by}
use Rattle.cstn_follow.specs.Trials.{Triable, of_spoken, sets_cap, is_replanning, trial_text}

-- the answer to a line of a session with marks, which may be none of it; what is left is written as its canonical document
abbrev pub marked_turn : Marked → List ℕ → Turn Marked
marked_turn = marked_turn_by canonical

-- The lines that count of those that were heard: of the session as it is, and of the session at each mark, the last one first. In the
-- place of a line that doesn't count stands the empty one, which is none of a session.
pub record CountedLines : Type 0 where
  pub now : List (List ℕ)
  pub marks : List (List (List ℕ))

-- with this line more
abbrev pub with_line : List (List ℕ) → List ℕ → List (List ℕ)
with_line lines bytes = lines ++ bytes ∷ []

abbrev pub with_empty : List (List ℕ) → List (List ℕ)
with_empty lines = with_line lines []

-- this line counts, or doesn't; at the marks it never does
abbrev pub counting : CountedLines → List ℕ → CountedLines
counting k bytes = record { now = with_line k.now bytes; marks = map with_empty k.marks }

-- what counts where a mark is set, unless there are 8, and where one is gone back to
abbrev pub counting_at_mark : CountedLines → CountedLines
counting_at_mark k = if nat_lt (length k.marks) most_marks then record k { marks = k.now ∷ k.marks } else k

abbrev pub counting_back : List (List ℕ) → List (List (List ℕ)) → CountedLines
counting_back now [] = record { now = now; marks = [] }
counting_back now (mark ∷ marks) = record { now = mark; marks = marks }

-- What counts after a line: a line that tells, edits or asks, or is none of the session, counts; one that tries another or sets the cap
-- doesn't. At `back` that counts which counted at the mark.
abbrev pub counting_after : CountedLines → Option Saying → List ℕ → CountedLines
counting_after k None bytes = counting k bytes
counting_after k (Some (of_triable (of_spoken spoken))) bytes = counting k bytes
counting_after k (Some (of_triable (sets_cap cap))) bytes = counting k []
counting_after k (Some (tries line)) bytes = counting k []
counting_after k (Some sets_mark) bytes = counting_at_mark (counting k [])
counting_after k (Some goes_back) bytes = counting_back (counting k []).now (counting k []).marks

-- what counts after these lines
abbrev pub counting_by : CountedLines → List (List ℕ) → CountedLines
counting_by k [] = k
counting_by k (first ∷ lines) = counting_by (counting_after k (saying_read first) first) lines

abbrev pub lines_that_count : List (List ℕ) → List (List ℕ)
lines_that_count lines = (counting_by (record { now = []; marks = [] }) lines).now

-- the line neither sets a mark nor goes back
abbrev pub SetsNoMark : Option Saying → Type 0
SetsNoMark None = Unit {0}
SetsNoMark (Some (of_triable line)) = Unit {0}
SetsNoMark (Some (tries line)) = Unit {0}
SetsNoMark (Some sets_mark) = ⊥
SetsNoMark (Some goes_back) = ⊥

-- Among the lines each `mark` has its `back`, and each `back` its `mark`, with no more than so many marks at a time.
pub data ArePaired : ℕ → List (List ℕ) → Type 0 where
  paired_none : (n : ℕ) → ArePaired n []
  paired_line : (n : ℕ) (first : List ℕ) (lines : List (List ℕ)) → SetsNoMark (saying_read first) → ArePaired n lines → ArePaired n (first ∷ lines)
  paired_marks : (n : ℕ) (between lines : List (List ℕ)) → ArePaired n between → ArePaired (suc n) lines
      → ArePaired (suc n) (codes "mark" ∷ (between ++ codes "back" ∷ lines))

-- the text is what the line was answered, but where that accepts an edit, an amendment or a deadline, the line of the verdict after it
abbrev pub IsTried : Triable → List ℕ → Following → List ℕ → Type 0
IsTried line answer next text = text ≡ trial_text (is_replanning line) answer next
