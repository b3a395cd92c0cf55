-- Steps through the lines of a source.
use Rattle.std.specs.Prelude.{◌≡◌, ℕ, ◌+◌, ◌≤◌, ◌<◌, ◌^◌, length, Bool, true, false, if◌then◌else◌, List, [], ◌∷◌, ◌++◌}
use Rattle.cstn_lines.specs.Pieces.{lines_of, whole_lines, heard_lines, is_past, HasNoEnd}
use Rattle.cstn_lines.specs.declared.lines.Next.{Next}
use Rattle.cstn_lines.specs.declared.lines.Next.TheVariants.{Line, End, Wrong, Fault}

-- the line that the last step handed out, and whether it had its LF; the bytes that were taken and not handed out yet, how many
-- lines were handed out, and whether the source has ended
pub record LinesState : Type 0 where
  pub line : List ℕ
  pub whole : Bool
  pub kept : List ℕ
  pub count : ℕ
  pub ended : Bool

-- how the line that was handed out is heard, by whether it has to have its LF
abbrev pub heard_line : (ends : Bool) → LinesState → List ℕ
heard_line false state = state.line
heard_line true state = if state.whole then state.line else []

-- the step handed out the first line of these bytes, which comes after `count` lines, whatever bytes follow
pub record HandsOut (bytes : List ℕ) (count : ℕ) (after : LinesState) (number : ℕ) : Type 0 where
  pub is_number : number ≡ count + 1
  pub counts : after.count ≡ count + 1
  pub lines : (ends : Bool) (rest : List ℕ) → (after.ended ≡ true → rest ≡ []) →
      heard_lines ends (bytes ++ rest) ≡ heard_line ends after ∷ heard_lines ends (after.kept ++ rest)
  pub whole : (rest : List ℕ) → after.ended ≡ false → whole_lines (bytes ++ rest) ≡ after.line ∷ whole_lines (after.kept ++ rest)
  pub going : after.ended ≡ false → after.whole ≡ true
  pub short : (ends : Bool) → is_past number (heard_line ends after) ≡ false

-- the next line, as far as it is kept, is already too long or too late
abbrev pub IsPast : LinesState → Type 0
IsPast state = (line : List ℕ) × (lines : List (List ℕ)) × (lines_of state.kept ≡ line ∷ lines) × (is_past (state.count + 1) line ≡ true)

-- the answer of a step at a line of this number that is too long or too late
abbrev pub wrong_at : ℕ → Next
wrong_at number = Wrong number

-- there is no line left
pub record IsOver (bytes : List ℕ) (count : ℕ) (after : LinesState) : Type 0 where
  pub none : bytes ≡ []
  pub lines : (ends : Bool) → heard_lines ends bytes ≡ []
  pub kept : after.kept ≡ []
  pub counts : after.count ≡ count
  pub ended : after.ended ≡ true

-- the first line of these bytes is too long or too late, whatever bytes follow
pub record HasWrongLine (bytes : List ℕ) (count : ℕ) (after : LinesState) (number : ℕ) : Type 0 where
  pub is_number : number ≡ count + 1
  pub next : (ends : Bool) (rest : List ℕ) →
      (line : List ℕ) × (lines : List (List ℕ)) × (heard_lines ends (bytes ++ rest) ≡ line ∷ lines) × (is_past number line ≡ true)
  pub kept : after.kept ≡ bytes
  pub counts : after.count ≡ count
  pub stays : IsPast after

-- a read failed before the first line of these bytes was whole
pub record IsBroken (bytes : List ℕ) (count : ℕ) (after : LinesState) : Type 0 where
  pub kept : after.kept ≡ bytes
  pub none : whole_lines bytes ≡ []
  pub counts : after.count ≡ count
  pub ended : after.ended ≡ false

-- what the answer of a step means for these bytes, which come after `count` lines
abbrev pub LineSteps : List ℕ → ℕ → LinesState → Next → Type 0
LineSteps bytes count after (Line number) = HandsOut bytes count after number
LineSteps bytes count after End = IsOver bytes count after
LineSteps bytes count after (Wrong number) = HasWrongLine bytes count after number
LineSteps bytes count after Fault = IsBroken bytes count after

-- The reads of a step that reads; `before` and `after` count those of the source. Each but the last took a byte or more, and
-- before the last one the kept line had no LF and was neither too long nor too late. So no read comes after one that took
-- nothing, failed or brought the end of the line.
pub record ReadsOn (kept : List ℕ) (count : ℕ) (taken : List ℕ) (before after : ℕ) : Type 0 where
  pub first : List ℕ
  pub last : List ℕ
  pub parts : taken ≡ first ++ last
  pub open_line : HasNoEnd (kept ++ first)
  pub short : length (kept ++ first) ≤ 4096
  pub early : 0 < length (kept ++ first) → count < 2 ^ 24
  pub few : after ≤ before + length first + 1
