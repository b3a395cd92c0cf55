-- Bytes as lines.
use Rattle.std.specs.Prelude.{◌≡◌, ◌≢◌, ℕ, ◌<◌, ◌-◌, ◌^◌, take, drop, Bool, true, false, nat_lt, ◌||◌, ◌==◌, if◌then◌else◌, List, [], ◌∷◌, ◌++◌, length, get_or}
use Rattle.cstn_text.specs.Parts.{parts_at}

-- the bytes from the place `start` to the place `end`, without the one at `end`
abbrev pub between : ℕ → ℕ → List ℕ → List ℕ
between start end bytes = take (end - start) (drop start bytes)

-- the lines with this byte at the front of the first one, or alone on one where there is none
abbrev pub onto : ℕ → List (List ℕ) → List (List ℕ)
onto b [] = (b ∷ []) ∷ []
onto b (line ∷ lines) = (b ∷ line) ∷ lines

-- The lines of some bytes. Each ends with LF, but the last may lack it.
abbrev pub lines_of : List ℕ → List (List ℕ)
lines_of [] = []
lines_of (b ∷ bs) = if b == 10 then [] ∷ lines_of bs else onto b (lines_of bs)

-- the lines, each with its LF
abbrev pub lines_joined : List (List ℕ) → List ℕ
lines_joined [] = []
lines_joined (line ∷ lines) = line ++ 10 ∷ lines_joined lines

-- the lines with this byte at the front of the first one; no lines stay no lines
abbrev pub onto_some : ℕ → List (List ℕ) → List (List ℕ)
onto_some b [] = []
onto_some b (line ∷ lines) = (b ∷ line) ∷ lines

-- the lines of some bytes, without a last one that lacks its LF
abbrev pub whole_lines : List ℕ → List (List ℕ)
whole_lines [] = []
whole_lines (b ∷ bs) = if b == 10 then [] ∷ whole_lines bs else onto_some b (whole_lines bs)

-- the first LF of the bytes stands at the place i
pub record IsCut (bs : List ℕ) (i : ℕ) : Type 0 where
  pub inside : i < length bs
  pub ends : get_or bs i 0 ≡ 10
  pub before : (k : ℕ) → k < i → get_or bs k 0 ≢ 10

-- a byte is LF
abbrev pub HasEnd : List ℕ → Type 0
HasEnd bs = (k : ℕ) × (k < length bs) × (get_or bs k 0 ≡ 10)

-- no byte is LF
abbrev pub HasNoEnd : List ℕ → Type 0
HasNoEnd bs = (k : ℕ) → k < length bs → get_or bs k 0 ≢ 10

-- a line of this number is wrong in every grammar: it is too long, with more than 4,096 bytes, or too late, above number 2^24
abbrev pub is_past : ℕ → List ℕ → Bool
is_past number line = nat_lt 4096 (length line) || nat_lt (2 ^ 24) number

-- a last line that lacks its LF is heard as an empty one, unless it is too long
abbrev pub unended : List ℕ → List ℕ
unended line = if nat_lt 4096 (length line) then line else []

abbrev pub with_unended : List (List ℕ) → List ℕ → List (List ℕ)
with_unended lines [] = lines
with_unended lines (b ∷ tail) = lines ++ unended (b ∷ tail) ∷ []

-- the lines of some bytes, where a last one that lacks its LF is heard so
abbrev pub ended_lines : List ℕ → List (List ℕ)
ended_lines bs = with_unended (parts_at 10 bs).0 (parts_at 10 bs).1

-- the lines that are heard of some bytes, by whether each has to have its LF
abbrev pub heard_lines : (ends : Bool) → List ℕ → List (List ℕ)
heard_lines false bs = lines_of bs
heard_lines true bs = ended_lines bs
