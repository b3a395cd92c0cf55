-- Texts split at a byte, and the parts of a line.
use Rattle.std.specs.Prelude.{ℕ, ◌<◌, ◌≤◌, ◌==◌, if◌then◌else◌, List, [], ◌∷◌, ◌++◌, All, length, Option}
use Rattle.std.specs.Option.{option_and_then}
use Rattle.cstn_text.specs.Cuts.{cut_at}
use Rattle.cstn_text.specs.Names.{number_of}
use Rattle.cstn_text.specs.PrintedNames.{name_read}

-- a text split at a byte: the parts that end with it, without it, and what stands after the last one
abbrev pub SplitText : Type 0
SplitText = List (List ℕ) × List ℕ

-- the split text with one more byte at the front of its first part
abbrev pub with_first_byte : ℕ → List (List ℕ) → List ℕ → SplitText
with_first_byte b [] tail = ([], b ∷ tail)
with_first_byte b (part ∷ parts) tail = ((b ∷ part) ∷ parts, tail)

abbrev pub with_byte : ℕ → ℕ → SplitText → SplitText
with_byte end b text = if b == end then ([] ∷ text.0, text.1) else with_first_byte b text.0 text.1

unfoldable pub parts_at : ℕ → List ℕ → SplitText
parts_at end [] = ([], [])
parts_at end (b ∷ bytes) = with_byte end b (parts_at end bytes)

-- the text of parts, each with the byte `end`, and of what stands after the last one
unfoldable pub joined : ℕ → List (List ℕ) → List ℕ → List ℕ
joined end [] tail = tail
joined end (part ∷ parts) tail = part ++ end ∷ joined end parts tail

-- the part before the first space, and what stands after it
abbrev pub part : List ℕ → Option (List ℕ × List ℕ)
part bytes = cut_at 32 bytes

-- the place in the list of the name that the text prints, if it prints one of them
abbrev pub node_read : List (List ℕ) → List ℕ → Option ℕ
node_read names text = option_and_then (number_of names) (name_read text)

-- some bytes, none of them a space or below it: the text is one part of a line
pub record IsOnePart (text : List ℕ) : Type 0 where
  pub some : 1 ≤ length text
  pub high : All (λ b. 32 < b) text
