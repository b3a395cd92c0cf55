-- Live lines.
use Rattle.std.specs.Prelude.{ℕ, ◌^◌, ◌<◌, ◌++◌, Bool, true, false, nat_lt, if◌then◌else◌, List, [], ◌∷◌, Option, None, Some, codes, bytes_eq}
use Rattle.std.specs.Option.{option_map, option_and_then}
use Rattle.cstn_label.specs.Letters.{letter_of, prop_of}
use Rattle.cstn_text.specs.Cuts.{cut_at}
use Rattle.cstn_text.specs.Numbers.{number_read, printed_number}
use Rattle.cstn_lines.specs.declared.live.LiveLine.{LiveLine}
use Rattle.cstn_lines.specs.declared.live.LiveLine.TheVariants.{Moment, See, Due}

-- what a live line says: which moment it is, what an observation shows, or the question what is due
pub data Live : Type 0 where
  moment_at : ℕ → Live
  seen : ℕ → Bool → Live
  due_now : Live

abbrev pub the_live : LiveLine → Live
the_live (Moment t) = moment_at t
the_live (See prop value) = seen prop.index value
the_live Due = due_now

-- what stands before the first space, and what stands after it
abbrev pub cut_at_space : List ℕ → Option (List ℕ × List ℕ)
cut_at_space = cut_at 32

-- a moment is a number below 2^32
abbrev pub moment_read : List ℕ → Option Live
moment_read text = option_and_then (λ t. if nat_lt t (2 ^ 32) then Some (moment_at t) else None) (number_read text)

-- a proposition is one letter
abbrev pub prop_read : List ℕ → Option ℕ
prop_read [] = None
prop_read (b ∷ []) = prop_of b
prop_read (b ∷ c ∷ bytes) = None

abbrev pub truth_read : List ℕ → Option Bool
truth_read text = if bytes_eq text (codes "true") then Some true else if bytes_eq text (codes "false") then Some false else None

-- what is seen is a letter, a space, and `true` or `false`
abbrev pub seen_read : List ℕ → Option Live
seen_read text = option_and_then (λ parts. option_and_then (λ p. option_map (seen p) (truth_read parts.1)) (prop_read parts.0)) (cut_at_space text)

-- the live line that the word of a line and what follows it say
abbrev pub operands_read : List ℕ × List ℕ → Option Live
operands_read parts = if bytes_eq parts.0 (codes "moment") then moment_read parts.1 else if bytes_eq parts.0 (codes "see") then seen_read parts.1 else None

-- a live line is `due`, or `moment` or `see`, a space, and what follows that word
abbrev pub live_read : List ℕ → Option Live
live_read bytes = if bytes_eq bytes (codes "due") then Some due_now else option_and_then operands_read (cut_at_space bytes)

-- the moment is below 2^32, and the proposition is one of the 52
abbrev pub IsLiveLine : Live → Type 0
IsLiveLine (moment_at t) = t < 2 ^ 32
IsLiveLine (seen p value) = p < 52
IsLiveLine due_now = Unit {0}

abbrev pub printed_truth : Bool → List ℕ
printed_truth true = codes "true"
printed_truth false = codes "false"

-- the text of a live line: its parts, with one space between
abbrev pub printed_live : Live → List ℕ
printed_live (moment_at t) = codes "moment" ++ 32 ∷ printed_number t
printed_live (seen p value) = codes "see" ++ 32 ∷ letter_of p ∷ 32 ∷ printed_truth value
printed_live due_now = codes "due"
