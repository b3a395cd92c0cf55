-- Edit lines.
use Rattle.std.specs.Prelude.{ℕ, ℤ, ◌≡◌, ◌<◌, ◌≤◌, ◌^◌, ◌++◌, ◌∷◌, true, IsSomeAnd, FitsSigned, nat_lt, if◌then◌else◌, List, Option, None, Some, codes, bytes_eq}
use Rattle.std.specs.Int.{w32}
use Rattle.std.specs.Option.{option_map, option_and_then}
use Rattle.cstn_label.specs.declared.marks.Mark.TheVariants.{Absent}
use Rattle.cstn_label.specs.Labels.{Label}
use Rattle.cstn_label.specs.Read.{marks}
use Rattle.cstn_text.specs.Names.{IsName}
use Rattle.cstn_text.specs.Numbers.{number_read, value_read, printed_number, printed_value}
use Rattle.cstn_text.specs.PrintedNames.{name_read, printed_name}
use Rattle.cstn_text.specs.PrintedLabels.{label_read, printed_label}
use Rattle.cstn_lines.specs.LiveLines.{cut_at_space}
use Rattle.cstn_lines.specs.declared.edits.EditLine.{EditLine}
use Rattle.cstn_lines.specs.declared.edits.EditLine.TheVariants.{Add, Remove, Change, Check}

-- what an edit line says: to add a constraint between the time-points of two names, to remove the constraint of an id, to give
-- it another value, or to check
pub data Edit : Type 0 where
  added : List ℕ → List ℕ → ℤ → Label → Edit
  removed : ℕ → Edit
  changed : ℕ → ℤ → Edit
  asked : Edit

abbrev pub the_edit : EditLine → Edit
the_edit (Add from to most label) = added from to most (marks label)
the_edit (Remove id) = removed id
the_edit (Change id most) = changed id most
the_edit Check = asked

-- an id is a number below 2^32
abbrev pub id_read : List ℕ → Option ℕ
id_read text = option_and_then (λ n. if nat_lt n (2 ^ 32) then Some n else None) (number_read text)

-- an id, a space, and a value
abbrev pub change_read : List ℕ → Option Edit
change_read text = option_and_then (λ parts. option_and_then (λ id. option_map (changed id) (value_read parts.1)) (id_read parts.0)) (cut_at_space text)

-- the addition whose names these two texts print, with this value and label
abbrev pub ends_read : List ℕ → List ℕ → ℤ → Label → Option Edit
ends_read from to most label = option_and_then (λ f. option_map (λ t. added f t most label) (name_read to)) (name_read from)

-- a value, a space, and a label, after the two names
abbrev pub limit_read : List ℕ → List ℕ → List ℕ × List ℕ → Option Edit
limit_read from to parts = option_and_then (λ most. option_and_then (ends_read from to most) (label_read parts.1)) (value_read parts.0)

-- two names, a value and a label, with one space between
abbrev pub add_read : List ℕ → Option Edit
add_read text = option_and_then (λ one. option_and_then (λ two. option_and_then (limit_read one.0 two.0) (cut_at_space two.1)) (cut_at_space one.1)) (cut_at_space text)

-- the edit that the word of a line and what follows it say
abbrev pub edited_read : List ℕ × List ℕ → Option Edit
edited_read parts =
    if bytes_eq parts.0 (codes "add") then add_read parts.1
    else if bytes_eq parts.0 (codes "remove") then option_map removed (id_read parts.1)
    else if bytes_eq parts.0 (codes "change") then change_read parts.1
    else None

-- an edit line is `check`, or `add`, `remove` or `change`, a space, and what follows that word
abbrev pub edit_read : List ℕ → Option Edit
edit_read bytes = if bytes_eq bytes (codes "check") then Some asked else option_and_then edited_read (cut_at_space bytes)

-- the names are names, the id is below 2^32, the value fits 32 bits, and the label has marks at the 52 propositions alone
abbrev pub IsEdit : Edit → Type 0
IsEdit (added from to most label) = IsName from × IsName to × FitsSigned w32 most × ((p : ℕ) → 52 ≤ p → label p ≡ Absent)
IsEdit (removed id) = id < 2 ^ 32
IsEdit (changed id most) = (id < 2 ^ 32) × FitsSigned w32 most
IsEdit asked = Unit {0}

-- the text of an edit line: its parts, with one space between
abbrev pub printed_edit : Edit → List ℕ
printed_edit (added from to most label) = codes "add" ++ 32 ∷ (printed_name from ++ 32 ∷ (printed_name to ++ 32 ∷ (printed_value most ++ 32 ∷ printed_label label)))
printed_edit (removed id) = codes "remove" ++ 32 ∷ printed_number id
printed_edit (changed id most) = codes "change" ++ 32 ∷ (printed_number id ++ 32 ∷ printed_value most)
printed_edit asked = codes "check"

-- the text says the line, with one space between its parts, where a label's marks may stand in any order
abbrev pub IsTextOf : Edit → List ℕ → Type 0
IsTextOf (added from to most label) text =
    (written : List ℕ) × (label_read written ≡ Some label)
    × (text ≡ codes "add" ++ 32 ∷ (printed_name from ++ 32 ∷ (printed_name to ++ 32 ∷ (printed_value most ++ 32 ∷ written))))
IsTextOf (removed id) text = text ≡ printed_edit (removed id)
IsTextOf (changed id most) text = text ≡ printed_edit (changed id most)
IsTextOf asked text = text ≡ printed_edit asked

-- the line's word is `add`
abbrev pub IsAdding : List ℕ → Type 0
IsAdding text = IsSomeAnd (cut_at_space text) (λ parts. bytes_eq parts.0 (codes "add") ≡ true)
