-- Lines of a session that follows a plan.
use Rattle.std.specs.Prelude.{ℕ, ◌≡◌, ◌<◌, ◌≤◌, ◌^◌, ◌++◌, Bool, true, ◌||◌, if◌then◌else◌, List, [], ◌∷◌, length, flat_map, Option, Some, IsSomeAnd, codes, bytes_eq}
use Rattle.std.specs.List.{All}
use Rattle.std.specs.Option.{option_map, option_and_then}
use Rattle.cstn_label.specs.Letters.{letter_of}
use Rattle.cstn_net.specs.Limits.{most_deadline}
use Rattle.cstn_text.specs.Names.{IsName}
use Rattle.cstn_text.specs.SmallNumbers.{u32_read}
use Rattle.cstn_text.specs.Numbers.{number_within, printed_number}
use Rattle.cstn_text.specs.PrintedNames.{name_read, printed_name}
use Rattle.cstn_text.specs.Parts.{parts_at}
use Rattle.cstn_lines.specs.LiveLines.{cut_at_space, prop_read, truth_read, printed_truth}
use Rattle.cstn_lines.specs.EditLines.{Edit, asked, the_edit, edited_read, IsEdit, printed_edit, IsTextOf as IsTextOfEdit}
use Rattle.cstn_lines.specs.declared.follow.FollowLine.{FollowLine}
use Rattle.cstn_lines.specs.declared.follow.FollowLine.TheVariants.{Did, Saw, Now, Await, Expect, Edit as EditOf, Deadline, Next, By, Blame, Rest}

-- What a line says: that the time-points of these names were done at a moment, that an outcome came at a moment, that it is a
-- moment, that an outcome is expected at a moment, that the time-point of a name can't be done before a moment, an edit or a check,
-- another deadline; or it asks what is next, until when a time-point can wait, which constraints are to blame, or for what is left.
pub data Follow : Type 0 where
  done_at : ℕ → List (List ℕ) → Follow
  came_at : ℕ → ℕ → Bool → Follow
  now_at : ℕ → Follow
  awaited_at : ℕ → ℕ → Follow
  ready_at : ℕ → List ℕ → Follow
  edits : Edit → Follow
  ends_by : ℕ → Follow
  asks_next : Follow
  asks_by : List ℕ → Follow
  asks_blame : Follow
  asks_rest : Follow

abbrev pub the_follow : FollowLine → Follow
the_follow (Did t names) = done_at t names.items
the_follow (Saw t prop value) = came_at t prop.index value
the_follow (Now t) = now_at t
the_follow (Await t prop) = awaited_at t prop.index
the_follow (Expect t name) = ready_at t name
the_follow (EditOf line) = edits (the_edit line)
the_follow (Deadline ticks) = ends_by ticks
the_follow Next = asks_next
the_follow (By name) = asks_by name
the_follow Blame = asks_blame
the_follow Rest = asks_rest

-- the names that the parts print, and the one that the text after the last space prints
abbrev pub each_name_read : List (List ℕ) → List ℕ → Option (List (List ℕ))
each_name_read [] tail = option_map (λ name. name ∷ []) (name_read tail)
each_name_read (part ∷ parts) tail = option_and_then (λ name. option_map (λ names. name ∷ names) (each_name_read parts tail)) (name_read part)

-- one name or more, with a space between names
abbrev pub names_read : List ℕ → Option (List (List ℕ))
names_read text = each_name_read (parts_at 32 text).0 (parts_at 32 text).1

-- a moment, a space, and names
abbrev pub done_read : List ℕ → Option Follow
done_read text = option_and_then (λ parts. option_and_then (λ t. option_map (done_at t) (names_read parts.1)) (u32_read parts.0)) (cut_at_space text)

-- the outcome of a letter, a space, and `true` or `false`, which came at a moment
abbrev pub outcome_read : ℕ → List ℕ → Option Follow
outcome_read t text = option_and_then (λ parts. option_and_then (λ p. option_map (came_at t p) (truth_read parts.1)) (prop_read parts.0)) (cut_at_space text)

-- a moment, a space, and an outcome
abbrev pub came_read : List ℕ → Option Follow
came_read text = option_and_then (λ parts. option_and_then (λ t. outcome_read t parts.1) (u32_read parts.0)) (cut_at_space text)

-- a moment, a space, and a letter
abbrev pub awaited_read : List ℕ → Option Follow
awaited_read text = option_and_then (λ parts. option_and_then (λ t. option_map (awaited_at t) (prop_read parts.1)) (u32_read parts.0)) (cut_at_space text)

-- a moment, a space, and a name
abbrev pub ready_read : List ℕ → Option Follow
ready_read text = option_and_then (λ parts. option_and_then (λ t. option_map (ready_at t) (name_read parts.1)) (u32_read parts.0)) (cut_at_space text)

-- what the word of a line and what follows it say
abbrev pub followed_read : List ℕ × List ℕ → Option Follow
followed_read parts =
    if bytes_eq parts.0 (codes "did") then done_read parts.1
    else if bytes_eq parts.0 (codes "saw") then came_read parts.1
    else if bytes_eq parts.0 (codes "now") then option_map now_at (u32_read parts.1)
    else if bytes_eq parts.0 (codes "await") then awaited_read parts.1
    else if bytes_eq parts.0 (codes "expect") then ready_read parts.1
    else if bytes_eq parts.0 (codes "deadline") then option_map ends_by (number_within 0 most_deadline parts.1)
    else if bytes_eq parts.0 (codes "by") then option_map asks_by (name_read parts.1)
    else option_map edits (edited_read parts)

-- a line is `next`, `blame`, `rest` or `check`, or another word, a space, and what follows that word
abbrev pub follow_read : List ℕ → Option Follow
follow_read bytes =
    if bytes_eq bytes (codes "next") then Some asks_next
    else if bytes_eq bytes (codes "blame") then Some asks_blame
    else if bytes_eq bytes (codes "rest") then Some asks_rest
    else if bytes_eq bytes (codes "check") then Some (edits asked)
    else option_and_then followed_read (cut_at_space bytes)

-- moments are below 2^32, the proposition is one of the 52, a deadline is at most 1,000,000, names are names, one at least
abbrev pub IsFollow : Follow → Type 0
IsFollow (done_at t names) = (t < 2 ^ 32) × (1 ≤ length names) × All IsName names
IsFollow (came_at t p value) = (t < 2 ^ 32) × (p < 52)
IsFollow (now_at t) = t < 2 ^ 32
IsFollow (awaited_at t p) = (t < 2 ^ 32) × (p < 52)
IsFollow (ready_at t name) = (t < 2 ^ 32) × IsName name
IsFollow (edits edit) = IsEdit edit
IsFollow (ends_by ticks) = ticks ≤ most_deadline
IsFollow asks_next = Unit {0}
IsFollow (asks_by name) = IsName name
IsFollow asks_blame = Unit {0}
IsFollow asks_rest = Unit {0}

-- the text of a line: its parts, with one space between
abbrev pub printed_follow : Follow → List ℕ
printed_follow (done_at t names) = codes "did" ++ 32 ∷ (printed_number t ++ flat_map (λ name. 32 ∷ printed_name name) names)
printed_follow (came_at t p value) = codes "saw" ++ 32 ∷ (printed_number t ++ 32 ∷ letter_of p ∷ 32 ∷ printed_truth value)
printed_follow (now_at t) = codes "now" ++ 32 ∷ printed_number t
printed_follow (awaited_at t p) = codes "await" ++ 32 ∷ (printed_number t ++ 32 ∷ letter_of p ∷ [])
printed_follow (ready_at t name) = codes "expect" ++ 32 ∷ (printed_number t ++ 32 ∷ printed_name name)
printed_follow (edits edit) = printed_edit edit
printed_follow (ends_by ticks) = codes "deadline" ++ 32 ∷ printed_number ticks
printed_follow asks_next = codes "next"
printed_follow (asks_by name) = codes "by" ++ 32 ∷ printed_name name
printed_follow asks_blame = codes "blame"
printed_follow asks_rest = codes "rest"

-- the text says the line, with one space between its parts, where the marks of an edit's label may stand in any order
abbrev pub IsTextOf : Follow → List ℕ → Type 0
IsTextOf (done_at t names) text = text ≡ printed_follow (done_at t names)
IsTextOf (came_at t p value) text = text ≡ printed_follow (came_at t p value)
IsTextOf (now_at t) text = text ≡ printed_follow (now_at t)
IsTextOf (awaited_at t p) text = text ≡ printed_follow (awaited_at t p)
IsTextOf (ready_at t name) text = text ≡ printed_follow (ready_at t name)
IsTextOf (edits edit) text = IsTextOfEdit edit text
IsTextOf (ends_by ticks) text = text ≡ printed_follow (ends_by ticks)
IsTextOf asks_next text = text ≡ printed_follow asks_next
IsTextOf (asks_by name) text = text ≡ printed_follow (asks_by name)
IsTextOf asks_blame text = text ≡ printed_follow asks_blame
IsTextOf asks_rest text = text ≡ printed_follow asks_rest

-- the line's word is one that names time-points
abbrev pub IsNaming : List ℕ → Type 0
IsNaming text = IsSomeAnd (cut_at_space text) (λ parts.
    (bytes_eq parts.0 (codes "did") || bytes_eq parts.0 (codes "expect") || bytes_eq parts.0 (codes "by") || bytes_eq parts.0 (codes "add")) ≡ true)
