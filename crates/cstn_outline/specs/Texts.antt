-- Texts of trees.
use Rattle.std.specs.Prelude.{ℕ, ◌+◌, ◌++◌, Bool, true, false, nat_le, if◌then◌else◌, List, [], ◌∷◌, flat_map, slice_index_or, Option, None, Some, codes, bytes_eq}
use Rattle.std.specs.Option.{option_and_then, option_map}
use Rattle.cstn_label.specs.Letters.{letter_of, prop_of}
use Rattle.cstn_net.specs.Limits.{most_load}
use Rattle.cstn_text.specs.SmallNumbers.{u32_read}
use Rattle.cstn_text.specs.Numbers.{printed_number}
use Rattle.cstn_text.specs.PrintedNames.{printed_name}
use Rattle.cstn_text.specs.Parts.{parts_at, part, node_read}
use Rattle.cstn_text.specs.Listings.{Told as Listing, tells as tells_with, wrong as wrong_line, ListingKind, told as told_by}
use Rattle.cstn_outline.specs.Trees.{TreeLine}
use Rattle.cstn_outline.specs.Trees.TreeLine.{AtLine, AskLine, DoneLine}

-- ---- printed

-- a line as it is printed, without its LF
abbrev pub printed_line : List (List ℕ) → TreeLine → List ℕ
printed_line names (AtLine t xs) =
    codes "at " ++ printed_number t ++ flat_map (λ x. 32 ∷ printed_name (slice_index_or names x [])) xs
printed_line names (AskLine p) = codes "ask " ++ letter_of p ∷ []
printed_line names DoneLine = codes "done"

abbrev pub printed_lines : List (List ℕ) → List TreeLine → List ℕ
printed_lines names lines = flat_map (λ l. printed_line names l ++ 10 ∷ []) lines

-- the text of a load and a tree
abbrev pub tree_shown : List (List ℕ) → ℕ → List TreeLine → List ℕ
tree_shown names load lines = codes "yes " ++ printed_number load ++ 10 ∷ printed_lines names lines

-- ---- read

abbrev pub put_first : ℕ → Option (List ℕ) → Option (List ℕ)
put_first x others = option_map (λ xs. x ∷ xs) others

-- the time-points that the parts name, and the one that the text after the last space names
abbrev pub nodes_read : List (List ℕ) → List (List ℕ) → List ℕ → Option (List ℕ)
nodes_read names [] tail = option_map (λ x. x ∷ []) (node_read names tail)
nodes_read names (part ∷ parts) tail = option_and_then (λ x. put_first x (nodes_read names parts tail)) (node_read names part)

-- the time-points of one name or more, with a space between names
abbrev pub tree_names_read : List (List ℕ) → List ℕ → Option (List ℕ)
tree_names_read names bytes = nodes_read names (parts_at 32 bytes).0 (parts_at 32 bytes).1

-- the `at` of a text that is a moment below 2^32, a space, and names
abbrev pub at_read : List (List ℕ) → List ℕ → Option TreeLine
at_read names bytes =
    option_and_then (λ found. option_and_then (λ t. option_map (AtLine t) (tree_names_read names found.1)) (u32_read found.0)) (part bytes)

-- the `ask` of a text that is a letter
abbrev pub ask_read : List ℕ → Option TreeLine
ask_read [] = None
ask_read (b ∷ []) = option_map AskLine (prop_of b)
ask_read (b ∷ (other ∷ bytes)) = None

abbrev pub tree_word_read : List (List ℕ) → List ℕ → List ℕ → Option TreeLine
tree_word_read names word rest =
    if bytes_eq word (codes "at") then at_read names rest else if bytes_eq word (codes "ask") then ask_read rest else None

-- the line of a tree that a text is
abbrev pub tree_line_read : List (List ℕ) → List ℕ → Option TreeLine
tree_line_read names bytes =
    if bytes_eq bytes (codes "done") then Some DoneLine
    else option_and_then (λ found. tree_word_read names found.0 found.1) (part bytes)

-- the line of a tree that a text is, where its branch has at most 2,100 lines down to it
abbrev pub line_within : List (List ℕ) → ℕ → List ℕ → Option TreeLine
line_within names depth bytes = if nat_le depth 2100 then tree_line_read names bytes else None

-- the trees still to come once this line was read, each as the depth of its first line: how many lines its branch has down to
-- that line, which is counted as well
abbrev pub ahead_after : ℕ → List ℕ → TreeLine → List ℕ
ahead_after depth ahead (AtLine t xs) = (depth + 1) ∷ ahead
ahead_after depth ahead (AskLine p) = (depth + 1) ∷ ((depth + 1) ∷ ahead)
ahead_after depth ahead DoneLine = ahead

-- the trees still to come after a line, where these were to come before it
abbrev pub ahead_next : List ℕ → TreeLine → List ℕ
ahead_next [] l = []
ahead_next (depth ∷ ahead) l = ahead_after depth ahead l

abbrev pub ahead_along : List ℕ → List TreeLine → List ℕ
ahead_along ahead [] = ahead
ahead_along ahead (l ∷ lines) = ahead_along (ahead_next ahead l) lines

-- the trees still to come after these lines; before the first line it is one
abbrev pub ahead_of : List TreeLine → List ℕ
ahead_of lines = ahead_along (1 ∷ []) lines

-- the line that a text is where these trees are still to come
abbrev pub next_read : List (List ℕ) → List ℕ → List ℕ → Option TreeLine
next_read names [] text = None
next_read names (depth ∷ ahead) text = line_within names depth text

abbrev pub is_tree_over : List ℕ → Bool
is_tree_over [] = true
is_tree_over (depth ∷ ahead) = false

-- no tree is still to come after these lines
abbrev pub is_whole : List TreeLine → Bool
is_whole lines = is_tree_over (ahead_of lines)

-- trees are listings of their lines behind the word `yes`, and end where no tree is still to come
abbrev pub tree_lines : List (List ℕ) → ListingKind TreeLine
tree_lines names = record { word = codes "yes"; most = most_load; line_read = λ lines text. next_read names (ahead_of lines) text; may_end = is_whole }

-- what a text says: the lines of a tree, or that a line, counted from 1, is the first that isn't of the grammar
pub data TreeTold : Type 0 where
  tells : (lines : List TreeLine) → TreeTold
  wrong : (line : ℕ) → TreeTold

abbrev pub without_load : Listing TreeLine → TreeTold
without_load (tells_with load lines) = tells lines
without_load (wrong_line line) = wrong line

-- what a text says: a load, which is not looked at, and then the lines of one tree
abbrev pub tree_told : List (List ℕ) → List ℕ → TreeTold
tree_told names bytes = without_load (told_by (tree_lines names) bytes)
