-- What the program keeps of a text that it reads.
use Rattle.std.specs.Prelude.{ℕ, ◌≡◌, ◌<◌, List, length, map, reverse}
use Rattle.std.specs.List.{All}
use Rattle.cstn_outline.specs.declared.reading.Reader.{Reader}
use Rattle.cstn_outline.specs.declared.errors.TreeError.{TreeError}
use Rattle.cstn_outline.specs.declared.errors.TreeError.TheVariants.{Line as WrongLine, Memory}
use Rattle.cstn_outline.specs.Trees.{TreeLine, names_on}
use Rattle.cstn_outline.specs.Texts.{TreeTold, wrong, ahead_of}
use Rattle.cstn_outline.specs.Read.{the_tree_line}
use Rattle.cstn_outline.specs.Whole.{IsBegun}

-- the depth of the first line of each tree that is still to come, the next tree's first
abbrev pub the_ahead : Reader → List ℕ
the_ahead r = reverse r.ahead.items

abbrev pub the_lines : Reader → List TreeLine
the_lines r = map the_tree_line r.lines.items

-- an error with a line names the first wrong one of the text; want of memory says nothing of the text
abbrev pub IsWrongTreeLine : TreeTold → TreeError → Type 0
IsWrongTreeLine t (WrongLine line) = t ≡ wrong line
IsWrongTreeLine t (Memory e) = Unit {0}

-- what a reader keeps: the trees that are still to come after its lines; these, followed by the lines of those trees, are the
-- lines of one tree, and they name time-points below n
pub record IsReader (n : ℕ) (r : Reader) : Type 0 where
  pub ahead : the_ahead r ≡ ahead_of (the_lines r)
  pub begun : IsBegun (the_lines r) (length (the_ahead r))
  pub named : All (λ l. All (λ x. x < n) (names_on l)) (the_lines r)
