-- The first lines of a tree.
use Rattle.std.specs.Prelude.{ℕ, ◌≡◌, List, [], ◌∷◌, ◌++◌, length}
use Rattle.cstn_outline.specs.Trees.{Tree, TreeLine, lines_of_tree}
use Rattle.cstn_outline.specs.Read.{AreWhole}

-- the lines of trees, one after the other
abbrev pub all_lines : List Tree → List TreeLine
all_lines [] = []
all_lines (tree ∷ trees) = lines_of_tree tree ++ all_lines trees

-- the lines, followed by those of any n trees, are the lines of one tree
pub record IsBegun (ls : List TreeLine) (n : ℕ) : Type 0 where
  pub whole : (trees : List Tree) → length trees ≡ n → AreWhole (ls ++ all_lines trees)
