-- What a text of a tree can say.
use Rattle.std.specs.Prelude.{ℕ, ◌≡◌, ◌+◌, ◌^◌, ◌<◌, ◌≤◌, max, List, length}
use Rattle.std.specs.List.{All}
use Rattle.cstn_net.specs.Limits.{most_load}
use Rattle.cstn_outline.specs.Trees.{Tree, TreeLine, lines_of_tree}
use Rattle.cstn_outline.specs.Trees.Tree.{at, ask, done}
use Rattle.cstn_outline.specs.Trees.TreeLine.{AtLine, AskLine, DoneLine}
use Rattle.cstn_outline.specs.Texts.{tree_shown}

-- an `at` names a time-point
abbrev pub NamesSome : TreeLine → Type 0
NamesSome (AtLine t xs) = 1 ≤ length xs
NamesSome (AskLine p) = Unit {0}
NamesSome DoneLine = Unit {0}

-- how many lines the longest branch has, with the one at its end
abbrev pub depth : Tree → ℕ
depth (at t xs next) = depth next + 1
depth (ask p one other) = max (depth one) (depth other) + 1
depth done = 1

-- each `at` names a time-point, and no branch has more than 2,100 lines
pub record TreeFitsText (tree : Tree) : Type 0 where
  pub named : All NamesSome (lines_of_tree tree)
  pub short : depth tree ≤ 2100

-- the moment is below 2^32, the proposition is one of the 52, and each time-point has a name
abbrev pub IsPrintableLine : List (List ℕ) → TreeLine → Type 0
IsPrintableLine names (AtLine t xs) = (t < 2 ^ 32) × All (λ x. x < length names) xs
IsPrintableLine names (AskLine p) = p < 52
IsPrintableLine names DoneLine = Unit {0}

-- a load and a tree that a text can say
pub record IsTreeWritten (names : List (List ℕ)) (load : ℕ) (tree : Tree) : Type 0 where
  pub load_low : 1 ≤ load
  pub load_high : load ≤ most_load
  pub fits : TreeFitsText tree
  pub each : All (IsPrintableLine names) (lines_of_tree tree)

-- the text of a load and of the tree of these lines
pub record IsTextOfTree (names : List (List ℕ)) (lines : List TreeLine) (bytes : List ℕ) : Type 0 where
  pub load : ℕ
  pub tree : Tree
  pub whole : lines ≡ lines_of_tree tree
  pub written : IsTreeWritten names load tree
  pub text : bytes ≡ tree_shown names load lines
