-- How the values of the program are read.
use Rattle.std.specs.Prelude.{ℕ, ◌≡◌, List, [], ◌∷◌, map}
use Rattle.cstn_label.specs.declared.nodes.NodeId.{NodeId}
use Rattle.cstn_outline.specs.declared.trees.Line.{Line}
use Rattle.cstn_outline.specs.declared.trees.Line.TheVariants.{At, Ask, Done}
use Rattle.cstn_outline.specs.Trees.{Tree, TreeLine as TheLine, lines_of_tree}
use Rattle.cstn_outline.specs.Trees.Tree.{at, ask, done}
use Rattle.cstn_outline.specs.Trees.TreeLine.{AtLine, AskLine, DoneLine}

-- the numbers of time-points
abbrev pub node_numbers : List NodeId → List ℕ
node_numbers named = map (λ x. x.0) named

-- the line that a program's line stands for
abbrev pub the_tree_line : Line → TheLine
the_tree_line (At moment named) = AtLine moment named
the_tree_line (Ask prop) = AskLine prop.index
the_tree_line Done = DoneLine

-- the trees of lines in preorder, one after the other
abbrev pub ask_first : ℕ → List Tree → List Tree
ask_first p [] = []
ask_first p (one ∷ []) = []
ask_first p (one ∷ (other ∷ trees)) = ask p one other ∷ trees

abbrev pub at_first : ℕ → List ℕ → List Tree → List Tree
at_first t xs [] = []
at_first t xs (next ∷ trees) = at t xs next ∷ trees

abbrev pub with_line : TheLine → List Tree → List Tree
with_line (AtLine t xs) trees = at_first t xs trees
with_line (AskLine p) trees = ask_first p trees
with_line DoneLine trees = done ∷ trees

unfoldable pub trees_of : List TheLine → List Tree
trees_of [] = []
trees_of (l ∷ ls) = with_line l (trees_of ls)

abbrev pub first_or_done : List Tree → Tree
first_or_done [] = done
first_or_done (tree ∷ trees) = tree

-- the tree that these lines stand for
abbrev pub the_tree : List TheLine → Tree
the_tree ls = first_or_done (trees_of ls)

-- the lines are those of one tree
abbrev pub AreWhole : List TheLine → Type 0
AreWhole ls = (tree : Tree) × (ls ≡ lines_of_tree tree)
