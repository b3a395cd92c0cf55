-- What is said of a network by the text of a tree.
use Rattle.std.specs.Prelude.{ℕ, List, ◌++◌, Option, None, Some, codes, decimal}
use Rattle.cstn_net.specs.Networks.{Network}
use Rattle.cstn_tree.specs.Good.{first_broken}
use Rattle.cstn_outline.specs.Read.{the_tree}
use Rattle.cstn_outline.specs.Texts.{TreeTold, tells, wrong, tree_told}
use Rattle.cstn_reply.specs.Texts.{Said, say}
use Rattle.cstn_reply.specs.Sessions.{script}
use Rattle.cstn_reply.specs.declared.output.Outcome.TheVariants.{Good, Bad}

-- what is said of a tree: that it is accepted where no line breaks, or the first line that does
abbrev pub told_of_line : Option ℕ → Said
told_of_line None = say Good (codes "accepted")
told_of_line (Some line) = say Bad (codes "rejected " ++ decimal line)

-- the tree of a text is checked
abbrev pub checked_lines : TreeTold → Network → Said
checked_lines (tells lines) net = told_of_line (first_broken net (the_tree lines))
checked_lines (wrong at) net = script at

-- what `treecheck` says of a network by a text
abbrev pub tree_checked : List ℕ → List (List ℕ) → Network → Said
tree_checked text names net = checked_lines (tree_told names text) net
