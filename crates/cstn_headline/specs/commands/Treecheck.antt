-- What `treecheck` tells.
use Rattle.std.specs.Prelude.{◌≡◌, ℕ, List, Some, ◌≤◌, ◌<◌, length}
use Rattle.cstn_net.specs.Networks.{Network}
use Rattle.cstn_net.specs.Strategies.{IsStrategy}
use Rattle.cstn_tree.specs.Good.{first_broken, IsUnbroken}
use Rattle.cstn_outline.specs.Read.{the_tree}
use Rattle.cstn_outline.specs.Texts.{TreeTold, tells, wrong, tree_told as told_tree}
use Rattle.cstn_outline.specs.Trees.{table_of}
use Rattle.cstn_text.specs.Limits.{most_text}
use Rattle.cstn_headline.specs.Telling.{Telling, by_check}

-- the text is that of a tree, of which no line breaks, and what it stands for is a strategy
abbrev pub IsGoodTree : TreeTold → Network → Type 0
IsGoodTree (tells lines) net = IsUnbroken net (the_tree lines) × IsStrategy net (table_of (the_tree lines))
IsGoodTree (wrong at) net = ⊥

-- the text is that of a tree, of which a line is the first that breaks
abbrev pub IsBrokenTree : TreeTold → Network → Type 0
IsBrokenTree (tells lines) net = (line : ℕ) × (first_broken net (the_tree lines) ≡ Some line)
IsBrokenTree (wrong at) net = ⊥

-- the text has more than 1,476,395,008 bytes, or a line that is of no grammar
abbrev pub IsNoTree : List ℕ → TreeTold → Type 0
IsNoTree text (tells lines) = most_text < length text
IsNoTree text (wrong at) = Unit {0}

-- the tree of the text is good, and what it stands for is a strategy; or a line of it breaks; or the text is that of no tree
abbrev pub treecheck_telling : List ℕ → List (List ℕ) → Network → Telling
treecheck_telling text names net =
    by_check ((length text ≤ most_text) × IsGoodTree (told_tree names text) net) ((length text ≤ most_text) × IsBrokenTree (told_tree names text) net)
    (IsNoTree text (told_tree names text))
