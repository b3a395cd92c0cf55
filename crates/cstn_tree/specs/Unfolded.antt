-- What is said of a yes as a tree.
use Rattle.std.specs.Prelude.{◌≡◌, ◌⊎◌, ◌<◌, ◌≤◌, ℕ, List, ◌++◌, Option, None, Some, is_some, codes, decimal}
use Rattle.std.specs.List.{count_by}
use Rattle.cstn_label.specs.Bounds.{Bound}
use Rattle.cstn_label.specs.Labels.{Scenario}
use Rattle.cstn_net.specs.Networks.{Network, count}
use Rattle.cstn_net.specs.Strategies.{IsLeast}
use Rattle.cstn_check.specs.Growth.{log_of, load_of, live_bounds}
use Rattle.cstn_check.specs.Decisions.{verdict, unless_yes}
use Rattle.cstn_reply.specs.Texts.{Said, say}
use Rattle.cstn_reply.specs.declared.output.Outcome.TheVariants.{Good, Wide}
use Rattle.cstn_tree.specs.Limits.{most_observed}
use Rattle.cstn_outline.specs.Trees.{Tree, lines_of_tree as tree_lines, table_of}
use Rattle.cstn_tree.specs.Good.{IsUnbroken}
use Rattle.cstn_tree.specs.Made.{IsTreeOf}
use Rattle.cstn_outline.specs.Texts.{tree_shown, tells, tree_told}

-- how many propositions are observed: as many as time-points that observe one, since each has one observer
abbrev pub how_many_observed : Network → ℕ
how_many_observed net = count_by is_some net.observes

-- What is said of a yes as a tree: the load, and the tree of what the network's executive does by these bounds. No line of it
-- breaks, it has each time-point at its least moment, and its text is read back as it.
pub record IsTreeText (names : List (List ℕ)) (load : ℕ) (bounds : List Bound) (net : Network) (said : Said) : Type 0 where
  pub tree : Tree
  pub made : IsTreeOf net bounds tree
  pub good : IsUnbroken net tree
  pub least : (s : Scenario) (x : ℕ) → x < count net → IsLeast net s x (table_of tree s x)
  pub back : tree_told names (tree_shown names load (tree_lines tree)) ≡ tells (tree_lines tree)
  pub said_is : said ≡ record { outcome = Good; text = tree_shown names load (tree_lines tree) }

-- how many propositions are observed, where they are more than a tree is made for
abbrev pub wide : Network → Said
wide net = say Wide (codes "wide " ++ decimal (how_many_observed net))

-- the tree of what the executive does by the bounds of the live entries of the log is said, unless something is said in its place
abbrev pub IsTreeUnless : List (List ℕ) → Network → Option Said → Said → Type 0
IsTreeUnless names net None said = IsTreeText names (load_of net) (live_bounds (log_of net)) net said
IsTreeUnless names net (Some other) said = said ≡ other

-- what `tree` says of a network: how many propositions are observed, where they are more than 10; and else after yes the load
-- and the tree, the refutation after no, or the cap where the log has more entries
abbrev pub IsUnfolded : ℕ → List (List ℕ) → Network → Said → Type 0
IsUnfolded cap names net said =
    ((most_observed < how_many_observed net) × (said ≡ wide net))
    ⊎ ((how_many_observed net ≤ most_observed) × IsTreeUnless names net (unless_yes cap names net (verdict cap net)) said)
