-- What `tree` tells.
use Rattle.std.specs.Prelude.{◌≡◌, length, ◌≤◌, ◌<◌, ℕ, List}
use Rattle.cstn_net.specs.Networks.{Network}
use Rattle.cstn_text.specs.Limits.{most_text}
use Rattle.cstn_check.specs.Growth.{log_of, load_of, live_bounds}
use Rattle.cstn_check.specs.Decisions.{IsYes, IsNo}
use Rattle.cstn_tree.specs.Limits.{most_observed}
use Rattle.cstn_tree.specs.Unfolded.{how_many_observed, IsTreeText}
use Rattle.cstn_reply.specs.declared.output.Outcome.TheVariants.{Good}
use Rattle.cstn_top.specs.Answers.{IsByText}
use Rattle.cstn_tree.specs.Checked.{tree_checked}
use Rattle.cstn_headline.specs.Accepted.{IsAcceptance, IsNoText}
use Rattle.cstn_headline.specs.Telling.{Telling}

-- no more propositions are observed than a tree is made for
abbrev pub IsNarrow : Network → Type 0
IsNarrow net = how_many_observed net ≤ most_observed

-- the text is that of the tree by the bounds of the live entries of the log, and `treecheck` accepts it, unless it has more bytes than that
-- takes
pub record IsMadeTree (names : List (List ℕ)) (net : Network) (text : List ℕ) : Type 0 where
  pub made : IsTreeText names (load_of net) (live_bounds (log_of net)) net (record { outcome = Good; text = text })
  pub accepted : length text ≤ most_text → IsAcceptance (IsByText (λ said. said ≡ tree_checked text names net) text)

-- more than 10 propositions are observed; or else the network has a strategy, and its tree is told; or it has none; or its log has
-- more than `cap` entries
abbrev pub tree_telling : ℕ → List ℕ → List (List ℕ) → Network → Telling
tree_telling cap text names net = record {
  good = IsNarrow net × IsYes cap net × IsMadeTree names net text;
  bad = IsNarrow net × IsNo cap net × IsNoText names net text;
  full = IsNarrow net × (cap < load_of net);
  unfinished = ⊥;
  script = ⊥;
  wide = most_observed < how_many_observed net;
}
