-- What `conflict` tells.
use Rattle.std.specs.Prelude.{◌≡◌, ◌++◌, ℕ, Some, List}
use Rattle.std.specs.List.{Contains}
use Rattle.cstn_net.specs.Networks.{Network}
use Rattle.cstn_net.specs.Strategies.{IsConsistent}
use Rattle.cstn_check.specs.Givers.{with_ids, network_without}
use Rattle.cstn_conflict.specs.Texts.{ids_line}
use Rattle.cstn_conflict.specs.Conflicts.{conflict_set, IsConflictFull}
use Rattle.cstn_headline.specs.Verdicts.{IsRefutedByLog}
use Rattle.cstn_check.specs.Decisions.{IsYes, IsNo}
use Rattle.cstn_headline.specs.Accepted.{IsNoText}
use Rattle.cstn_headline.specs.Telling.{Telling, by_verdict}

-- the constraints of these ids can't be met together, and their log has a refutation; without any one of them they can be met
pub record IsConflict (net : Network) (ids : List ℕ) : Type 0 where
  pub inconsistent : IsConsistent (with_ids net ids) → ⊥
  pub refuted : IsRefutedByLog (with_ids net ids)
  pub needed : (id : ℕ) → Contains ids id → IsConsistent (network_without id (with_ids net ids))

-- the ids of a conflict set, and a text that refutes the network with these constraints alone, which is consistent without any
-- one of them
pub record IsConflictText (names : List (List ℕ)) (net : Network) (text : List ℕ) : Type 0 where
  pub ids : List ℕ
  pub steps : List ℕ
  pub parts : text ≡ ids_line ids ++ steps
  pub no_with : IsNoText names (with_ids net ids) steps
  pub needed : (id : ℕ) → Contains ids id → IsConsistent (network_without id (with_ids net ids))

-- the constraints that are found are a conflict set, and the text is of them and of a refutation
pub record IsBlamed (cap : ℕ) (names : List (List ℕ)) (net : Network) (text : List ℕ) : Type 0 where
  pub ids : List ℕ
  pub found : conflict_set cap net ≡ Some ids
  pub conflict : IsConflict net ids
  pub text_is : IsConflictText names net text

-- the network has a strategy; or it has none, and a conflict set is told; or a log is too long
abbrev pub conflict_telling : ℕ → List ℕ → List (List ℕ) → Network → Telling
conflict_telling cap text names net = by_verdict (IsYes cap net) (IsNo cap net × IsBlamed cap names net text) (IsConflictFull cap net)
