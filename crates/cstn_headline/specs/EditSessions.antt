-- What an edit session answers to `check` of the network as edited.
use Rattle.std.specs.Prelude.{◌≡◌, ◌<◌, ◌≤◌, ◌⊎◌, ℕ, List, [], ◌∷◌, ◌++◌, length, Option, None, Some, codes}
use Rattle.std.specs.List.{All}
use Rattle.cstn_net.specs.Limits.{most_load}
use Rattle.cstn_net.specs.Networks.{Network}
use Rattle.cstn_net.specs.Strategies.{IsConsistent}
use Rattle.cstn_text.specs.Names.{AreNames}
use Rattle.cstn_rules.specs.Derivations.{Entry, IsRefutation}
use Rattle.cstn_log.specs.Cuts.{last_with_ancestors}
use Rattle.cstn_check.specs.Growth.{load_of}
use Rattle.cstn_refute.specs.Texts.{refutation_shown}
use Rattle.cstn_reply.specs.Texts.{line, yes_line, full_line}
use Rattle.cstn_reply.specs.Reached.{Says}
use Rattle.cstn_change.specs.ChangeLines.{network_after}
use Rattle.cstn_edit.specs.Editing.{begun_editing, edit_turn, edit_ending}
use Rattle.cstn_headline.specs.Accepted.{IsNoText, HasIds}

-- the text says yes, with a load of at most `cap`, and the network is consistent
pub record SaysYes (cap : ℕ) (net : Network) (text : List ℕ) : Type 0 where
  pub load : ℕ
  pub within : load ≤ cap
  pub text_is : text ≡ yes_line load
  pub consistent : IsConsistent net

-- the text says no, and the network isn't consistent: the steps of the text refute it, and are the part of a refutation whose
-- length is the load. `replay` of the network accepts the text.
pub record SaysNo (cap : ℕ) (names : List (List ℕ)) (net : Network) (text : List ℕ) : Type 0 where
  pub list : List Entry
  pub within : length list ≤ cap
  pub whole : IsRefutation net list
  pub steps : IsRefutation net (last_with_ancestors list)
  pub text_is : text ≡ refutation_shown names (length list) (last_with_ancestors list)
  pub inconsistent : IsConsistent net → ⊥
  pub accepted : AreNames names → HasIds net → cap ≤ most_load → IsNoText names net text

-- the text says that the log is full, and the log of the network has more than `cap` entries
pub record SaysFull (cap : ℕ) (net : Network) (text : List ℕ) : Type 0 where
  pub text_is : text ≡ full_line cap
  pub long : cap < load_of net

-- The answer to `check` after lines that were answered: perhaps that the list was grown afresh, and a verdict that is true of
-- the network as edited by these lines.
pub record AnswersCheck (cap : ℕ) (names : List (List ℕ)) (net : Network) (before : List (List ℕ)) : Type 0 where
  pub first : List ℕ
  pub text : List ℕ
  pub says : Says edit_turn edit_ending (begun_editing cap names net) before (codes "check") (first ++ text)
  pub afresh : (first ≡ []) ⊎ (first ≡ line (codes "afresh"))
  pub verdict : SaysYes cap (network_after names net before) text
      ⊎ (SaysNo cap names (network_after names net before) text
      ⊎ SaysFull cap (network_after names net before) text)

-- ---- the last check

-- the line isn't `check`
abbrev pub IsNoCheck : List ℕ → Type 0
IsNoCheck text = text ≡ codes "check" → ⊥

-- the network as edited by the lines before the last `check`, or none where no line is `check`
abbrev pub IsAtLastCheck : List (List ℕ) → Network → List (List ℕ) → Option Network → Type 0
IsAtLastCheck names net lines None = All IsNoCheck lines
IsAtLastCheck names net lines (Some checked) =
    (before : List (List ℕ)) × (later : List (List ℕ)) × (lines ≡ before ++ codes "check" ∷ later) × All IsNoCheck later
    × (checked ≡ network_after names net before)
