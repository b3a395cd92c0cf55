-- What `edit` tells.
use Rattle.std.specs.Prelude.{◌≡◌, ◌<◌, ℕ, List, [], Option, None, IfSome, IsSomeAnd, false}
use Rattle.cstn_net.specs.Networks.{Network}
use Rattle.cstn_net.specs.Strategies.{IsConsistent}
use Rattle.cstn_check.specs.Growth.{load_of}
use Rattle.cstn_lines.specs.EditLines.{edit_read}
use Rattle.cstn_reply.specs.Sessions.{play}
use Rattle.cstn_edit.specs.Editing.{begun_editing, edit_turn, edit_ending, last_checked}
use Rattle.cstn_top.specs.Lines.{AreAnswered, StopsUnread}
use Rattle.cstn_headline.specs.Telling.{Telling}
use Rattle.cstn_headline.specs.Sessions.{Wrote}

-- the lines are answered, and this holds of the network as edited at the last check, if there is one
abbrev pub AtLastCheck : ℕ → List (List ℕ) → Network → (Option Network → Type 0) → List (List ℕ) → Type 0
AtLastCheck cap names net holds lines = AreAnswered edit_turn (begun_editing cap names net) lines × holds (last_checked (begun_editing cap names net) None lines)

-- what is said to the lines of the live source is the text, and this holds of the lines
abbrev pub WroteEdits : ℕ → Option (List ℕ) → List ℕ → List (List ℕ) → Network → (List (List ℕ) → Type 0) → Type 0
WroteEdits cap live text names net OfLines = Wrote false edit_turn edit_ending [] (begun_editing cap names net) live text OfLines

-- The network as edited at the last check has a strategy, if there is one; or it has none; or its log has more than `cap` entries. Or a
-- line is of no grammar, too long or too late. What the texts of the answers are is told by `edit_sessions_are_true`.
abbrev pub edit_telling : ℕ → Option (List ℕ) → List ℕ → List (List ℕ) → Network → Telling
edit_telling cap live text names net = record {
  good = WroteEdits cap live text names net (AtLastCheck cap names net (λ last. IfSome last IsConsistent));
  bad = WroteEdits cap live text names net (AtLastCheck cap names net (λ last. IsSomeAnd last (λ edited. IsConsistent edited → ⊥)));
  full = WroteEdits cap live text names net (AtLastCheck cap names net (λ last. IsSomeAnd last (λ edited. cap < load_of edited)));
  unfinished = ⊥;
  script = WroteEdits cap live text names net
      (λ lines. StopsUnread edit_turn (begun_editing cap names net) (λ line. edit_read line ≡ None) lines (play edit_turn edit_ending (begun_editing cap names net) 0 lines).text);
  wide = ⊥;
}
