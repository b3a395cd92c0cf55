-- What is proved of `edit`.
use Rattle.std.proofs.Common.{◌≡◌, ◌<◌, ◌∙◌, ℕ, List, [], ap, sym, subst}
use Rattle.std.specs.Prelude.{Option, None, Some, IfSome, IsSomeAnd}
use Rattle.cstn_io.specs.Contents.{IsAllOf}
use Rattle.cstn_net.specs.Networks.{Network}
use Rattle.cstn_check.specs.Growth.{load_of}
use Rattle.cstn_net.specs.Strategies.{IsConsistent}
use Rattle.cstn_check.specs.declared.verdicts.Verdict.{Verdict}
use Rattle.cstn_lines.specs.Pieces.{lines_of}
use Rattle.cstn_reply.specs.Texts.{Said}
use Rattle.cstn_top.specs.commands.Edit.{edit_answer}
use Rattle.cstn_reply.specs.Sessions.{play}
use Rattle.cstn_lines.specs.EditLines.{edit_read}
use Rattle.cstn_edit.specs.Editing.{begun_editing, edit_turn, edit_ending, ending_by, last_checked, Editing}
use Rattle.cstn_top.proofs.Documents.{IsOfDocument}
use Rattle.cstn_check.specs.declared.verdicts.Verdict.TheVariants.{Yes, No, Full as IsFullVerdict}
use Rattle.cstn_reply.specs.Reached.{state_after}
use Rattle.cstn_reply.specs.declared.output.Outcome.{Outcome}
use Rattle.cstn_reply.specs.declared.output.Outcome.TheVariants.{Good, Bad, Full, Script}
use Rattle.cstn_top.specs.Lines.{StopsUnread}
use Rattle.cstn_top.proofs.Played.{stops_at, Played, all_answered, one_last, one_stops, played}
use Rattle.cstn_top.proofs.Turns.{edit_answers}
use Rattle.cstn_headline.specs.Telling.{Telling, OutcomeTells}
use Rattle.cstn_headline.specs.commands.Edit.{AtLastCheck, WroteEdits, edit_telling}
use Rattle.cstn_headline.proofs.Edited.{LinesTell, edits_tell}
use Rattle.cstn_headline.proofs.Sessions.{wrote}

pub edit_tells : (cap : ℕ) (source : Option (List ℕ)) (live : List ℕ) (said : Said) → IsAllOf source live → (names : List (List ℕ)) (net : Network) → IsOfDocument names net → (edit_answer cap names net).output live said → OutcomeTells (edit_telling cap source said.text names net) said.outcome
edit_tells cap source live said all names net of output = by_played (played edit_turn edit_ending (λ text. edit_read text ≡ None) (λ outcome. ⊥) edit_answers start 0 lines)
  where
    start : Editing
    start = begun_editing cap names net

    lines : List (List ℕ)
    lines = lines_of live

    end : Said
    end = play edit_turn edit_ending start 0 lines

    outcome_is : said.outcome ≡ end.outcome
    outcome_is = ap (λ (s : Said). s.outcome) output

    telling : Telling
    telling = edit_telling cap source said.text names net

    as_outcome : (o : Outcome) → said.outcome ≡ o → OutcomeTells telling o → OutcomeTells telling said.outcome
    as_outcome o is tells = subst (OutcomeTells telling) (sym is) tells

    wrote_edits : (OfLines : List (List ℕ) → Type 0) → OfLines lines → WroteEdits cap source said.text names net OfLines
    wrote_edits OfLines has = wrote _ edit_turn edit_ending [] start source live said OfLines all output has

    at_end : (reached : Editing) → state_after edit_turn start 0 lines ≡ Some reached → (v : Option Verdict) → said.outcome ≡ ending_by v → LinesTell cap (last_checked start None lines) said.outcome → OutcomeTells telling said.outcome
    at_end reached leads None is tells = as_outcome Good is (wrote_edits (AtLastCheck cap names net (λ last. IfSome last IsConsistent)) ((reached, leads), subst (LinesTell cap (last_checked start None lines)) is tells))
    at_end reached leads (Some (Yes load)) is tells = as_outcome Good is (wrote_edits (AtLastCheck cap names net (λ last. IfSome last IsConsistent)) ((reached, leads), subst (LinesTell cap (last_checked start None lines)) is tells))
    at_end reached leads (Some (No load)) is tells =
        as_outcome Bad is (wrote_edits (AtLastCheck cap names net (λ last. IsSomeAnd last (λ edited. IsConsistent edited → ⊥))) ((reached, leads), subst (LinesTell cap (last_checked start None lines)) is tells))
    at_end reached leads (Some IsFullVerdict) is tells =
        as_outcome Full is (wrote_edits (AtLastCheck cap names net (λ last. IsSomeAnd last (λ edited. cap < load_of edited))) ((reached, leads), subst (LinesTell cap (last_checked start None lines)) is tells))

    by_played : Played edit_turn edit_ending (λ text. edit_read text ≡ None) (λ outcome. ⊥) start 0 lines end → OutcomeTells telling said.outcome
    by_played (all_answered reached leads same) =
        at_end reached leads reached.verdict (outcome_is ∙ ap (λ (s : Said). s.outcome) same)
        (subst (LinesTell cap (last_checked start None lines)) (sym outcome_is) (edits_tell cap names net lines of.good of.named))
    by_played (one_last never) = absurd never
    by_played (one_stops at stops) =
        as_outcome Script (outcome_is ∙ at) (wrote_edits (λ ls. StopsUnread edit_turn start (λ line. edit_read line ≡ None) ls (play edit_turn edit_ending start 0 ls).text) (stops_at edit_turn start (λ line. edit_read line ≡ None) lines end.text stops))
