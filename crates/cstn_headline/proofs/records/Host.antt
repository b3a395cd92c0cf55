-- What is proved of `host`.
use Rattle.std.proofs.Common.{◌≡◌, ◌∙◌, ◌<◌, ◌≤◌, ℕ, false, List, [], ◌∷◌, map, refl, ap, sym, subst, inl, inr, arith}
use Rattle.std.specs.Prelude.{◌⊎◌, Option, None, Some}
use Rattle.cstn_io.specs.Contents.{IsAllOf}
use Rattle.cstn_net.specs.Limits.{most_load}
use Rattle.cstn_net.specs.Networks.{Network}
use Rattle.cstn_check.specs.Growth.{load_of}
use Rattle.cstn_reply.specs.Texts.{Said, after_text}
use Rattle.cstn_run.specs.hosted.Sessions.{host_turn, host_ending, HostSession, host_begun, host_ended, unfinished}
use Rattle.cstn_reply.specs.Sessions.{play, answers}
use Rattle.cstn_lines.specs.Pieces.{lines_of}
use Rattle.cstn_top.specs.commands.Host.{hosted_plan, attended, EachHas, FirstHas, FirstRefused}
use Rattle.cstn_lines.specs.HostLines.{host_read}
use Rattle.cstn_run.specs.hosted.Files.{Named, the_file, yes_lines}
use Rattle.cstn_headline.proofs.Standing.{NoAccepted}
use Rattle.cstn_check.specs.Decisions.{IsNo, IsYes}
use Rattle.cstn_headline.specs.Accepted.{IsNoText}
use Rattle.cstn_reply.specs.Reached.{state_after}
use Rattle.cstn_reply.specs.declared.output.Outcome.{Outcome}
use Rattle.cstn_reply.specs.declared.output.Outcome.TheVariants.{Good, Bad, Document, Full, Unfinished, Script}
use Rattle.cstn_top.specs.Lines.{StopsUnread}
use Rattle.cstn_top.proofs.Hosts.{AreNetworks as AreTaken, session_of, Read, documents_say, IsToldNo, verdicts_say, first_then}
use Rattle.cstn_top.proofs.Played.{stops_at, Played, all_answered, one_last, one_stops, played}
use Rattle.cstn_top.proofs.Turns.{host_answers}
use Rattle.cstn_headline.specs.Telling.{Telling, OutcomeTells}
use Rattle.cstn_headline.specs.Sessions.{EndsIn}
use Rattle.cstn_headline.specs.commands.Host.{AreNetworks, ArePlansDone, EndsLeftOver, WroteHost, host_telling, HostTells}
use Rattle.cstn_headline.proofs.Hosting.{all_done, left_over}
use Rattle.cstn_headline.proofs.Sessions.{wrote}

are_networks : (contents : List (List ℕ)) (deadline : Option ℕ) (all : List Named) → AreTaken contents deadline all → AreNetworks contents deadline all
are_networks [] deadline [] are = tt
are_networks [] deadline (named ∷ all) are = are
are_networks (bytes ∷ rest) deadline [] are = are
are_networks (bytes ∷ rest) deadline (named ∷ all) are = (are.0, are_networks rest deadline all are.2)

module _ (no_text : NoAccepted) (cap : ℕ) (capped : cap ≤ most_load) (deadline : Option ℕ) (contents : List (List ℕ)) (source : Option (List ℕ)) (live : List ℕ) (said : Said) (all : IsAllOf source live) where
  abbrev pub lines : List (List ℕ)
  lines = lines_of live

  abbrev pub telling : Telling
  telling = host_telling cap deadline contents source said.text

  as_outcome : (o : Outcome) → said.outcome ≡ o → OutcomeTells telling o → OutcomeTells telling said.outcome
  as_outcome o is tells = subst (OutcomeTells telling) (sym is) tells

  -- the session after each yes
  module _ (nets : List Named) (are : AreTaken contents deadline nets) (each : EachHas contents deadline (IsYes cap)) (output : (session_of cap nets).output live said) where
    abbrev start : HostSession
    start = host_begun (map the_file nets)

    abbrev end : Said
    end = play host_turn host_ending start 0 lines

    outcome_is : said.outcome ≡ end.outcome
    outcome_is = ap (λ (s : Said). s.outcome) output

    wrote_host : (OfLines : HostSession → List (List ℕ) → Type 0) → OfLines start lines → WroteHost cap deadline contents source said.text OfLines
    wrote_host OfLines has = record { all = nets; are = are_networks contents deadline nets are; consistent = each; wrote = wrote false host_turn host_ending (yes_lines nets) start source live said (OfLines start) all output has }

    at_end : (reached : HostSession) → state_after host_turn start 0 lines ≡ Some reached → (o : Option (ℕ × ℕ)) → unfinished reached ≡ o → end ≡ after_text (answers host_turn start 0 lines) (host_ended o) → OutcomeTells telling said.outcome
    at_end reached leads None none is =
        as_outcome Good (outcome_is ∙ ap (λ (s : Said). s.outcome) is) (wrote_host (λ first. EndsIn host_turn first ArePlansDone) (reached, leads, all_done reached none))
    at_end reached leads (Some found) some is =
        as_outcome Unfinished (outcome_is ∙ ap (λ (s : Said). s.outcome) is)
        (wrote_host EndsLeftOver (record { id = found.0; due = found.1; ends = (reached, leads, left_over reached found.0 found.1 some); text_is = ap (λ (s : Said). s.text) is }))

    by_played : Played host_turn host_ending (λ text. host_read text ≡ None) (λ outcome. ⊥) start 0 lines end → OutcomeTells telling said.outcome
    by_played (all_answered reached leads same) = at_end reached leads (unfinished reached) refl same
    by_played (one_last never) = absurd never
    by_played (one_stops at stops) =
        as_outcome Script (outcome_is ∙ at)
        (wrote_host (λ first ls. StopsUnread host_turn first (λ text. host_read text ≡ None) ls (play host_turn host_ending first 0 ls).text) (stops_at host_turn start (λ text. host_read text ≡ None) lines end.text stops))

    after_yes : OutcomeTells telling said.outcome
    after_yes = by_played (played host_turn host_ending (λ text. host_read text ≡ None) (λ outcome. ⊥) host_answers start 0 lines)

  told_no : (names : List (List ℕ)) (net : Network) → IsToldNo cap said names net → IsNo cap net × IsNoText names net said.text
  told_no names net (of, no', text) = (no', subst (IsNoText names net) (sym text) (no_text names net of.good of.are of.named of.ids (omega (arith, no'.1, capped)) no'.0))

  by_verdicts : (nets : List Named) → AreTaken contents deadline nets →
      (EachHas contents deadline (IsYes cap) × (session_of cap nets).output live said) ⊎ (((said.outcome ≡ Bad) × FirstHas contents deadline cap (IsToldNo cap said)) ⊎ ((said.outcome ≡ Full) × FirstHas contents deadline cap (λ names net. cap < load_of net))) →
      OutcomeTells telling said.outcome
  by_verdicts nets are (inl is) = after_yes nets are is.0 is.1
  by_verdicts nets are (inr (inl is)) = as_outcome Bad is.0 (first_then contents deadline cap (IsToldNo cap said) (λ names net. IsNo cap net × IsNoText names net said.text) told_no is.1)
  by_verdicts nets are (inr (inr is)) = as_outcome Full is.0 is.1

  pub host_told : (hosted_plan cap deadline contents).output live said → HostTells cap deadline said.outcome source said.text contents
  host_told output = by_documents (documents_say (attended cap) deadline live said [] contents output)
    where
      by_documents : ((said.outcome ≡ Document) × FirstRefused contents deadline) ⊎ Read contents deadline (λ nets. (attended cap nets).output live said) → HostTells cap deadline said.outcome source said.text contents
      by_documents (inl is) = inl is
      by_documents (inr read) = inr (by_verdicts read.all read.are (verdicts_say cap (session_of cap read.all) deadline live said contents read.all read.are read.held))
