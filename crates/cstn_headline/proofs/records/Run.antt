-- What is proved of `run`.
use Rattle.std.proofs.Common.{◌≡◌, ◌∙◌, ◌<◌, ◌≤◌, ℕ, false, List, map, refl, ap, sym, subst, inl, inr, arith}
use Rattle.std.specs.Prelude.{Option, None, Some}
use Rattle.cstn_io.specs.Contents.{IsAllOf}
use Rattle.cstn_lift.specs.Labelled.{Labelled}
use Rattle.cstn_lift.specs.Lowered.{lowered}
use Rattle.cstn_check.specs.Growth.{load_of}
use Rattle.cstn_net.specs.Limits.{most_load}
use Rattle.cstn_check.specs.declared.verdicts.Verdict.{Verdict}
use Rattle.cstn_check.specs.Decisions.{verdict}
use Rattle.cstn_net.specs.Networks.{count}
use Rattle.cstn_text.specs.PrintedNames.{printed_name}
use Rattle.cstn_lines.specs.Pieces.{lines_of}
use Rattle.cstn_lines.specs.LiveLines.{live_read}
use Rattle.cstn_reply.specs.Texts.{Said, yes_line}
use Rattle.cstn_top.specs.Plans.{session}
use Rattle.cstn_top.specs.commands.Run.{run_answer, run_bounds}
use Rattle.cstn_run.specs.Meanings.{said_to, IsCarriedThrough, EndsUnfinished}
use Rattle.cstn_run.specs.Sessions.{guide_turn, guide_ending}
use Rattle.cstn_exec.specs.Runs.{due}
use Rattle.cstn_label.specs.Bounds.{Bound}
use Rattle.cstn_run.proofs.Planned.{planned}
use Rattle.cstn_check.specs.declared.verdicts.Verdict.TheVariants.{Yes, No, Full as IsFullVerdict}
use Rattle.cstn_check.proofs.Deciding.{Tells as VerdictTells, verdict_tells}
use Rattle.cstn_exec.specs.Guides.{Guided, guide_begun}
use Rattle.cstn_reply.specs.Reached.{state_after}
use Rattle.cstn_reply.specs.declared.output.Outcome.{Outcome}
use Rattle.cstn_reply.specs.declared.output.Outcome.TheVariants.{Good, Bad, Full, Unfinished, Script}
use Rattle.cstn_top.specs.Lines.{AreAnswered, StopsUnread}
use Rattle.cstn_top.specs.Verdicts.{IsLabelledYes}
use Rattle.cstn_top.proofs.Labels.{IsOfLabelled}
use Rattle.cstn_top.proofs.Played.{stops_at, Played, all_answered, one_last, one_stops, played}
use Rattle.cstn_top.proofs.Turns.{guide_answers}
use Rattle.cstn_headline.specs.Telling.{Telling, OutcomeTells}
use Rattle.cstn_headline.specs.commands.Run.{AnswersLeast, WroteRun, run_telling}
use Rattle.cstn_headline.proofs.Standing.{NoAccepted}
use Rattle.cstn_headline.proofs.Telling.{LabelledJudged, labelled_judged}
use Rattle.cstn_headline.proofs.Sessions.{wrote}
use Rattle.cstn_exec.specs.Running.{unfinished}
use Rattle.cstn_exec.specs.Sound.{IsPlanned}
use Rattle.cstn_run.proofs.Carrying.{names_least, accepts_exactly, sees_exactly, tells_due}
use Rattle.cstn_run.proofs.Ending.{timely, carried_through, ends_unfinished}

-- after yes the live bounds of the log are those of a plan
pub yes_planned : (cap : ℕ) (names : List (List ℕ)) (m : Labelled) → IsOfLabelled names m → IsLabelledYes cap m → IsPlanned m (run_bounds m)
yes_planned cap names m of yes' = by_verdict (verdict cap (lowered m)) refl (verdict_tells cap (lowered m) of.plain.good)
  where
    by_verdict : (v : Verdict) → verdict cap (lowered m) ≡ v → VerdictTells cap (lowered m) v → IsPlanned m (run_bounds m)
    by_verdict (Yes load) is tells = planned cap load m of.labelled of.plain.good is
    by_verdict (No load) is tells = absurd (tells.0 (of.same.consistent.0 yes'.0))
    by_verdict IsFullVerdict is tells = absurd (above cap (load_of (lowered m)) tells yes'.1)
      where
        above : (n load : ℕ) → n < load → load ≤ n → ⊥
        above n load over below = omega (arith, over, below)

pub answers_least : (names : List (List ℕ)) (m : Labelled) (bounds : List Bound) → IsPlanned m bounds → AnswersLeast names m bounds
answers_least names m bounds plan = record {
  moments = names_least names m bounds plan;
  accepted = accepts_exactly names m bounds plan;
  outcomes = sees_exactly names m bounds plan;
  timely = timely names m bounds plan;
  due = tells_due names m bounds plan;
}

module _ (cap : ℕ) (source : Option (List ℕ)) (live : List ℕ) (said : Said) (all : IsAllOf source live) (names : List (List ℕ)) (m : Labelled) (of : IsOfLabelled names m) where
  abbrev pub printed : List (List ℕ)
  printed = map printed_name names

  abbrev pub lines : List (List ℕ)
  lines = lines_of live

  abbrev pub telling : Telling
  telling = run_telling cap source said.text names m

  as_outcome : (o : Outcome) → said.outcome ≡ o → OutcomeTells telling o → OutcomeTells telling said.outcome
  as_outcome o is tells = subst (OutcomeTells telling) (sym is) tells

  -- the session after yes
  module _ (yes' : IsLabelledYes cap m) (output : (session (guide_turn printed m (run_bounds m)) (guide_ending m (run_bounds m)) (yes_line (load_of (lowered m))) (guide_begun (count m.base))).output live said) where
    plan : IsPlanned m (run_bounds m)
    plan = yes_planned cap names m of yes'

    abbrev end : Said
    end = said_to printed m (run_bounds m) lines

    outcome_is : said.outcome ≡ end.outcome
    outcome_is = ap (λ (s : Said). s.outcome) output

    wrote_run : (OfLines : List (List ℕ) → Type 0) → OfLines lines → WroteRun source said.text printed m OfLines
    wrote_run OfLines has = wrote false (guide_turn printed m (run_bounds m)) (guide_ending m (run_bounds m)) (yes_line (load_of (lowered m))) (guide_begun (count m.base)) source live said OfLines all output has

    ends_well : end.outcome ≡ Good → OutcomeTells telling said.outcome
    ends_well good = as_outcome Good (outcome_is ∙ good) (yes', wrote_run (IsCarriedThrough printed m (run_bounds m)) (carried_through printed m (run_bounds m) plan lines good))

    by_due : (reached : Guided) → state_after (guide_turn printed m (run_bounds m)) (guide_begun (count m.base)) 0 lines ≡ Some reached → (o : Option ℕ) → end.outcome ≡ (unfinished o).outcome → OutcomeTells telling said.outcome
    by_due reached leads None is = ends_well is
    by_due reached leads (Some t) is =
        as_outcome Unfinished (outcome_is ∙ is)
        (yes', wrote_run (λ ls. AreAnswered (guide_turn printed m (run_bounds m)) (guide_begun (count m.base)) ls × EndsUnfinished printed m (run_bounds m) ls) ((reached, leads), ends_unfinished printed m (run_bounds m) plan lines is))

    by_played : Played (guide_turn printed m (run_bounds m)) (guide_ending m (run_bounds m)) (λ text. live_read text ≡ None) (λ outcome. outcome ≡ Good) (guide_begun (count m.base)) 0 lines end → OutcomeTells telling said.outcome
    by_played (all_answered reached leads same) = by_due reached leads (due (lowered m) (run_bounds m) reached.run) (ap (λ (s : Said). s.outcome) same)
    by_played (one_last good) = ends_well good
    by_played (one_stops at stops) =
        as_outcome Script (outcome_is ∙ at) (
          yes',
          wrote_run (λ ls. StopsUnread (guide_turn printed m (run_bounds m)) (guide_begun (count m.base)) (λ line. live_read line ≡ None) ls (said_to printed m (run_bounds m) ls).text)
              (stops_at (guide_turn printed m (run_bounds m)) (guide_begun (count m.base)) (λ line. live_read line ≡ None) lines end.text stops),
        )

    after_yes : OutcomeTells telling said.outcome
    after_yes = by_played (played (guide_turn printed m (run_bounds m)) (guide_ending m (run_bounds m)) (λ text. live_read text ≡ None) (λ outcome. outcome ≡ Good) (guide_answers printed m (run_bounds m)) (guide_begun (count m.base)) 0 lines)

  by_judged : LabelledJudged cap names m ((session (guide_turn printed m (run_bounds m)) (guide_ending m (run_bounds m)) (yes_line (load_of (lowered m))) (guide_begun (count m.base))).output live said) said → OutcomeTells telling said.outcome
  by_judged (inl is) = after_yes is.0 is.1
  by_judged (inr (inl is)) = as_outcome Bad is.0 is.1
  by_judged (inr (inr is)) = as_outcome Full is.0 is.1

  pub run_tells : NoAccepted → cap ≤ most_load → (run_answer cap names m).output live said → OutcomeTells telling said.outcome
  run_tells no_text capped output =
      by_judged (labelled_judged no_text cap names m (session (guide_turn printed m (run_bounds m)) (guide_ending m (run_bounds m)) (yes_line (load_of (lowered m))) (guide_begun (count m.base))) live said of capped output)
