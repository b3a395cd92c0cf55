-- What is proved of `follow`.
use Rattle.std.proofs.Common.{◌≡◌, ◌<◌, ◌++◌, ◌∙◌, ℕ, Bool, true, false, List, refl, ap, sym, subst}
use Rattle.std.specs.Prelude.{Option, Some, if◌then◌else◌, codes, decimal}
use Rattle.cstn_io.specs.Contents.{IsAllOf}
use Rattle.cstn_lift.specs.Labelled.{Labelled}
use Rattle.cstn_lift.specs.Lowered.{lowered}
use Rattle.cstn_check.specs.Growth.{load_of}
use Rattle.cstn_check.specs.declared.verdicts.Verdict.{Verdict}
use Rattle.cstn_lines.specs.Pieces.{heard_lines}
use Rattle.cstn_reply.specs.Texts.{Said, say}
use Rattle.cstn_top.specs.commands.Follow.{follow_answer, marked_turn, follow_opening}
use Rattle.cstn_follow.specs.Following.{begun_following, left_now, verdict_now, is_any_open, outcome_by}
use Rattle.cstn_follow.specs.Marks.{Marked, begun_marked, marked_ending}
use Rattle.cstn_reply.specs.Sessions.{play}
use Rattle.cstn_save.specs.Canonical.{canonical}
use Rattle.cstn_check.specs.declared.verdicts.Verdict.TheVariants.{Yes, No, Full as IsFullVerdict}
use Rattle.cstn_history.specs.Continuations.{Can}
use Rattle.cstn_follow.specs.Turns.{IsTrueOfSession}
use Rattle.cstn_follow.proofs.MarkedStates.{marked_sound}
use Rattle.cstn_follow.proofs.States.{verdict_true}
use Rattle.cstn_reply.specs.Reached.{state_after}
use Rattle.cstn_reply.specs.declared.output.Outcome.{Outcome}
use Rattle.cstn_reply.specs.declared.output.Outcome.TheVariants.{Good, Bad, Full, Unfinished, Script}
use Rattle.cstn_top.specs.Lines.{StopsUnread}
use Rattle.cstn_top.proofs.Labels.{IsOfLabelled}
use Rattle.cstn_top.proofs.Played.{stops_at, Played, all_answered, one_last, one_stops, played}
use Rattle.cstn_top.proofs.Turns.{follow_answers}
use Rattle.cstn_headline.specs.Telling.{Telling, OutcomeTells}
use Rattle.cstn_headline.specs.Sessions.{EndsIn}
use Rattle.cstn_headline.specs.commands.Follow.{IsFollowingOver, WroteFollowing, follow_telling}
use Rattle.cstn_headline.proofs.Sessions.{wrote}

pub follow_tells : (cap : ℕ) (source : Option (List ℕ)) (live : List ℕ) (said : Said) → IsAllOf source live → (names : List (List ℕ)) (m : Labelled) → IsOfLabelled names m → (follow_answer cap names m).output live said → OutcomeTells (follow_telling cap source said.text names m) said.outcome
follow_tells cap source live said all names m of output = by_played (played marked_turn marked_ending (λ text. ⊥) (λ outcome. ⊥) follow_answers start 0 lines)
  where
    start : Marked
    start = begun_marked cap names m

    lines : List (List ℕ)
    lines = heard_lines true live

    end : Said
    end = play marked_turn marked_ending start 0 lines

    outcome_is : said.outcome ≡ end.outcome
    outcome_is = ap (λ (s : Said). s.outcome) output

    telling : Telling
    telling = follow_telling cap source said.text names m

    as_outcome : (o : Outcome) → said.outcome ≡ o → OutcomeTells telling o → OutcomeTells telling said.outcome
    as_outcome o is tells = subst (OutcomeTells telling) (sym is) tells

    wrote_lines : (OfLines : List (List ℕ) → Type 0) → OfLines lines → WroteFollowing cap source said.text names m OfLines
    wrote_lines OfLines has = wrote true marked_turn marked_ending (follow_opening start.now) start source live said OfLines all output has

    at_verdict : (reached : Marked) → state_after marked_turn start 0 lines ≡ Some reached → is_any_open reached.now ≡ false → (v : Verdict) → said.outcome ≡ outcome_by v → IsTrueOfSession reached.now v → OutcomeTells telling said.outcome
    at_verdict reached leads over (Yes load) is true_of = as_outcome Good is (wrote_lines (IsFollowingOver cap names m (λ s. Can s.network s.history)) (reached, leads, (over, true_of)))
    at_verdict reached leads over (No load) is true_of = as_outcome Bad is (wrote_lines (IsFollowingOver cap names m (λ s. Can s.network s.history → ⊥)) (reached, leads, (over, true_of)))
    at_verdict reached leads over IsFullVerdict is true_of = as_outcome Full is (wrote_lines (IsFollowingOver cap names m (λ s. s.cap < load_of (lowered (left_now s)))) (reached, leads, (over, true_of)))

    at_end : (reached : Marked) → state_after marked_turn start 0 lines ≡ Some reached → (some_open : Bool) → is_any_open reached.now ≡ some_open →
        said.outcome ≡ (if some_open then say Unfinished (codes "unfinished " ++ decimal reached.now.history.now) else say (outcome_by (verdict_now reached.now)) (codes "done")).outcome → OutcomeTells telling said.outcome
    at_end reached leads true open_ is = as_outcome Unfinished is (wrote_lines (EndsIn marked_turn start (λ t. is_any_open t.now ≡ true)) (reached, leads, open_))
    at_end reached leads false over is =
        at_verdict reached leads over (verdict_now reached.now) is
        (verdict_true reached.now (verdict_now reached.now)
        (marked_sound canonical cap names m reached lines of.labelled of.plain.good.few_constraints of.plain.named leads).now refl)

    by_played : Played marked_turn marked_ending (λ text. ⊥) (λ outcome. ⊥) start 0 lines end → OutcomeTells telling said.outcome
    by_played (all_answered reached leads same) = at_end reached leads (is_any_open reached.now) refl (outcome_is ∙ ap (λ (s : Said). s.outcome) same)
    by_played (one_last never) = absurd never
    by_played (one_stops at stops) =
        as_outcome Script (outcome_is ∙ at) (wrote_lines (λ ls. StopsUnread marked_turn start (λ line. ⊥) ls (play marked_turn marked_ending start 0 ls).text) (stops_at marked_turn start (λ line. ⊥) lines end.text stops))
