-- What the end of a session shows.
use Rattle.std.proofs.Common.{◌≡◌, Bool, true, false, refl, ap}
use Rattle.std.specs.Prelude.{◌↔◌, ◌++◌, if◌then◌else◌, codes, decimal}
use Rattle.cstn_label.specs.Labels.{Scenario}
use Rattle.cstn_check.specs.declared.verdicts.Verdict.{Verdict}
use Rattle.cstn_check.specs.declared.verdicts.Verdict.TheVariants.{Yes, No, Full as IsFull}
use Rattle.cstn_history.specs.Histories.{AgreesWith}
use Rattle.cstn_history.specs.Continuations.{Can}
use Rattle.cstn_next.specs.Next.{IsAllDone}
use Rattle.cstn_reply.specs.Texts.{Said, say}
use Rattle.cstn_reply.specs.declared.output.Outcome.{Outcome}
use Rattle.cstn_reply.specs.declared.output.Outcome.TheVariants.{Good, Bad, Unfinished}
use Rattle.cstn_follow.specs.Following.{Following, verdict_now, is_any_open, following_ending, outcome_by}
use Rattle.cstn_follow.specs.Turns.{IsTrueOfSession}
use Rattle.cstn_followed.specs.Sessions.{IsReached}
use Rattle.cstn_followed.specs.Finished.{IsCarriedOut, HaveTheSame}
use Rattle.cstn_followed.proofs.Verdicts.{reached_sound, states_true}
use Rattle.cstn_followed.proofs.Questions.{nothing_left}
use Rattle.cstn_followed.proofs.Carried.{carried_exactly, all_alike}

pub ended_exactly : (s : Following) → IsReached s → IsAllDone s.network s.history → (Can s.network s.history ↔ IsCarriedOut s.network s.history)
ended_exactly s reached over =
    let sound = reached_sound s reached in carried_exactly s.network s.history sound.labelled sound.timely.history over

pub ended_alike : (s : Following) (a b : Scenario) → IsReached s → IsAllDone s.network s.history → AgreesWith s.history a → AgreesWith s.history b
    → HaveTheSame s.network a b
ended_alike s a b reached over agrees also =
    let sound = reached_sound s reached in all_alike s.network s.history sound.labelled sound.timely.history over a b agrees also

-- how the session ends, by whether something is left and by its verdict
abbrev end_by : Following → Bool → Verdict → Outcome
end_by s open_ v = if open_ then Unfinished else outcome_by v

outcome_is : (s : Following) (o : Outcome) → following_ending s ≡ say o (codes "done") → end_by s (is_any_open s) (verdict_now s) ≡ o
outcome_is s o is = by_open (is_any_open s) is
  where
    by_open : (open_ : Bool) → (if open_ then say Unfinished (codes "unfinished " ++ decimal s.history.now) else say (outcome_by (verdict_now s)) (codes "done"))
        ≡ say o (codes "done") → end_by s open_ (verdict_now s) ≡ o
    by_open true at = ap (λ (said : Said). said.outcome) at
    by_open false at = ap (λ (said : Said). said.outcome) at

pub ended_good : (s : Following) → IsReached s → following_ending s ≡ say Good (codes "done") → IsCarriedOut s.network s.history
ended_good s reached is = by (is_any_open s) refl (verdict_now s) (states_true s reached) (outcome_is s Good is)
  where
    by : (open_ : Bool) → is_any_open s ≡ open_ → (v : Verdict) → IsTrueOfSession s v → end_by s open_ v ≡ Good → IsCarriedOut s.network s.history
    by true at v truly same = absurd (cc)
    by false at (Yes load) can same = (ended_exactly s reached ((nothing_left s reached).0 at)).0 can
    by false at (No load) never same = absurd (cc)
    by false at IsFull above same = absurd (cc)

pub ended_bad : (s : Following) → IsReached s → following_ending s ≡ say Bad (codes "done") → IsCarriedOut s.network s.history → ⊥
ended_bad s reached is out = by (is_any_open s) refl (verdict_now s) (states_true s reached) (outcome_is s Bad is)
  where
    by : (open_ : Bool) → is_any_open s ≡ open_ → (v : Verdict) → IsTrueOfSession s v → end_by s open_ v ≡ Bad → ⊥
    by true at v truly same = absurd (cc)
    by false at (Yes load) can same = absurd (cc)
    by false at (No load) never same = never ((ended_exactly s reached ((nothing_left s reached).0 at)).1 out)
    by false at IsFull above same = absurd (cc)
