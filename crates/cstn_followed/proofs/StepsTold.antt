-- A further time-point is put behind the others, or refused.
use Rattle.std.proofs.Common.{ℕ, ◌≡◌, ◌≤◌, Bool, true, false, List, [], ◌∷◌, ◌++◌, Option, Some, None, refl, sym, subst, ap, ◌∙◌, inl, inr}
use Rattle.std.specs.Prelude.{◌⊎◌, ◌↔◌, nat_le, if◌then◌else◌, codes, decimal}
use Rattle.std.specs.Option.{option_map}
use Rattle.cstn_net.specs.Limits.{most_edits, most_time_points}
use Rattle.cstn_net.specs.Networks.{count}
use Rattle.cstn_text.specs.Names.{number_of}
use Rattle.cstn_text.specs.PrintedNames.{printed_name}
use Rattle.cstn_check.specs.declared.verdicts.Verdict.{Verdict}
use Rattle.cstn_history.specs.Continuations.{Can}
use Rattle.cstn_history.proofs.FurtherPoint.{stepped_goes}
use Rattle.cstn_reply.specs.Texts.{line}
use Rattle.cstn_reply.specs.Sessions.{Turn, more, last, wrong}
use Rattle.cstn_save.specs.Canonical.{canonical}
use Rattle.cstn_follow.specs.Amending.{steps}
use Rattle.cstn_follow.specs.Asking.{Spoken, of_amendment, spoken_read}
use Rattle.cstn_follow.specs.Following.{Following, name_of_point, verdict_within, on_left_verdict}
use Rattle.cstn_follow.specs.Hearing.{counted, hear}
use Rattle.cstn_follow.specs.StepLines.{with_step, step_error_text, twice_refusal, step_refusal, step_unless}
use Rattle.cstn_follow.specs.Stepping.{no_room}
use Rattle.cstn_follow.specs.Turns.{heard_by}
use Rattle.cstn_follow.specs.declared.errors.StepError.{StepError}
use Rattle.cstn_follow.specs.declared.errors.StepError.TheVariants.{EditLimit, NoPlace, TooManyConstraints, Memory}
use Rattle.cstn_follow.proofs.SteppedSession.{few_edits, roomy}
use Rattle.cstn_followed.specs.Edits.{Steps}
use Rattle.cstn_followed.specs.Plans.{IsRefusedBy}
use Rattle.cstn_followed.specs.Sessions.{IsReached, follow_turn}
use Rattle.cstn_followed.proofs.Verdicts.{reached_sound}

-- what a turn says to `step`
abbrev TurnSteps : Following → List ℕ → Turn Following → Type 0
TurnSteps s name (more text next) = IsRefusedBy s text next ⊎ Steps s name text next
TurnSteps s name (last said) = ⊥
TurnSteps s name wrong = ⊥

twice_why : (s : Following) (name : List ℕ) (x : ℕ) (o : Option ℕ)
    → (why : List ℕ) × (line (twice_refusal s.names name x o) ≡ line (codes "refused " ++ why))
twice_why s name x (Some t) = (codes "F4 " ++ printed_name (name_of_point s.names x) ++ 32 ∷ decimal t, refl)
twice_why s name x None = (codes "S8 " ++ printed_name name, refl)

-- why there is no room is never want of memory
room_why : (edits points : ℕ) (error : StepError) → no_room edits points ≡ Some error
    → (why : List ℕ) × (line (step_error_text error) ≡ line (codes "refused " ++ why))
room_why edits points EditLimit is = (codes "S6", refl)
room_why edits points NoPlace is = (codes "S9", refl)
room_why edits points TooManyConstraints is = (codes "F8", refl)
room_why edits points (Memory e) is = absurd (by (nat_le most_edits edits) (nat_le most_time_points points) is)
  where
    by : (a b : Bool) → (if a then Some EditLimit else if b then Some NoPlace else None) ≡ Some (Memory e) → ⊥
    by true b so = cc
    by false true so = cc
    by false false so = cc

step_says : (s : Following) (name : List ℕ) (o : Option ℕ) → number_of s.names name ≡ o
    → TurnSteps s name (heard_by canonical (step_unless (counted s) name (step_refusal (counted s) name o)))
step_says s name (Some x) found = inl (refl, twice_why s name x (s.history.done x))
step_says s name None new = by_room (no_room s.edits (count s.network.base)) refl
  where
    by_verdict : no_room s.edits (count s.network.base) ≡ None → (o : Option Verdict)
        → TurnSteps s name (heard_by canonical (on_left_verdict (counted s) (with_step (counted s) name) (λ v. line (codes "step " ++ printed_name name)) o))
    by_verdict room None = inl (refl, (codes "F8", refl))
    by_verdict room (Some v) = inr (record {
      new = new;
      few = few_edits s.edits (count s.network.base) room;
      room = roomy s.edits (count s.network.base) room;
      next_is = refl;
      text_is = refl;
    })

    by_room : (o : Option StepError) → no_room s.edits (count s.network.base) ≡ o
        → TurnSteps s name (heard_by canonical (step_unless (counted s) name (option_map step_error_text o)))
    by_room (Some error) room = inl (refl, room_why s.edits (count s.network.base) error room)
    by_room None room = by_verdict room (verdict_within (with_step (counted s) name))

pub step_answered : (s next : Following) (bytes text name : List ℕ) → spoken_read bytes ≡ Some (of_amendment (steps name))
    → follow_turn s bytes ≡ more text next → IsRefusedBy s text next ⊎ Steps s name text next
step_answered s next bytes text name reads answered =
    subst (TurnSteps s name) (ap (λ (o : Option Spoken). heard_by canonical (hear s o)) (sym reads) ∙ answered)
    (step_says s name (number_of s.names name) refl)

-- whatever could go on can go on, unless it is past the deadline
pub step_goes : (s next : Following) (name text : List ℕ) → IsReached s → Steps s name text next
    → (Can next.network next.history ↔ (Can s.network s.history × (s.history.now ≤ s.network.base.deadline)))
step_goes s next name text reached made =
    let sound = reached_sound s reached in
    subst (λ (g : Following). Can g.network g.history ↔ (Can s.network s.history × (s.history.now ≤ s.network.base.deadline))) (sym made.next_is)
    (stepped_goes s.network sound.labelled s.history sound.timely.history)
