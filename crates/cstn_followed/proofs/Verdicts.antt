-- The verdicts of a session that follows are true, and facts are recorded or refused.
use Rattle.std.proofs.Common.{ℕ, ◌≡◌, List, Option, Some, None, refl, sym, subst, ap, ◌∙◌, inl, inr}
use Rattle.std.specs.Prelude.{◌⊎◌, codes}
use Rattle.cstn_check.specs.declared.verdicts.Verdict.{Verdict}
use Rattle.cstn_history.specs.Histories.{History, IsTimelyHistory}
use Rattle.cstn_lines.specs.FollowLines.{Follow, follow_read, IsFollow}
use Rattle.cstn_lines.proofs.FollowLemmas.{follow_is}
use Rattle.cstn_reply.specs.Sessions.{Turn, more, last, wrong}
use Rattle.cstn_save.specs.Canonical.{canonical}
use Rattle.cstn_follow.specs.Following.{Following, Heard, says, saves, begun_following, verdict_now, verdict_within, on_left_verdict, verdict_line}
use Rattle.cstn_follow.specs.FactLines.{records}
use Rattle.cstn_follow.specs.Asking.{Spoken}
use Rattle.cstn_follow.specs.Hearing.{on_follow, counted, hear}
use Rattle.cstn_follow.specs.Recorded.{IsFact, IsRecorded}
use Rattle.cstn_follow.specs.Turns.{IsTrueOfSession, heard_by}
use Rattle.cstn_follow.proofs.Edited.{within_is}
use Rattle.cstn_follow.proofs.FurtherLines.{line_spoken}
use Rattle.cstn_follow.proofs.States.{IsSound, fact_is, counted_sound, lines_sound, begun_sound, verdict_true}
use Rattle.cstn_followed.specs.Sessions.{IsReached, follow_turn}
use Rattle.cstn_followed.specs.Answers.{Accepts}
use Rattle.cstn_followed.specs.Plans.{IsRefusedBy}

-- a state that lines lead to is sound
pub reached_sound : (s : Following) → IsReached s → IsSound s
reached_sound s r = lines_sound canonical (begun_following r.cap r.names r.network) s 0 r.lines (begun_sound r.cap r.names r.network r.labelled r.few r.named) r.leads

pub states_true : (s : Following) → IsReached s → IsTrueOfSession s (verdict_now s)
states_true s r = verdict_true s (verdict_now s) (reached_sound s r) refl

-- ---- the answers to facts

-- a fact is refused, and nothing else but the count of lines changes, or it is accepted
abbrev FactAnswer : Following → Follow → Heard → Type 0
FactAnswer s fact (says text next) = IsRefusedBy s text next ⊎ Accepts s fact text next
FactAnswer s fact (saves how m names next) = ⊥

records_answer : (s : Following) (fact : Follow) (h : History) → IsSound s → IsTimelyHistory s.network h → IsRecorded s.names s.history fact h
    → FactAnswer s fact (records (counted s) h)
records_answer s fact h sound timely recorded = by_verdict (verdict_within next) refl
  where
    next : Following
    next = record (counted s) { history = h }

    by_verdict : (o : Option Verdict) → verdict_within next ≡ o → FactAnswer s fact (on_left_verdict (counted s) next (verdict_line s.cap) o)
    by_verdict None is = inl (refl, (codes "F8", refl))
    by_verdict (Some v) is =
        let same = within_is next v is in
        let next_sound : IsSound next =
        record { labelled = sound.labelled; named = sound.named; timely = timely; above = sound.above; verdict = is ∙ ap Some same } in
        inr (record {
          later = h;
          recorded = recorded;
          next_is = refl;
          text_is = ap (verdict_line s.cap) same;
          is_true = verdict_true next (verdict_now next) next_sound refl;
        })

line_answer : (s : Following) (fact : Follow) → IsSound s → IsFact fact → IsFollow fact → FactAnswer s fact (on_follow (counted s) fact)
line_answer s fact sound =
    fact_is (counted s) (counted_sound s sound) (FactAnswer s) (λ fact text why. inl (refl, why)) (λ fact h timely is. records_answer s fact h sound timely is) fact

-- what a turn says to a fact
abbrev TurnAnswer : Following → Follow → Turn Following → Type 0
TurnAnswer s fact (more text next) = IsRefusedBy s text next ⊎ Accepts s fact text next
TurnAnswer s fact (last said) = ⊥
TurnAnswer s fact wrong = ⊥

turn_answer : (s : Following) (fact : Follow) (heard : Heard) → FactAnswer s fact heard → TurnAnswer s fact (heard_by canonical heard)
turn_answer s fact (says text next) answer = answer
turn_answer s fact (saves how m names next) answer = absurd answer

-- the answer to a fact
pub fact_accepted : (s next : Following) (bytes text : List ℕ) (fact : Follow) → IsSound s → follow_read bytes ≡ Some fact → IsFact fact
    → follow_turn s bytes ≡ more text next → IsRefusedBy s text next ⊎ Accepts s fact text next
fact_accepted s next bytes text fact sound reads is answered =
    let one : FactAnswer s fact (on_follow (counted s) fact) = line_answer s fact sound is (follow_is bytes fact reads) in
    subst (TurnAnswer s fact) (ap (λ (o : Option Spoken). heard_by canonical (hear s o)) (sym (line_spoken bytes fact reads)) ∙ answered)
    (turn_answer s fact (on_follow (counted s) fact) one)

pub fact_answered : (s next : Following) (bytes text : List ℕ) (fact : Follow) → IsReached s → follow_read bytes ≡ Some fact → IsFact fact
    → follow_turn s bytes ≡ more text next → IsRefusedBy s text next ⊎ Accepts s fact text next
fact_answered s next bytes text fact reached = fact_accepted s next bytes text fact (reached_sound s reached)
