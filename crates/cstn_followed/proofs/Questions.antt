-- What is answered to the questions of a session that follows is true of what has happened.
use Rattle.std.proofs.Common.{ℕ, zero, suc, ◌≡◌, ◌<◌, Bool, true, false, not, ◌&&◌, List, [], length, Option, Some, None, arith, refl, sym, subst, ap, ◌∙◌}
use Rattle.std.proofs.Common.{inl, inr}
use Rattle.std.specs.Prelude.{◌↔◌, if◌then◌else◌, bytes_eq}
use Rattle.std.specs.Option.{is_some}
use Rattle.std.proofs.lemmas.Bool.{and_parts, ltb-true}
use Rattle.std.proofs.lemmas.List.Quantifiers.{position-Some}
use Rattle.cstn_facts.proofs.Ranges.{passing_ascends}
use Rattle.cstn_label.specs.Bounds.{Bound}
use Rattle.cstn_net.specs.Limits.{most_constraints}
use Rattle.cstn_net.specs.Networks.{Network, count}
use Rattle.cstn_text.specs.Names.{number_of}
use Rattle.cstn_lift.specs.Completion.{completed_label}
use Rattle.cstn_lift.specs.Lowered.{lowered}
use Rattle.cstn_lift.proofs.Equivalent.{equivalent}
use Rattle.cstn_lift.proofs.WellFormed.{lowered_well_formed}
use Rattle.cstn_check.specs.Growth.{log_of, live_bounds}
use Rattle.cstn_check.specs.declared.verdicts.Verdict.{Verdict}
use Rattle.cstn_check.specs.declared.verdicts.Verdict.TheVariants.{Yes, No, Full}
use Rattle.cstn_check.proofs.Decides.{log_decides, log_closed, log_sound}
use Rattle.cstn_history.specs.Histories.{allows}
use Rattle.cstn_history.specs.Continuations.{Can}
use Rattle.cstn_history.specs.Rest.{sight_left, is_left, rest}
use Rattle.cstn_history.specs.Handed.{HasFewConstraints}
use Rattle.cstn_history.proofs.Decides.{can_both}
use Rattle.cstn_next.specs.Next.{IsPlannedBy, IsAllDone, coming_at, awaited_from, is_upto, next_moment, named_at_next, awaited_props}
use Rattle.cstn_next.proofs.Exact.{is_next, named_exactly, awaited_exactly, done_exactly}
use Rattle.cstn_lines.specs.FollowLines.{Follow, follow_read, asks_next, asks_by, asks_blame}
use Rattle.cstn_reply.specs.Texts.{line}
use Rattle.cstn_reply.specs.Sessions.{Turn, more, last, wrong}
use Rattle.cstn_history.specs.Facts.{Undecided}
use Rattle.cstn_follow.specs.Following.{Following, Heard, says, saves, left_now, verdict_now, verdict_within, verdict_line, too_many}
use Rattle.cstn_follow.specs.Following.{is_any_open}
use Rattle.cstn_follow.specs.FactLines.{refused_fact}
use Rattle.cstn_follow.specs.Asking.{Spoken}
use Rattle.cstn_follow.specs.Hearing.{on_follow, counted, hear}
use Rattle.cstn_follow.specs.Questions.{next_at, next_after}
use Rattle.cstn_follow.specs.Searches.{has_place_for_one, by_refusal, until_text, by_after, by_unless, by_number, blame_line, blame_after}
use Rattle.cstn_check.proofs.Halves.{none_found}
use Rattle.cstn_check.proofs.Leaving.{found_own, found_none}
use Rattle.cstn_check.proofs.Said.{said_full}
use Rattle.cstn_follow.specs.Waiting.{HasRoomToWait, rest_until, tried_until, waits_until}
use Rattle.cstn_follow.specs.Blame.{network_alone, said_by_network, ids_to_blame}
use Rattle.cstn_follow.proofs.AllDone.{none_open, all_closed}
use Rattle.cstn_follow.proofs.Blamed.{found_stops, found_needed, found_ascend}
use Rattle.cstn_follow.proofs.GoesOn.{left_says, left_labelled, verdict_right}
use Rattle.cstn_follow.proofs.Until.{last_found}
use Rattle.cstn_save.specs.Canonical.{canonical}
use Rattle.cstn_follow.specs.Turns.{heard_by}
use Rattle.cstn_followed.specs.Sessions.{IsReached, follow_turn}
use Rattle.cstn_followed.specs.Answers.{AnswersNext, AnswersWait, UnlessRefused, AnswersBy, AnswersBlame}
use Rattle.cstn_follow.proofs.FurtherLines.{line_spoken}
use Rattle.cstn_follow.proofs.States.{IsSound}
use Rattle.cstn_followed.proofs.Verdicts.{reached_sound}

-- a question is answered by such a text, and nothing changes
abbrev Tells : Following → (List ℕ → Type 0) → Heard → Type 0
Tells s P (says text next) = (next ≡ s) × P text
Tells s P (saves how m names next) = ⊥

-- ---- what is next

-- after yes the live bounds of the log of what is left are those of a sound plan of it
planned : (s : Following) (load : ℕ) → IsSound s → verdict_now s ≡ Yes load
    → IsPlannedBy s.network s.history s.fresh (live_bounds (log_of (lowered (left_now s))))
planned s load sound is =
    let within = sound.verdict ∙ ap Some is in
    let left = left_labelled s.network s.history s.fresh s.cap (Yes load) within sound.labelled sound.timely sound.above in
    let room = (left_says s.network s.history s.fresh s.cap (Yes load) within).0 in
    let net = lowered (left_now s) in
    let good = lowered_well_formed (left_now s) left room.lowered in
    let can = verdict_right s.network s.history s.fresh s.cap (Yes load) sound.labelled sound.timely sound.above within in
    let consistent = (equivalent (left_now s) left).consistent.0 ((can_both s.network s.history s.fresh sound.labelled sound.timely.history).0 can) in
    record {
      labelled = sound.labelled;
      history = sound.timely.history;
      left = left;
      well_formed = good;
      closed = log_closed net good.network good.letters ((log_decides net good.network good.letters).0 consistent);
      sound = log_sound net good.network good.letters;
    }

next_tells : (s : Following) (v : Verdict) → IsSound s → verdict_now s ≡ v → Tells (counted s) (AnswersNext s v) (next_after (counted s) v)
next_tells s (No load) sound is = (refl, ap (verdict_line s.cap) is)
next_tells s Full sound is = (refl, ap (verdict_line s.cap) is)
next_tells s (Yes load) sound is = (refl, by_moment (next_moment s.network s.history bounds) refl)
  where
    bounds : List Bound
    bounds = live_bounds (log_of (lowered (left_now s)))

    plan : IsPlannedBy s.network s.history s.fresh bounds
    plan = planned s load sound is

    by_moment : (o : Option ℕ) → next_moment s.network s.history bounds ≡ o → AnswersNext s (Yes load) (next_at (counted s) bounds o)
    by_moment None none = inl ((done_exactly s.network s.history s.fresh bounds plan).0 none, refl)
    by_moment (Some t) some = inr (
      t,
      named_at_next s.network s.history bounds t,
      awaited_props s.network s.history t,
      record {
        next = is_next s.network s.history s.fresh bounds plan t some;
        named = named_exactly s.network s.history s.fresh bounds plan t some;
        awaited = awaited_exactly s.network s.history s.fresh bounds plan t some;
        ascending = (
          passing_ascends (λ x. is_upto t (coming_at s.network s.history bounds x)) (count s.network.base),
          passing_ascends (λ p. is_upto t (awaited_from s.network s.history p)) 52,
        );
      },
      refl,
    )

-- ---- until when

module _ (s : Following) (sound : IsSound s) (x : ℕ) (here : x < count s.network.base) where
  module _ (none : s.history.done x ≡ None) (possible : allows s.history (completed_label s.network x) ≡ true)
      (room : HasRoomToWait s.network s.history s.fresh) where
    left_here : (y : ℕ) → s.history.done y ≡ None → allows s.history (completed_label s.network y) ≡ true → is_left s.network s.history y ≡ true
    left_here zero undone open_ = refl
    left_here (suc y) undone open_ =
        ap (λ o. if is_some o then is_some (sight_left s.network s.history (suc y)) else allows s.history (completed_label s.network (suc y))) undone ∙ open_

    wait_tells : (v : Verdict) → verdict_now s ≡ v → Tells (counted s) (AnswersWait s x v) (by_after (counted s) x v)
    wait_tells (No load) is = (refl, ap (verdict_line s.cap) is)
    wait_tells Full is = (refl, ap (verdict_line s.cap) is)
    wait_tells (Yes load) is = (refl, by_moment (waits_until s.network s.history s.fresh x s.cap) refl)
      where
        by_moment : (o : Option ℕ) → waits_until s.network s.history s.fresh x s.cap ≡ o → AnswersWait s x (Yes load) (until_text (counted s) x o)
        by_moment (Some t) found =
            let can = verdict_right s.network s.history s.fresh s.cap (Yes load) sound.labelled sound.timely sound.above (sound.verdict ∙ ap Some is) in
            let both = last_found s.network s.history s.fresh x sound.labelled sound.timely sound.above room here none (left_here x none possible)
            s.cap can t found in
            inl (t, record { waits = both.0; last = both.1 }, refl)
        by_moment None full =
            let t = none_found (tried_until s.network s.history s.fresh x s.cap) 20 (record { low = s.history.now; high = s.network.base.deadline }) full in
            inr ((full, (t.0, said_full s.cap (lowered (rest_until s.network s.history s.fresh x t.0)) t.1)), refl)

  abbrev refusal : Bool → Bool → Option (List ℕ)
  refusal possible place = if not possible then Some (line (refused_fact s.names (Undecided x))) else if place then None else Some too_many

  place_is : (net : Network) → has_place_for_one net ≡ true → length net.constraints < most_constraints
  place_is net is = ltb-true (length net.constraints) most_constraints is

  by_possible : s.history.done x ≡ None → (possible : Bool) → allows s.history (completed_label s.network x) ≡ possible
      → (place : Bool) → (has_place_for_one (left_now s).base && has_place_for_one (lowered (left_now s))) ≡ place
      → Tells (counted s) (UnlessRefused s x (refusal possible place)) (by_unless (counted s) x (refusal possible place))
  by_possible none false is place room = (refl, refl)
  by_possible none true is false room = (refl, refl)
  by_possible none true is true room =
      let both = and_parts (has_place_for_one (left_now s).base) (has_place_for_one (lowered (left_now s))) room in
      wait_tells none is (record { base = place_is (left_now s).base both.0; lowered = place_is (lowered (left_now s)) both.1 }) (verdict_now s) refl

  by_done : (d : Option ℕ) → s.history.done x ≡ d → Tells (counted s) (UnlessRefused s x (by_refusal s x d)) (by_unless (counted s) x (by_refusal (counted s) x d))
  by_done (Some t) done = (refl, refl)
  by_done None none = by_possible none (allows s.history (completed_label s.network x)) refl (has_place_for_one (left_now s).base && has_place_for_one (lowered (left_now s))) refl

by_tells : (s : Following) (name : List ℕ) (n : Option ℕ) → IsSound s → number_of s.names name ≡ n → Tells (counted s) (AnswersBy s name n) (by_number (counted s) name n)
by_tells s name None sound is = (refl, refl)
by_tells s name (Some x) sound is =
    by_done s sound x (omega (arith, (position-Some (bytes_eq name) s.names x [] is).0, sound.named)) (s.history.done x) refl

-- ---- which constraints

blame_tells : (s : Following) (v : Verdict) → IsSound s → verdict_now s ≡ v → Tells (counted s) (AnswersBlame s v) (blame_after (counted s) v)
blame_tells s (Yes load) sound is = (refl, ap (verdict_line s.cap) is)
blame_tells s Full sound is = (refl, ap (verdict_line s.cap) is)
blame_tells s (No load) sound is = (refl, by_ids (ids_to_blame s.network s.history s.fresh s.cap) refl)
  where
    within : verdict_within s ≡ Some (No load)
    within = sound.verdict ∙ ap Some is

    room : HasFewConstraints (left_now s)
    room = (left_says s.network s.history s.fresh s.cap (No load) within).0

    never : Can s.network s.history → ⊥
    never = verdict_right s.network s.history s.fresh s.cap (No load) sound.labelled sound.timely sound.above within

    by_ids : (o : Option (List ℕ)) → ids_to_blame s.network s.history s.fresh s.cap ≡ o → AnswersBlame s (No load) (blame_line s.cap o)
    by_ids (Some ids) found = inl (
      ids,
      record {
        stuck = never;
        ascending = found_ascend s.network s.history s.fresh s.cap ids sound.labelled found;
        cannot = found_stops s.network s.history s.fresh sound.labelled sound.timely sound.above room s.cap ids found never;
        needed = found_needed s.network s.history s.fresh sound.labelled sound.timely sound.above room s.cap ids found;
      },
      found_own (said_by_network s.network s.history s.fresh s.cap) s.network.base ids found,
      refl,
    )
    by_ids None full =
        let t = found_none (said_by_network s.network s.history s.fresh s.cap) s.network.base full in
        inr ((full, (t.0, said_full s.cap (lowered (rest (network_alone s.network t.0) s.history s.fresh)) t.1)), refl)

-- ---- nothing is left

pub nothing_left : (s : Following) → IsReached s → (is_any_open s ≡ false) ↔ IsAllDone s.network s.history
nothing_left s reached =
    let sound = reached_sound s reached in (
      none_open s.network s.history sound.labelled sound.timely.history,
      all_closed s.network s.history sound.labelled sound.timely.history,
    )

-- ---- the answers to lines

-- what a turn says to a question
abbrev pub TurnTells : Following → (List ℕ → Type 0) → Turn Following → Type 0
TurnTells s P (more text next) = (next ≡ s) × P text
TurnTells s P (last said) = ⊥
TurnTells s P wrong = ⊥

pub turn_tells : (s : Following) (P : List ℕ → Type 0) (heard : Heard) → Tells s P heard → TurnTells s P (heard_by canonical heard)
turn_tells s P (says text next) tells = tells
turn_tells s P (saves how m names next) tells = absurd tells

told : (s t : Following) (bytes text : List ℕ) (question : Follow) (P : List ℕ → Type 0) → follow_read bytes ≡ Some question
    → follow_turn s bytes ≡ more text t
    → Tells (counted s) P (on_follow (counted s) question) → (t ≡ counted s) × P text
told s t bytes text question P reads answered tells =
    subst (TurnTells (counted s) P) (ap (λ (o : Option Spoken). heard_by canonical (hear s o)) (sym (line_spoken bytes question reads)) ∙ answered)
    (turn_tells (counted s) P (on_follow (counted s) question) tells)

pub next_answered : (s t : Following) (bytes text : List ℕ) → IsReached s → follow_read bytes ≡ Some asks_next → follow_turn s bytes ≡ more text t
    → (t ≡ counted s) × AnswersNext s (verdict_now s) text
next_answered s t bytes text reached reads answered =
    told s t bytes text asks_next (AnswersNext s (verdict_now s)) reads answered (next_tells s (verdict_now s) (reached_sound s reached) refl)

pub by_answered : (s t : Following) (bytes text name : List ℕ) → IsReached s → follow_read bytes ≡ Some (asks_by name) → follow_turn s bytes ≡ more text t
    → (t ≡ counted s) × AnswersBy s name (number_of s.names name) text
by_answered s t bytes text name reached reads answered =
    told s t bytes text (asks_by name) (AnswersBy s name (number_of s.names name)) reads answered
    (by_tells s name (number_of s.names name) (reached_sound s reached) refl)

pub blame_answered : (s t : Following) (bytes text : List ℕ) → IsReached s → follow_read bytes ≡ Some asks_blame → follow_turn s bytes ≡ more text t
    → (t ≡ counted s) × AnswersBlame s (verdict_now s) text
blame_answered s t bytes text reached reads answered =
    told s t bytes text asks_blame (AnswersBlame s (verdict_now s)) reads answered (blame_tells s (verdict_now s) (reached_sound s reached) refl)
