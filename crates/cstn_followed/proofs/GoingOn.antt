-- Whoever does what is named when it is named, and tells what is awaited before time passes it, is never answered no.
use Rattle.std.proofs.Common.{ℕ, ◌≡◌, ◌<◌, ◌≤◌, Bool, true, false, List, [], ◌∷◌, ◌++◌, length, Option, Some, None, arith, refl, sym, subst, ap, ◌∙◌, inl, inr}
use Rattle.std.specs.Prelude.{◌⊎◌, Result, Ok, Err, if◌then◌else◌, codes}
use Rattle.std.specs.List.{All}
use Rattle.std.proofs.lemmas.Bool.{cases_eq}
use Rattle.std.proofs.lemmas.List.Elements.{All-head, All-tail, All-weaker}
use Rattle.cstn_label.specs.declared.nodes.NodeId.{NodeId}
use Rattle.cstn_label.specs.declared.props.Prop.{Prop}
use Rattle.cstn_net.specs.Limits.{most_constraints}
use Rattle.cstn_net.specs.Networks.{count}
use Rattle.cstn_net.specs.Strategies.{Table}
use Rattle.cstn_text.specs.PrintedNames.{printed_name}
use Rattle.cstn_lift.specs.Labelled.{Labelled}
use Rattle.cstn_lift.specs.Lowered.{lowered}
use Rattle.cstn_lift.specs.WellFormed.{IsLabelled}
use Rattle.cstn_check.specs.declared.verdicts.Verdict.{Verdict}
use Rattle.cstn_check.specs.declared.verdicts.Verdict.TheVariants.{Yes, No, Full}
use Rattle.cstn_history.specs.Histories.{History, IsTimelyHistory}
use Rattle.cstn_history.specs.Continuations.{Continues, Can, IsLeastTable, IsNamed, IsAlwaysAt, IsQuietBefore}
use Rattle.cstn_history.specs.Facts.{FactRefusal, OutOfRange, is_beyond, now_refusal, done_refusal, told_refusal, at_now, with_done, with_told}
use Rattle.cstn_history.proofs.Followed.{step_is_done}
use Rattle.cstn_history.proofs.NextMoment.{quiet_upto}
use Rattle.cstn_history.proofs.Recorded.{put_there, put_other, timely_done}
use Rattle.cstn_lines.specs.FollowLines.{Follow, follow_read, IsFollow, done_at, came_at, now_at, awaited_at, ready_at, edits, ends_by, asks_next, asks_by, asks_blame}
use Rattle.cstn_lines.specs.FollowLines.{asks_rest}
use Rattle.cstn_lines.proofs.FollowLemmas.{follow_is}
use Rattle.cstn_reply.specs.Texts.{line, full_line}
use Rattle.cstn_reply.specs.Reached.{state_after}
use Rattle.cstn_follow.specs.Following.{Following, Heard, says, saves, begun_following, verdict_now, verdict_within, on_left_verdict, verdict_line}
use Rattle.cstn_follow.specs.FactLines.{records, refuses, unless_fact_refused, all_done, on_result, on_known, on_did, nodes_of, unknown_of, on_fact, on_now, on_saw}
use Rattle.cstn_follow.specs.Asking.{spoken_read}
use Rattle.cstn_follow.specs.Hearing.{on_follow, counted, hear}
use Rattle.cstn_follow.specs.Progress.{HasRoomLeft, IsQuietUpto}
use Rattle.cstn_follow.proofs.Going.{least_table, goes_on}
use Rattle.cstn_follow.proofs.GoesOn.{left_says, verdict_right}
use Rattle.cstn_save.specs.Canonical.{canonical}
use Rattle.cstn_follow.specs.Turns.{heard_by}
use Rattle.cstn_followed.specs.Plans.{KeepsToNext, KeepToNext, AreNamed, IsYesLine, KeepsGoing, KeepGoing}
use Rattle.cstn_followed.specs.Sessions.{follow_turn}
use Rattle.cstn_follow.proofs.RecordedFacts.{fact_refusal, undone_here, same_history}
use Rattle.cstn_follow.proofs.FurtherLines.{line_spoken}
use Rattle.cstn_follow.proofs.States.{IsSound, counted_sound, next_sound, lines_sound, begun_sound}

-- ---- time-points that a table has at a moment are done at it one after the other

module _ (m : Labelled) (good : IsLabelled m) (table : Table) (t : ℕ) where
  -- the table has the time-point at the moment
  abbrev IsThere : History → NodeId → Type 0
  IsThere h x = (x.0 < count m.base) × IsAlwaysAt m h table x.0 t

  still_quiet : (h : History) (x : ℕ) → IsQuietBefore m h table t → IsQuietBefore m (with_done h t x) table t
  still_quiet h x quiet s y agrees here none e = quiet s y agrees here (was (cases_eq y x)) e
    where
      was : (y ≡ x) ⊎ (y ≡ x → ⊥) → h.done y ≡ None
      was (inl same) = let at = put_there h.done x t y same in absurd (cc)
      was (inr other) = sym (put_other h.done x t y other) ∙ none

  all_follow : (h g : History) (xs : List NodeId) → IsTimelyHistory m h → Continues m h table → IsQuietBefore m h table t → All (IsThere h) xs
      → all_done m t h xs ≡ Ok g → IsTimelyHistory m g × Can m g
  all_follow h g [] timely goes quiet there is = subst (λ k. IsTimelyHistory m k × Can m k) (same_history h g is) (timely, (table, goes))
  all_follow h g (x ∷ xs) timely goes quiet there is =
      let first = All-head (IsThere h) x xs there in
      by_refusal (done_refusal m h t x.0) refl (λ none so.
      all_follow (with_done h t x.0) g xs (timely_done m h good timely.history timely.in_time t x.0 none)
      (step_is_done m h good timely.history table goes t x.0 first.0 (undone_here m h t x.0 none) quiet first.1)
      (still_quiet h x.0 quiet) (All-tail (IsThere h) x xs there) so) is
    where
      by_refusal : (o : Option FactRefusal) → done_refusal m h t x.0 ≡ o
          → (done_refusal m h t x.0 ≡ None → all_done m t (with_done h t x.0) xs ≡ Ok g → IsTimelyHistory m g × Can m g)
          → unless_fact_refused o (all_done m t (with_done h t x.0) xs) ≡ Ok g → IsTimelyHistory m g × Can m g
      by_refusal None none follows so = follows none so
      by_refusal (Some e) some follows so = absurd (cc)

-- a table of least moments has what is named at its moment
there_least : (m : Labelled) (h : History) (table : Table) (t : ℕ) (x : NodeId) → Continues m h table → IsLeastTable m h table → IsNamed m h t x.0
    → (x.0 < count m.base) × IsAlwaysAt m h table x.0 t
there_least m h table t x goes least named = (
  named.here,
  λ s agrees.
      let there = named.least s agrees in
      let upto = there.least table goes in
      let downto = (least s x.0 agrees named.here named.coming there.executed).least there.reached.0 there.reached.1 in
      let at = there.reached.2 in
      (there.executed, omega arith),
)

-- what is named at the next moment is done at it
all_named_done : (m : Labelled) (h g : History) (t : ℕ) (xs : List NodeId) → IsLabelled m → IsTimelyHistory m h → HasRoomLeft m h
    → Can m h → IsQuietUpto m h t → All (λ (x : NodeId). IsNamed m h t x.0) xs → all_done m t h xs ≡ Ok g → IsTimelyHistory m g × Can m g
all_named_done m h g t xs good timely room can quiet named is =
    let chosen = least_table m h good timely room can in
    all_follow m good chosen.0 t h g xs timely chosen.1 (quiet_upto m h good t quiet chosen.0 chosen.1)
    (All-weaker (λ (x : NodeId). IsNamed m h t x.0) (IsThere m good chosen.0 t h) (λ x. there_least m h chosen.0 t x chosen.1 chosen.2) xs named) is

-- ---- what is said to a line

-- the line is refused, or the answer is yes or full, and the session can go on
abbrev Answer : Following → Heard → Type 0
Answer s (says text next) =
    (((next ≡ s) × ((why : List ℕ) × (text ≡ line (codes "refused " ++ why)))) ⊎ (IsYesLine text ⊎ (text ≡ full_line s.cap))) × Can next.network next.history
Answer s (saves how m names next) = ⊥

module _ (s : Following) (sound : IsSound s) (can : Can s.network s.history) where
  room : HasRoomLeft s.network s.history
  room = record {
    fresh = s.fresh;
    above = sound.above;
    room = (left_says s.network s.history s.fresh s.cap (verdict_now s) sound.verdict).0;
  }

  refused : (why : List ℕ) → Answer s (says (line (codes "refused " ++ why)) s)
  refused why = (inl (refl, (why, refl)), can)

  refuses_fact : (e : FactRefusal) → Answer s (refuses s e)
  refuses_fact e = (inl (refl, fact_refusal s.names e), can)

  records_fact : (h : History) → IsTimelyHistory s.network h × Can s.network h → Answer s (records s h)
  records_fact h later = by_verdict (verdict_within (record s { history = h })) refl
    where
      by_verdict : (o : Option Verdict) → verdict_within (record s { history = h }) ≡ o
          → Answer s (on_left_verdict s (record s { history = h }) (verdict_line s.cap) o)
      by_verdict None is = refused (codes "F8")
      by_verdict (Some (Yes load)) is = (inr (inl (load, refl)), later.1)
      by_verdict (Some (No load)) is = absurd (verdict_right s.network h s.fresh s.cap (No load) sound.labelled later.0 sound.above is later.1)
      by_verdict (Some Full) is = (inr (inr refl), later.1)

  did_goes : (t : ℕ) (given : List (List ℕ)) → IsQuietUpto s.network s.history t → AreNamed s t given → Answer s (on_did s t given)
  did_goes t given quiet named = by_moment (is_beyond t) (unknown_of s.names given)
    where
      by_result : (r : Result History FactRefusal) → all_done s.network t s.history (nodes_of s.names given) ≡ r → Answer s (on_result s r)
      by_result (Ok h) is = records_fact h (
          all_named_done s.network s.history h t (nodes_of s.names given) sound.labelled sound.timely room can quiet named is)
      by_result (Err e) is = refuses_fact e

      by_moment : (late : Bool) (o : Option (List ℕ)) → Answer s (if late then refuses s (OutOfRange t) else on_known s t given o)
      by_moment true o = refuses_fact (OutOfRange t)
      by_moment false (Some name) = refused (codes "F3 " ++ printed_name name)
      by_moment false None = by_result (all_done s.network t s.history (nodes_of s.names given)) refl

  now_goes : (t : ℕ) → IsQuietUpto s.network s.history t → Answer s (on_now s t)
  now_goes t quiet = by_refusal (now_refusal s.history t) refl
    where
      by_refusal : (o : Option FactRefusal) → now_refusal s.history t ≡ o → Answer s (on_fact s o (at_now s.history t))
      by_refusal None none = records_fact (at_now s.history t) (goes_on s.network s.history sound.labelled sound.timely can (at_now s.history t)
          (room, inl (record { moment = t; quiet = quiet; accepted = none; recorded = refl })))
      by_refusal (Some e) some = refuses_fact e

  saw_goes : (t : ℕ) (p : Prop) (v : Bool) → IsQuietUpto s.network s.history t → Answer s (on_saw s t p.index v)
  saw_goes t p v quiet = by_refusal (told_refusal s.network s.history t p.index) refl
    where
      by_refusal : (o : Option FactRefusal) → told_refusal s.network s.history t p.index ≡ o → Answer s (on_fact s o (with_told s.history t p.index v))
      by_refusal None none = records_fact (with_told s.history t p.index v) (
          goes_on s.network s.history sound.labelled sound.timely can (with_told s.history t p.index v)
          (room, inr (inl (record { moment = t; prop = p; value = v; quiet = quiet; accepted = none; recorded = refl }))))
      by_refusal (Some e) some = refuses_fact e

line_goes : (s : Following) (line : Follow) → IsSound s → Can s.network s.history → IsFollow line → KeepsToNext s (Some line)
    → Answer s (on_follow s line)
line_goes s (done_at t given) sound can is keeps = did_goes s sound can t given keeps.0 keeps.1
line_goes s (came_at t p v) sound can is keeps = saw_goes s sound can t (record { index = p; in_range = is.1 }) v keeps
line_goes s (now_at t) sound can is keeps = now_goes s sound can t keeps
line_goes s (awaited_at t p) sound can is keeps = absurd keeps
line_goes s (ready_at t name) sound can is keeps = absurd keeps
line_goes s (edits edit) sound can is keeps = absurd keeps
line_goes s (ends_by deadline) sound can is keeps = absurd keeps
line_goes s asks_next sound can is keeps = absurd keeps
line_goes s (asks_by name) sound can is keeps = absurd keeps
line_goes s asks_blame sound can is keeps = absurd keeps
line_goes s asks_rest sound can is keeps = absurd keeps

-- the count of lines makes no difference to what is next
counted_keeps : (s : Following) (o : Option Follow) → KeepsToNext s o → KeepsToNext (counted s) o
counted_keeps s (Some (done_at t given)) keeps = keeps
counted_keeps s (Some (came_at t p v)) keeps = keeps
counted_keeps s (Some (now_at t)) keeps = keeps
counted_keeps s None keeps = absurd keeps
counted_keeps s (Some (awaited_at t p)) keeps = absurd keeps
counted_keeps s (Some (ready_at t name)) keeps = absurd keeps
counted_keeps s (Some (edits edit)) keeps = absurd keeps
counted_keeps s (Some (ends_by deadline)) keeps = absurd keeps
counted_keeps s (Some asks_next) keeps = absurd keeps
counted_keeps s (Some (asks_by name)) keeps = absurd keeps
counted_keeps s (Some asks_blame) keeps = absurd keeps
counted_keeps s (Some asks_rest) keeps = absurd keeps

turn_goes : (s : Following) (bytes : List ℕ) (heard : Heard) → hear s (spoken_read bytes) ≡ heard → Answer (counted s) heard
    → (next : Following) × KeepsGoing s bytes next
turn_goes s bytes (says text next) is answer = (next, record { text = text; answer = ap (heard_by canonical) is; said = answer.0; can = answer.1 })
turn_goes s bytes (saves how m names next) is answer = absurd answer

pub one_goes : (s : Following) (bytes : List ℕ) → IsSound s → Can s.network s.history → KeepsToNext s (follow_read bytes)
    → (next : Following) × KeepsGoing s bytes next
one_goes s bytes sound can keeps = by_line (follow_read bytes) refl keeps
  where
    by_line : (o : Option Follow) → follow_read bytes ≡ o → KeepsToNext s o → (next : Following) × KeepsGoing s bytes next
    by_line None reads keeps = absurd keeps
    by_line (Some line) reads keeps = turn_goes s bytes (on_follow (counted s) line) (ap (hear s) (line_spoken bytes line reads))
        (line_goes (counted s) line (counted_sound s sound) can (follow_is bytes line reads) (counted_keeps s (Some line) keeps))

-- line after line
all_go : (s : Following) (lines : List (List ℕ)) → IsSound s → Can s.network s.history → KeepToNext s lines → KeepGoing s lines
all_go s [] sound can keep = tt
all_go s (first ∷ lines) sound can keep =
    let one = one_goes s first sound can keep.0 in
    (one.0, one.1, all_go one.0 lines (next_sound canonical s one.0 first one.1.text sound one.1.answer) one.1.can (keep.1 one.1.text one.0 one.1.answer))

pub plans_go_on : (cap : ℕ) (names : List (List ℕ)) (m : Labelled) (before lines : List (List ℕ)) (s : Following) → IsLabelled m
    → length (lowered m).constraints ≤ most_constraints → length names ≡ count m.base → state_after follow_turn (begun_following cap names m) 0 before ≡ Some s
    → Can s.network s.history → KeepToNext s lines → KeepGoing s lines
plans_go_on cap names m before lines s good few named leads can keep =
    all_go s lines (lines_sound canonical (begun_following cap names m) s 0 before (begun_sound cap names m good few named) leads) can keep
