-- A session that follows stays sound, and its verdicts are true.
use Rattle.std.proofs.Common.{ℕ, ℤ, ◌≡◌, ◌+◌, ◌<◌, ◌≤◌, Bool, true, false, List, [], ◌∷◌, ◌++◌, length, Option, Some, None, arith, refl, sym, subst, ap, ◌∙◌}
use Rattle.std.specs.Prelude.{Result, Ok, Err, nat_lt, if◌then◌else◌, codes, decimal, bytes_eq}
use Rattle.std.specs.List.{All, filter}
use Rattle.std.specs.Option.{option_map}
use Rattle.std.proofs.lemmas.List.Quantifiers.{position-Some}
use Rattle.std.proofs.lemmas.List.{length-append}
use Rattle.std.proofs.lemmas.Option.{same_Some}
use Rattle.std.specs.Option.{option_map}
use Rattle.cstn_label.specs.declared.nodes.NodeId.{NodeId}
use Rattle.cstn_label.specs.declared.marks.Mark.TheVariants.{Absent}
use Rattle.cstn_label.specs.Labels.{Label}
use Rattle.cstn_net.specs.Limits.{most_constraints, most_deadline, most_edits}
use Rattle.cstn_net.specs.Networks.{Constraint, IsWellFormed, count}
use Rattle.cstn_net.proofs.WellFormed.{well_formed_by}
use Rattle.cstn_text.specs.Names.{number_of}
use Rattle.cstn_text.specs.PrintedNames.{printed_name}
use Rattle.cstn_lift.specs.Labelled.{Labelled}
use Rattle.cstn_lift.specs.Lowered.{lowered}
use Rattle.cstn_lift.specs.WellFormed.{IsLabelled}
use Rattle.cstn_check.specs.declared.verdicts.Verdict.{Verdict}
use Rattle.cstn_check.specs.declared.verdicts.Verdict.TheVariants.{Yes, No, Full}
use Rattle.cstn_history.specs.Histories.{History, IsTimelyHistory, nothing_yet, edited}
use Rattle.cstn_history.specs.Facts.{FactRefusal, OutOfRange, is_beyond, now_refusal, done_refusal, told_refusal, expected_refusal, at_now, with_done}
use Rattle.cstn_history.specs.Facts.{with_told, with_expected, ready_refusal, with_ready}
use Rattle.cstn_history.specs.Handed.{HasFewConstraints}
use Rattle.cstn_history.proofs.Edited.{timely_edited}
use Rattle.cstn_history.proofs.Nothing.{nothing_history, rest_whole}
use Rattle.cstn_history.proofs.Recorded.{timely_now, timely_done, timely_told, timely_expected, timely_ready}
use Rattle.cstn_lines.specs.EditLines.{Edit, added, removed, changed, asked, IsEdit}
use Rattle.cstn_lines.specs.FollowLines.{Follow, IsFollow, done_at, came_at, now_at, awaited_at, ready_at, edits, ends_by, asks_next, asks_by, asks_blame}
use Rattle.cstn_lines.specs.FollowLines.{asks_rest}
use Rattle.cstn_change.specs.Changes.{EditedNetwork, Change, adds, removes, revalues, ChangeRefusal, EditLimit, id_above, refusal, constraints_after, fresh_after, HasTimePointEnds}
use Rattle.cstn_change.specs.ChangeLines.{accepted_text, refused_change_text, addition_between}
use Rattle.cstn_change.proofs.IdLemmas.{above_each, ids_below}
use Rattle.cstn_change.proofs.PlanLemmas.{edited_labelled}
use Rattle.cstn_reply.specs.Texts.{line}
use Rattle.cstn_reply.specs.Sessions.{Turn, more, last, wrong}
use Rattle.cstn_reply.specs.Reached.{state_after}
use Rattle.cstn_reply.proofs.Sessions.{first_leads}
use Rattle.cstn_follow.specs.Following.{Following, Heard, says, saves, begun_following, verdict_now, verdict_within, on_left_verdict, follows, verdict_line}
use Rattle.cstn_follow.specs.FactLines.{on_result, records, refuses, refused_fact, unknown_name, unless_fact_refused, all_done, on_known, on_did, nodes_of}
use Rattle.cstn_follow.specs.FactLines.{unknown_of, on_fact, on_now, on_saw, on_await, on_ready, on_expect, node_numbered}
use Rattle.cstn_follow.specs.PlanLines.{edited_network, replanned, on_refusal, on_edit, on_add, on_deadline}
use Rattle.cstn_follow.specs.Questions.{next_after, check_after}
use Rattle.cstn_follow.specs.Searches.{by_number, by_unless, by_after, by_refusal, blame_after}
use Rattle.cstn_follow.specs.Amending.{Amendment, forgives, steps}
use Rattle.cstn_follow.specs.Asking.{Spoken, of_line, of_question, of_amendment, asks_digest, IfLine, spoken_read}
use Rattle.cstn_follow.specs.Forgiving.{broken_ids, after_removals}
use Rattle.cstn_follow.specs.ForgivingLines.{forgiven_line}
use Rattle.cstn_follow.specs.StepLines.{with_step, step_error_text, step_refusal, step_unless}
use Rattle.cstn_follow.specs.Stepping.{no_room}
use Rattle.cstn_follow.specs.declared.errors.StepError.{StepError}
use Rattle.cstn_history.proofs.FurtherPoint.{stepped_labelled, stepped_timely}
use Rattle.cstn_follow.proofs.SteppedSession.{roomy}
use Rattle.cstn_follow.specs.Hearing.{on_plan, on_other, on_follow, on_amendment, on_line, counted, hear}
use Rattle.cstn_follow.proofs.Forgiven.{isnt_of, removed_is, part_verdict}
use Rattle.cstn_follow.proofs.Parts.{part_labelled, part_above}
use Rattle.cstn_follow.proofs.FurtherLines.{next_of, spoken_is}
use Rattle.cstn_follow.proofs.InOrder.{IsOfLetters, can_change, changed_in_order}
use Rattle.cstn_follow.proofs.Edited.{left_fits, within_is}
use Rattle.cstn_follow.proofs.GoesOn.{verdict_right}
use Rattle.cstn_follow.specs.Recorded.{IsFact, IsRecorded}
use Rattle.cstn_follow.specs.Turns.{Writing, IsTrueOfSession, heard_by, turn_by}
use Rattle.cstn_follow.proofs.RecordedFacts.{IsRefusal, fact_refusal, same_history, are_done, has_passed, has_come, is_expected, is_ready_from}

-- the network is labelled and each of its time-points has a name, what has happened is a history of it, its ids are below the
-- next one, and there is a verdict on what is left
pub record IsSound (s : Following) : Type 0 where
  pub labelled : IsLabelled s.network
  pub named : length s.names ≡ count s.network.base
  pub timely : IsTimelyHistory s.network s.history
  pub above : All (λ (c : Constraint). c.id < s.fresh) s.network.base.constraints
  pub verdict : verdict_within s ≡ Some (verdict_now s)

-- a session that follows with another network, other facts or both is sound, or it stays as it was
follows_sound : (s next : Following) (text : Verdict → List ℕ) → IsSound s → IsLabelled next.network → length next.names ≡ count next.network.base
    → IsTimelyHistory next.network next.history → All (λ (c : Constraint). c.id < next.fresh) next.network.base.constraints → IsSound (next_of (follows s next text))
follows_sound s next text sound labelled named timely above = by_verdict (verdict_within next) refl
  where
    by_verdict : (o : Option Verdict) → verdict_within next ≡ o → IsSound (next_of (on_left_verdict s next text o))
    by_verdict None is = sound
    by_verdict (Some v) is = record { labelled = labelled; named = named; timely = timely; above = above; verdict = is ∙ ap Some (within_is next v is) }

-- ---- facts

records_sound : (s : Following) (h : History) → IsSound s → IsTimelyHistory s.network h → IsSound (next_of (records s h))
records_sound s h sound timely = follows_sound s (record s { history = h }) (verdict_line s.cap) sound sound.labelled sound.named timely sound.above

-- time-points that are done one after the other
all_timely : (m : Labelled) (t : ℕ) (h g : History) (xs : List NodeId) → IsLabelled m → IsTimelyHistory m h → all_done m t h xs ≡ Ok g → IsTimelyHistory m g
all_timely m t h g [] good timely is = subst (IsTimelyHistory m) (same_history h g is) timely
all_timely m t h g (x ∷ xs) good timely is =
    by_refusal (done_refusal m h t x.0) refl (λ none so. all_timely m t (with_done h t x.0) g xs good (timely_done m h good timely.history timely.in_time t x.0 none) so) is
  where
    by_refusal : (o : Option FactRefusal) → done_refusal m h t x.0 ≡ o → (done_refusal m h t x.0 ≡ None → all_done m t (with_done h t x.0) xs ≡ Ok g → IsTimelyHistory m g)
        → unless_fact_refused o (all_done m t (with_done h t x.0) xs) ≡ Ok g → IsTimelyHistory m g
    by_refusal None none goes_on so = goes_on none so
    by_refusal (Some e) some goes_on so = absurd (cc)

-- a fact is refused, or it is recorded
module _ (s : Following) (sound : IsSound s) (Is : Follow → Heard → Type 0) (refused : (fact : Follow) (text : List ℕ) → IsRefusal text → Is fact (says text s))
    (accepted : (fact : Follow) (h : History) → IsTimelyHistory s.network h → IsRecorded s.names s.history fact h → Is fact (records s h)) where
  refuses_is : (fact : Follow) (e : FactRefusal) → Is fact (refuses s e)
  refuses_is fact e = refused fact (line (refused_fact s.names e)) (fact_refusal s.names e)

  did_is : (t : ℕ) (given : List (List ℕ)) → 1 ≤ length given → Is (done_at t given) (on_did s t given)
  did_is t given some = by_moment (is_beyond t) (unknown_of s.names given) refl
    where
      by_result : unknown_of s.names given ≡ None → (r : Result History FactRefusal) → all_done s.network t s.history (nodes_of s.names given) ≡ r
          → Is (done_at t given) (on_result s r)
      by_result known (Ok h) is = accepted (done_at t given) h (all_timely s.network t s.history h (nodes_of s.names given) sound.labelled sound.timely is)
          (are_done s.names s.network s.history h t given some known is)
      by_result known (Err e) is = refuses_is (done_at t given) e

      by_moment : (late : Bool) (o : Option (List ℕ)) → unknown_of s.names given ≡ o
          → Is (done_at t given) (if late then refuses s (OutOfRange t) else on_known s t given o)
      by_moment true o is = refuses_is (done_at t given) (OutOfRange t)
      by_moment false (Some name) is = refused (done_at t given) (line (unknown_name name)) (codes "F3 " ++ printed_name name, refl)
      by_moment false None is = by_result is (all_done s.network t s.history (nodes_of s.names given)) refl

  unless_is : (fact : Follow) (o : Option FactRefusal) (h : History) → (o ≡ None → IsTimelyHistory s.network h)
      → (o ≡ None → IsRecorded s.names s.history fact h) → Is fact (on_fact s o h)
  unless_is fact None h timely recorded = accepted fact h (timely refl) (recorded refl)
  unless_is fact (Some e) h timely recorded = refuses_is fact e

  now_is : (t : ℕ) → Is (now_at t) (on_now s t)
  now_is t = unless_is (now_at t) (now_refusal s.history t) (at_now s.history t)
      (timely_now s.network s.history t sound.timely.history sound.timely.in_time) (has_passed s.network s.history t)

  saw_is : (t p : ℕ) (v : Bool) → Is (came_at t p v) (on_saw s t p v)
  saw_is t p v = unless_is (came_at t p v) (told_refusal s.network s.history t p) (with_told s.history t p v)
      (timely_told s.network s.history sound.labelled sound.timely.history sound.timely.in_time t p v) (has_come s.network s.history t p v)

  await_is : (t p : ℕ) → Is (awaited_at t p) (on_await s t p)
  await_is t p = unless_is (awaited_at t p) (expected_refusal s.network s.history t p) (with_expected s.history t p)
      (timely_expected s.network s.history sound.labelled sound.timely.history sound.timely.in_time t p) (is_expected s.network s.history t p)

  expect_is : (t : ℕ) (name : List ℕ) → Is (ready_at t name) (on_expect s t name)
  expect_is t name = by_moment (is_beyond t) (number_of s.names name) refl
    where
      by_moment : (late : Bool) (o : Option ℕ) → number_of s.names name ≡ o
          → Is (ready_at t name) (if late then refuses s (OutOfRange t) else on_ready s t name (option_map node_numbered o))
      by_moment true o is = refuses_is (ready_at t name) (OutOfRange t)
      by_moment false None is = refused (ready_at t name) (line (unknown_name name)) (codes "F3 " ++ printed_name name, refl)
      by_moment false (Some x) is = unless_is (ready_at t name) (ready_refusal s.network s.history t x) (with_ready s.history t x)
          (timely_ready s.network s.history sound.labelled sound.timely.history sound.timely.in_time t x) (is_ready_from s.names s.network s.history t name x is)

  pub fact_is : (fact : Follow) → IsFact fact → IsFollow fact → Is fact (on_follow s fact)
  fact_is (done_at t given) is fits = did_is t given fits.1
  fact_is (came_at t p v) is fits = saw_is t p v
  fact_is (now_at t) is fits = now_is t
  fact_is (awaited_at t p) is fits = await_is t p
  fact_is (ready_at t name) is fits = expect_is t name
  fact_is (edits edit) is fits = absurd is
  fact_is (ends_by deadline) is fits = absurd is
  fact_is asks_next is fits = absurd is
  fact_is (asks_by name) is fits = absurd is
  fact_is asks_blame is fits = absurd is
  fact_is asks_rest is fits = absurd is

-- ---- edits

-- the network has another deadline or other constraints
replan_sound : (s : Following) (deadline : ℕ) (cs : List Constraint) (count' fresh : ℕ) (text : Verdict → List ℕ) → IsSound s → IsWellFormed (edited s.network deadline cs).base
    → All (λ (c : Constraint). c.id < fresh) cs → IsSound (next_of (follows s (record s { network = edited s.network deadline cs; edits = count'; fresh = fresh }) text))
replan_sound s deadline cs count' fresh text sound good above =
    follows_sound s (record s { network = edited s.network deadline cs; edits = count'; fresh = fresh }) text sound
    (edited_labelled s.network deadline cs sound.labelled good) sound.named (timely_edited s.network s.history deadline cs sound.timely.history sound.timely.in_time) above

-- a change is refused, or it is made
change_sound : (s : Following) (change : Change) → IsSound s → HasTimePointEnds s.network.base change → IsOfLetters change → IsSound (next_of (on_edit s (Ok change)))
change_sound s change sound between letters = by_refusal (refusal most_constraints (edited_network s) change) refl
  where
    by_refusal : (o : Option ChangeRefusal) → refusal most_constraints (edited_network s) change ≡ o → IsSound (next_of (on_refusal s change o))
    by_refusal (Some why) is = sound
    by_refusal None is =
        let net = s.network.base in
        replan_sound s net.deadline (constraints_after net.constraints s.fresh change) (s.edits + 1) (fresh_after s.fresh change)
        (λ v. line (accepted_text s.fresh change)) sound
        (changed_in_order net sound.labelled.base s.fresh change sound.above between (can_change (edited_network s) change letters is))
        (ids_below net.constraints s.fresh change sound.above)

add_sound : (s : Following) (from to : List ℕ) (most : ℤ) (a : Label) → IsSound s → ((p : ℕ) → 52 ≤ p → a p ≡ Absent) → IsSound (next_of (on_add s from to most a))
add_sound s from to most a sound letters = by_numbers (number_of s.names from) (number_of s.names to) refl refl
  where
    inside : (name : List ℕ) (x : ℕ) → number_of s.names name ≡ Some x → x < count s.network.base
    inside name x is = omega (arith, (position-Some (bytes_eq name) s.names x [] is).0, sound.named)

    by_numbers : (one other : Option ℕ) → number_of s.names from ≡ one → number_of s.names to ≡ other
        → IsSound (next_of (on_edit s (addition_between from to most a one other)))
    by_numbers None other is also = sound
    by_numbers (Some x) None is also = sound
    by_numbers (Some x) (Some y) is also = change_sound s (adds x y most a) sound (inside from x is, inside to y also) letters

deadline_sound : (s : Following) (deadline : ℕ) → IsSound s → deadline ≤ most_deadline → IsSound (next_of (on_deadline s deadline))
deadline_sound s deadline sound within =
    replan_sound s deadline s.network.base.constraints s.edits s.fresh (λ v. line (codes "deadline " ++ decimal deadline)) sound
    (well_formed_by s.network.base deadline sound.labelled.base within) sound.above

-- ---- amendments

-- what is broken is removed, unless there would be too many edits
forgive_sound : (s : Following) (ids : List ℕ) (b : Bool) → IsSound s
    → IsSound (next_of (if b then says (line (refused_change_text EditLimit)) s else says (forgiven_line ids) (replanned s (after_removals (edited_network s) ids))))
forgive_sound s ids true sound = sound
forgive_sound s ids false sound =
    subst (λ (e : EditedNetwork). IsSound (replanned s e)) (sym (removed_is (edited_network s) ids)) (record {
      labelled = part_labelled s.network (isnt_of ids) sound.labelled;
      named = sound.named;
      timely = timely_edited s.network s.history s.network.base.deadline (filter (λ (c : Constraint). isnt_of ids c.id) s.network.base.constraints)
          sound.timely.history sound.timely.in_time;
      above = part_above s.network (isnt_of ids) s.fresh sound.above;
      verdict = part_verdict s.network (isnt_of ids) s.history s.fresh s.cap (verdict_now s) sound.labelled sound.verdict;
    })

-- a further time-point is put in, unless it is refused
step_sound : (s : Following) (name : List ℕ) (o : Option ℕ) → IsSound s → IsSound (next_of (step_unless s name (step_refusal s name o)))
step_sound s name (Some x) sound = sound
step_sound s name None sound = by_room (no_room s.edits (count s.network.base)) refl
  where
    by_room : (o : Option StepError) → no_room s.edits (count s.network.base) ≡ o → IsSound (next_of (step_unless s name (option_map step_error_text o)))
    by_room (Some error) is = sound
    by_room None is =
        let room = roomy s.edits (count s.network.base) is in
        follows_sound s (with_step s name) (λ v. line (codes "step " ++ printed_name name)) sound
        (stepped_labelled s.network sound.labelled room)
        (length-append s.names (name ∷ []) ∙ ap (λ n. n + 1) sound.named ∙ sym (length-append s.network.base.observes (None ∷ [])))
        (stepped_timely s.network sound.labelled s.history sound.timely.history sound.timely.in_time) sound.above

amendment_sound : (s : Following) (amendment : Amendment) → IsSound s → IsSound (next_of (on_amendment s amendment))
amendment_sound s forgives sound =
    let ids = broken_ids s.network s.history in
    forgive_sound s ids (nat_lt most_edits (s.edits + length ids)) sound
amendment_sound s (steps name) sound = step_sound s name (number_of s.names name) sound

-- ---- lines

-- a question changes nothing
pub next_keeps : (s : Following) (v : Verdict) → next_of (next_after s v) ≡ s
next_keeps s (Yes load) = refl
next_keeps s (No load) = refl
next_keeps s Full = refl

pub check_keeps : (s : Following) (v : Verdict) → next_of (check_after s v) ≡ s
check_keeps s (Yes load) = refl
check_keeps s (No load) = refl
check_keeps s Full = refl

pub blame_keeps : (s : Following) (v : Verdict) → next_of (blame_after s v) ≡ s
blame_keeps s (Yes load) = refl
blame_keeps s (No load) = refl
blame_keeps s Full = refl

wait_keeps : (s : Following) (x : ℕ) (v : Verdict) → next_of (by_after s x v) ≡ s
wait_keeps s x (Yes load) = refl
wait_keeps s x (No load) = refl
wait_keeps s x Full = refl

pub by_keeps : (s : Following) (name : List ℕ) (n : Option ℕ) → next_of (by_number s name n) ≡ s
by_keeps s name None = refl
by_keeps s name (Some x) = unless_refusal (by_refusal s x (s.history.done x))
  where
    unless_refusal : (o : Option (List ℕ)) → next_of (by_unless s x o) ≡ s
    unless_refusal (Some refusal) = refl
    unless_refusal None = wait_keeps s x (verdict_now s)

plan_sound : (s : Following) (edit : Edit) → IsSound s → IsEdit edit → IsSound (next_of (on_plan s edit))
plan_sound s (added from to most a) sound is = add_sound s from to most a sound is.3
plan_sound s (removed id) sound is = change_sound s (removes id) sound tt tt
plan_sound s (changed id most) sound is = change_sound s (revalues id most) sound tt tt
plan_sound s asked sound is = subst IsSound (sym (check_keeps s (verdict_now s))) sound

deadline_line_sound : (s : Following) (deadline : ℕ) (b : Bool) → IsSound s → deadline ≤ most_deadline → IsSound (next_of (if b then on_other s else on_deadline s deadline))
deadline_line_sound s deadline true sound within = sound
deadline_line_sound s deadline false sound within = deadline_sound s deadline sound within

fact_sound : (s : Following) (fact : Follow) → IsSound s → IsFact fact → IsFollow fact → IsSound (next_of (on_follow s fact))
fact_sound s fact sound = fact_is s sound (λ fact heard. IsSound (next_of heard)) (λ fact text why. sound) (λ fact h timely is. records_sound s h sound timely) fact

follow_sound : (s : Following) (line : Follow) → IsSound s → IsFollow line → IsSound (next_of (on_follow s line))
follow_sound s (done_at t names) sound is = fact_sound s (done_at t names) sound tt is
follow_sound s (came_at t p v) sound is = fact_sound s (came_at t p v) sound tt is
follow_sound s (now_at t) sound is = fact_sound s (now_at t) sound tt is
follow_sound s (awaited_at t p) sound is = fact_sound s (awaited_at t p) sound tt is
follow_sound s (ready_at t name) sound is = fact_sound s (ready_at t name) sound tt is
follow_sound s (edits edit) sound is = plan_sound s edit sound is
follow_sound s (ends_by deadline) sound is = deadline_line_sound s deadline (nat_lt most_deadline deadline) sound is
follow_sound s asks_next sound is = subst IsSound (sym (next_keeps s (verdict_now s))) sound
follow_sound s (asks_by name) sound is = subst IsSound (sym (by_keeps s name (number_of s.names name))) sound
follow_sound s asks_blame sound is = subst IsSound (sym (blame_keeps s (verdict_now s))) sound
follow_sound s asks_rest sound is = sound

line_sound : (s : Following) (o : Option Spoken) → IsSound s → IfLine o IsFollow → IsSound (next_of (on_line s o))
line_sound s None sound is = sound
line_sound s (Some (of_line line)) sound is = follow_sound s line sound is
line_sound s (Some (of_question question)) sound is = sound
line_sound s (Some (of_amendment amendment)) sound is = amendment_sound s amendment sound
line_sound s (Some asks_digest) sound is = sound

pub counted_sound : (s : Following) → IsSound s → IsSound (counted s)
counted_sound s sound = record { labelled = sound.labelled; named = sound.named; timely = sound.timely; above = sound.above; verdict = sound.verdict }

pub hear_sound : (s : Following) (text : List ℕ) → IsSound s → IsSound (next_of (hear s (spoken_read text)))
hear_sound s text sound = line_sound (counted s) (spoken_read text) (counted_sound s sound) (spoken_is text)

-- the session after an answer to a line
abbrev SoundAfter : Turn Following → Type 0
SoundAfter (more text next) = IsSound next
SoundAfter (last said) = Unit {0}
SoundAfter wrong = Unit {0}

module _ (write : Writing) where
  heard_sound : (heard : Heard) → IsSound (next_of heard) → SoundAfter (heard_by write heard)
  heard_sound (says text next) sound = sound
  heard_sound (saves how m names next) sound = sound

  pub next_sound : (s next : Following) (bytes text : List ℕ) → IsSound s → turn_by write s bytes ≡ more text next → IsSound next
  next_sound s next bytes text sound answered = subst SoundAfter answered (heard_sound (hear s (spoken_read bytes)) (hear_sound s bytes sound))

  -- after any lines a session is sound
  pub lines_sound : (s g : Following) (k : ℕ) (lines : List (List ℕ)) → IsSound s → state_after (turn_by write) s k lines ≡ Some g → IsSound g
  lines_sound s g k [] sound is = subst IsSound (same_Some s g is) sound
  lines_sound s g k (first ∷ lines) sound is =
      let l = first_leads (turn_by write) s g k first lines is in
      lines_sound l.next g (k + 1) lines (next_sound s l.next first l.text sound l.answer) l.rest

-- ---- verdicts

nothing_timely : (m : Labelled) → IsLabelled m → IsTimelyHistory m nothing_yet
nothing_timely m good = record {
  history = nothing_history m good;
  in_time = record { now = omega arith; expected = λ p e is. absurd (cc); origin = λ p e is. absurd (cc); ready = λ x. omega arith };
}

pub begun_sound : (cap : ℕ) (names : List (List ℕ)) (m : Labelled) → IsLabelled m → length (lowered m).constraints ≤ most_constraints → length names ≡ count m.base → IsSound (begun_following cap names m)
begun_sound cap names m good few named =
    let fresh = id_above m.base.constraints in
    let room : HasFewConstraints m = record { base = good.base.few_constraints; lowered = few } in
    record {
      labelled = good;
      named = named;
      timely = nothing_timely m good;
      above = above_each m.base.constraints;
      verdict = left_fits m nothing_yet fresh cap few (subst HasFewConstraints (sym (rest_whole m fresh good)) room);
    }

-- the verdict of a sound session is true of what has happened
pub verdict_true : (s : Following) (v : Verdict) → IsSound s → verdict_now s ≡ v → IsTrueOfSession s v
verdict_true s v sound is = verdict_right s.network s.history s.fresh s.cap v sound.labelled sound.timely sound.above (sound.verdict ∙ ap Some is)
