-- What a session says ends a line, and its first name stays.
use Rattle.std.proofs.Common.{ℕ, zero, suc, ◌≡◌, inl, inr, ◌+◌, ◌<◌, Bool, true, false, List, [], ◌∷◌, ◌++◌, Option, Some, None, length, map, arith, refl, sym}
use Rattle.std.proofs.Common.{subst, ap, ◌∙◌}
use Rattle.std.specs.Prelude.{◌⊎◌, Result, Ok, Err, IfOk, OnErr, ◌&&◌, not, nat_lt, slice_get, if◌then◌else◌, codes, decimal}
use Rattle.std.specs.List.{filter, range_with_len}
use Rattle.std.specs.Option.{option_map}
use Rattle.std.proofs.lemmas.List.{append_assoc, length-map}
use Rattle.std.proofs.lemmas.Result.{IfOk-weaker}
use Rattle.cstn_label.specs.Bounds.{Bound}
use Rattle.cstn_net.specs.Limits.{most_constraints, most_deadline, most_edits}
use Rattle.cstn_net.specs.Networks.{count}
use Rattle.cstn_log.specs.Cuts.{last_with_ancestors}
use Rattle.cstn_lift.specs.Lowered.{lowered}
use Rattle.cstn_lift.specs.Completion.{completed_label}
use Rattle.cstn_refute.specs.Texts.{refutation_shown}
use Rattle.cstn_check.specs.Growth.{log_of, live_bounds}
use Rattle.cstn_check.specs.declared.verdicts.Verdict.{Verdict}
use Rattle.cstn_check.specs.declared.verdicts.Verdict.TheVariants.{Yes, No, Full}
use Rattle.cstn_history.specs.Histories.{History, allows}
use Rattle.cstn_label.specs.declared.nodes.NodeId.{NodeId}
use Rattle.cstn_history.specs.Facts.{FactRefusal, OutOfRange, Done, Undecided, is_beyond, now_refusal, told_refusal, expected_refusal, at_now, with_told}
use Rattle.cstn_history.specs.Facts.{with_expected, ready_refusal, with_ready}
use Rattle.cstn_history.specs.Rest.{is_left, left, sight_left}
use Rattle.cstn_next.specs.Next.{next_moment, named_at_next, awaited_props}
use Rattle.cstn_text.specs.Names.{number_of}
use Rattle.cstn_text.specs.PrintedNames.{printed_name}
use Rattle.cstn_change.specs.Changes.{Change, removes, revalues, ChangeRefusal, EditLimit, refusal, edited_by}
use Rattle.cstn_change.specs.ChangeLines.{accepted_text, refused_change_text, addition}
use Rattle.cstn_lines.specs.EditLines.{Edit, added, removed, changed, asked}
use Rattle.cstn_lines.specs.FollowLines.{Follow, done_at, came_at, now_at, awaited_at, ready_at, edits, ends_by, asks_next, asks_by, asks_blame, asks_rest}
use Rattle.cstn_reply.specs.Texts.{line}
use Rattle.cstn_reply.specs.Written.{EndsLine}
use Rattle.cstn_follow.specs.Following.{Following, Heard, says, saves, left_now, name_of_point, names_left, verdict_now, verdict_within, verdict_line}
use Rattle.cstn_follow.specs.Following.{on_left_verdict}
use Rattle.cstn_follow.specs.FactLines.{refused_fact, unknown_name, refuses, records, on_result, all_done, nodes_of, unknown_of, on_known, on_did, on_fact, on_ready, node_named}
use Rattle.cstn_follow.specs.PlanLines.{edited_network, replanned, on_refusal, on_edit, on_deadline}
use Rattle.cstn_follow.specs.Replans.{with_due}
use Rattle.cstn_follow.specs.Questions.{tells_verdict, next_text, next_at, next_after, check_after, on_rest}
use Rattle.cstn_follow.specs.Searches.{has_place_for_one, until_text, by_refusal, by_after, by_unless, by_number, blame_line, blame_after, ids_text}
use Rattle.cstn_follow.specs.Waiting.{waits_until}
use Rattle.cstn_follow.specs.Blame.{ids_to_blame}
use Rattle.cstn_follow.specs.Amending.{Amendment, forgives, steps}
use Rattle.cstn_follow.specs.Asking.{Spoken, of_line, of_question, of_amendment, asks_digest}
use Rattle.cstn_follow.specs.Forgiving.{broken_ids, after_removals}
use Rattle.cstn_follow.specs.ForgivingLines.{forgiven_line}
use Rattle.cstn_follow.specs.StepLines.{with_step, step_error_text, twice_refusal, step_refusal, step_unless}
use Rattle.cstn_follow.specs.Stepping.{no_room}
use Rattle.cstn_follow.specs.declared.errors.StepError.{StepError}
use Rattle.cstn_follow.specs.Hearing.{on_plan, on_other, on_follow, on_amendment, on_line, counted, hear}
use Rattle.cstn_follow.proofs.Further.{ends, verdict_ends, answer_ends}
use Rattle.cstn_follow.specs.declared.following.Heard.{Heard as HeardText}
use Rattle.cstn_follow.specs.declared.following.Heard.TheVariants.{Text, Rest, Digest}
use Rattle.cstn_follow.specs.Read.{FollowingParts, IsFollowing, the_following, the_heard, IsSaidFor}

-- what is said ends a line, or has a name for each time-point, of which the first is the first of these, as that of the session that
-- follows is
abbrev pub Keeps : List (List ℕ) → Heard → Type 0
Keeps names (says text s) = (slice_get s.names 0 ≡ slice_get names 0) × EndsLine text
Keeps names (saves how m kept s) = (slice_get s.names 0 ≡ slice_get names 0) × (length kept ≡ count m.base) × (slice_get kept 0 ≡ slice_get names 0)

-- a name behind the first doesn't stand first
pub first_stays : (names : List (List ℕ)) (name : List ℕ) → 0 < length names → slice_get (names ++ name ∷ []) 0 ≡ slice_get names 0
first_stays [] name none = absurd (omega arith)
first_stays (first ∷ names) name some = refl

-- ---- facts

module _ (s : Following) where
  verdict_keeps : (next : Following) (text : Verdict → List ℕ) → slice_get next.names 0 ≡ slice_get s.names 0 → ((v : Verdict) → EndsLine (text v)) → (o : Option Verdict) →
      Keeps s.names (on_left_verdict s next text o)
  verdict_keeps next text same all None = (refl, ends (codes "refused F8"))
  verdict_keeps next text same all (Some v) = (same, all v)

  records_keeps : (h : History) → Keeps s.names (records s h)
  records_keeps h = verdict_keeps (record s { history = h }) (verdict_line s.cap) refl (verdict_ends s.cap) (verdict_within (record s { history = h }))

  refuses_keeps : (e : FactRefusal) → Keeps s.names (refuses s e)
  refuses_keeps e = (refl, ends (refused_fact s.names e))

  result_keeps : (r : Result History FactRefusal) → Keeps s.names (on_result s r)
  result_keeps (Err e) = refuses_keeps e
  result_keeps (Ok h) = records_keeps h

  known_keeps : (t : ℕ) (given : List (List ℕ)) (o : Option (List ℕ)) → Keeps s.names (on_known s t given o)
  known_keeps t given (Some name) = (refl, ends (unknown_name name))
  known_keeps t given None = result_keeps (all_done s.network t s.history (nodes_of s.names given))

  did_by : (t : ℕ) (given : List (List ℕ)) (b : Bool) → Keeps s.names (if b then refuses s (OutOfRange t) else on_known s t given (unknown_of s.names given))
  did_by t given true = refuses_keeps (OutOfRange t)
  did_by t given false = known_keeps t given (unknown_of s.names given)

  did_keeps : (t : ℕ) (given : List (List ℕ)) → Keeps s.names (on_did s t given)
  did_keeps t given = did_by t given (is_beyond t)

  fact_keeps : (o : Option FactRefusal) (h : History) → Keeps s.names (on_fact s o h)
  fact_keeps None h = records_keeps h
  fact_keeps (Some e) h = refuses_keeps e

  expect_by : (t : ℕ) (name : List ℕ) (late : Bool) (o : Option NodeId) → Keeps s.names (if late then refuses s (OutOfRange t) else on_ready s t name o)
  expect_by t name true o = refuses_keeps (OutOfRange t)
  expect_by t name false None = (refl, ends (unknown_name name))
  expect_by t name false (Some x) = fact_keeps (ready_refusal s.network s.history t x.0) (with_ready s.history t x.0)

  -- ---- edits

  refusal_keeps : (change : Change) (o : Option ChangeRefusal) → Keeps s.names (on_refusal s change o)
  refusal_keeps change (Some why) = (refl, ends (refused_change_text why))
  refusal_keeps change None =
      let next = replanned s (edited_by (edited_network s) change) in
      let text = accepted_text s.fresh change in
      verdict_keeps next (λ v. line text) refl (λ v. ends text) (verdict_within next)

  edit_keeps : (r : Result Change ChangeRefusal) → Keeps s.names (on_edit s r)
  edit_keeps (Ok change) = refusal_keeps change (refusal most_constraints (edited_network s) change)
  edit_keeps (Err why) = (refl, ends (refused_change_text why))

  deadline_keeps : (deadline : ℕ) → Keeps s.names (on_deadline s deadline)
  deadline_keeps deadline =
      let next = replanned s (with_due (edited_network s) deadline) in
      let text = codes "deadline " ++ decimal deadline in
      verdict_keeps next (λ v. line text) refl (λ v. ends text) (verdict_within next)

  other_keeps : Keeps s.names (on_other s)
  other_keeps = (refl, ends (codes "refused line " ++ decimal s.lines))

  deadline_by : (deadline : ℕ) (b : Bool) → Keeps s.names (if b then on_other s else on_deadline s deadline)
  deadline_by deadline true = other_keeps
  deadline_by deadline false = deadline_keeps deadline

  -- ---- questions

  tells_keeps : Keeps s.names (tells_verdict s)
  tells_keeps = (refl, verdict_ends s.cap (verdict_now s))

  next_ends : (bounds : List Bound) (o : Option ℕ) → EndsLine (next_at s bounds o)
  next_ends bounds None = ends (codes "done")
  next_ends bounds (Some t) = ends (next_text s.names t (named_at_next s.network s.history bounds t) (awaited_props s.network s.history t))

  next_keeps : (v : Verdict) → Keeps s.names (next_after s v)
  next_keeps (Yes load) =
      let bounds = live_bounds (log_of (lowered (left_now s))) in
      (refl, next_ends bounds (next_moment s.network s.history bounds))
  next_keeps (No load) = tells_keeps
  next_keeps Full = tells_keeps

  check_keeps : (v : Verdict) → Keeps s.names (check_after s v)
  check_keeps (Yes load) = tells_keeps
  check_keeps (No load) =
      let text = refutation_shown (names_left s) load (last_with_ancestors (log_of (lowered (left_now s)))) in
      (refl, inr (text ++ codes "end", sym (append_assoc text (codes "end") (10 ∷ []))))
  check_keeps Full = tells_keeps

  by_ends : (x : ℕ) (o : Option ℕ) → EndsLine (until_text s x o)
  by_ends x (Some t) = ends (codes "by " ++ decimal t ++ 32 ∷ printed_name (name_of_point s.names x))
  by_ends x None = ends (codes "full " ++ decimal s.cap)

  by_keeps : (x : ℕ) (v : Verdict) → Keeps s.names (by_after s x v)
  by_keeps x (Yes load) = (refl, by_ends x (waits_until s.network s.history s.fresh x s.cap))
  by_keeps x (No load) = tells_keeps
  by_keeps x Full = tells_keeps

  by_place : (x : ℕ) (b : Bool) → Keeps s.names (by_unless s x (if b then None else Some (line (codes "refused F8"))))
  by_place x true = by_keeps x (verdict_now s)
  by_place x false = (refl, ends (codes "refused F8"))

  by_possible : (x : ℕ) (b : Bool) → Keeps s.names (by_unless s x (if not b then Some (line (refused_fact s.names (Undecided x)))
      else if has_place_for_one (left_now s).base && has_place_for_one (lowered (left_now s)) then None else Some (line (codes "refused F8"))))
  by_possible x true = by_place x (has_place_for_one (left_now s).base && has_place_for_one (lowered (left_now s)))
  by_possible x false = (refl, ends (refused_fact s.names (Undecided x)))

  by_refused : (x : ℕ) (o : Option ℕ) → Keeps s.names (by_unless s x (by_refusal s x o))
  by_refused x (Some t) = (refl, ends (refused_fact s.names (Done x t)))
  by_refused x None = by_possible x (allows s.history (completed_label s.network x))

  by_named : (name : List ℕ) (o : Option ℕ) → Keeps s.names (by_number s name o)
  by_named name None = (refl, ends (unknown_name name))
  by_named name (Some x) = by_refused x (s.history.done x)

  blame_ends : (o : Option (List ℕ)) → EndsLine (blame_line s.cap o)
  blame_ends (Some ids) = ends (codes "blame" ++ ids_text ids)
  blame_ends None = ends (codes "full " ++ decimal s.cap)

  blame_keeps : (v : Verdict) → Keeps s.names (blame_after s v)
  blame_keeps (Yes load) = tells_keeps
  blame_keeps (No load) = (refl, blame_ends (ids_to_blame s.network s.history s.fresh s.cap))
  blame_keeps Full = tells_keeps

  -- ---- what is left

  first_left : (n : ℕ) → 0 < n → n ≡ length s.names →
      slice_get (map (name_of_point s.names) (filter (is_left s.network s.history) (range_with_len 0 n))) 0 ≡ slice_get s.names 0
  first_left zero some long = absurd (omega arith)
  first_left (suc n) some long = first_of s.names (omega arith)
    where
      first_of : (names : List (List ℕ)) → 0 < length names → Some (name_of_point names 0) ≡ slice_get names 0
      first_of [] none = absurd (omega arith)
      first_of (name ∷ names) more = refl

  rest_keeps : 0 < count s.network.base → length s.names ≡ count s.network.base → Keeps s.names (on_rest s)
  rest_keeps some long = (
    refl,
    length-map (left s.network s.history) (name_of_point s.names) ∙ sym (length-map (left s.network s.history) (sight_left s.network s.history)),
    first_left (count s.network.base) some (sym long),
  )

  -- ---- lines

  plan_keeps : (edit : Edit) → Keeps s.names (on_plan s edit)
  plan_keeps (added from to most a) = edit_keeps (addition s.names from to most a)
  plan_keeps (removed id) = edit_keeps (Ok (removes id))
  plan_keeps (changed id most) = edit_keeps (Ok (revalues id most))
  plan_keeps asked = check_keeps (verdict_now s)

  follow_keeps : 0 < count s.network.base → length s.names ≡ count s.network.base → (line : Follow) → Keeps s.names (on_follow s line)
  follow_keeps some long (done_at t names) = did_keeps t names
  follow_keeps some long (came_at t p v) = fact_keeps (told_refusal s.network s.history t p) (with_told s.history t p v)
  follow_keeps some long (now_at t) = fact_keeps (now_refusal s.history t) (at_now s.history t)
  follow_keeps some long (awaited_at t p) = fact_keeps (expected_refusal s.network s.history t p) (with_expected s.history t p)
  follow_keeps some long (ready_at t name) = expect_by t name (is_beyond t) (node_named s.names name)
  follow_keeps some long (edits edit) = plan_keeps edit
  follow_keeps some long (ends_by deadline) = deadline_by deadline (nat_lt most_deadline deadline)
  follow_keeps some long asks_next = next_keeps (verdict_now s)
  follow_keeps some long (asks_by name) = by_named name (number_of s.names name)
  follow_keeps some long asks_blame = blame_keeps (verdict_now s)
  follow_keeps some long asks_rest = rest_keeps some long

  forgive_keeps : (ids : List ℕ) (b : Bool) → Keeps s.names
      (if b then says (line (refused_change_text EditLimit)) s else says (forgiven_line ids) (replanned s (after_removals (edited_network s) ids)))
  forgive_keeps ids true = (refl, ends (refused_change_text EditLimit))
  forgive_keeps ids false = (refl, ends (codes "forgiven" ++ ids_text ids))

  twice_ends : (name : List ℕ) (x : ℕ) (o : Option ℕ) → EndsLine (line (twice_refusal s.names name x o))
  twice_ends name x (Some t) = ends (refused_fact s.names (Done x t))
  twice_ends name x None = ends (codes "refused S8 " ++ printed_name name)

  step_keeps : (name : List ℕ) (o : Option ℕ) → 0 < length s.names → Keeps s.names (step_unless s name (step_refusal s name o))
  step_keeps name (Some x) some = (refl, twice_ends name x (s.history.done x))
  step_keeps name None some = by_room (no_room s.edits (count s.network.base))
    where
      by_room : (o : Option StepError) → Keeps s.names (step_unless s name (option_map step_error_text o))
      by_room (Some error) = (refl, ends (step_error_text error))
      by_room None =
          let text = codes "step " ++ printed_name name in
          verdict_keeps (with_step s name) (λ v. line text) (first_stays s.names name some) (λ v. ends text) (verdict_within (with_step s name))

  amendment_keeps : 0 < length s.names → (amendment : Amendment) → Keeps s.names (on_amendment s amendment)
  amendment_keeps some (steps name) = step_keeps name (number_of s.names name) some
  amendment_keeps some forgives =
      let ids = broken_ids s.network s.history in
      forgive_keeps ids (nat_lt most_edits (s.edits + length ids))

  pub line_keeps : 0 < count s.network.base → length s.names ≡ count s.network.base → (o : Option Spoken) → Keeps s.names (on_line s o)
  line_keeps some long None = other_keeps
  line_keeps some long (Some (of_line line)) = follow_keeps some long line
  line_keeps some long (Some (of_question question)) = (refl, answer_ends s question)
  line_keeps some long (Some (of_amendment amendment)) = amendment_keeps (subst (λ n. 0 < n) (sym long) some) amendment
  line_keeps some long (Some asks_digest) = (refl, long, refl)

-- the first name stays, and what is said ends a line
pub hear_keeps : (s : Following) → 0 < count s.network.base → length s.names ≡ count s.network.base → (o : Option Spoken) → Keeps s.names (hear s o)
hear_keeps s some long o = line_keeps (record s { lines = _ }) some long o

pub ok_or_err : {A E : Type 0} (r : Result A E) → ((x : A) × (r ≡ Ok x)) ⊎ ((e : E) × (r ≡ Err e))
ok_or_err (Ok x) = inl (x, refl)
ok_or_err (Err e) = inr (e, refl)

pub first_kept : (names : List (List ℕ)) (f : FollowingParts) (h : HeardText) → Keeps names (the_heard f h) → slice_get f.names 0 ≡ slice_get names 0
first_kept names f (Text text) keeps = keeps.0
first_kept names f (Rest network kept) keeps = keeps.0
first_kept names f (Digest network kept) keeps = keeps.0

pub said_kept : (names : List (List ℕ)) (f : FollowingParts) (h : HeardText) → Keeps names (the_heard f h) → IsSaidFor names h
said_kept names f (Text text) keeps = keeps.1
said_kept names f (Rest network kept) keeps = (keeps.1, keeps.2)
said_kept names f (Digest network kept) keeps = (keeps.1, keeps.2)

-- so it is once the line was counted, and the first name stays where memory is refused too
module _ {E : Type 0} (old mid new : FollowingParts) (o : Option Spoken) (r : Result HeardText E) (good : IsFollowing old)
    (is : mid ≡ record old { lines = (counted (the_following old)).lines }) where
  line_counted : Keeps old.names (on_line (the_following mid) o)
  line_counted =
      subst (λ (f : FollowingParts). Keeps old.names (on_line (the_following f) o)) (sym is)
      (hear_keeps (the_following old) good.session.execution.labelled.base.network.origin good.names.named o)

  pub heard_first : OnErr r (new ≡ mid) → IfOk r (λ h. on_line (the_following mid) o ≡ the_heard new h) → slice_get new.names 0 ≡ slice_get old.names 0
  heard_first refused heard = elim (ok_or_err r) [
    | inl (h, ok) ↦
        let told = subst (λ p. IfOk p (λ k. on_line (the_following mid) o ≡ the_heard new k)) ok heard in
        first_kept old.names new h (subst (Keeps old.names) told line_counted)
    | inr (e, err) ↦ ap (λ (f : FollowingParts). slice_get f.names 0) (subst (λ p. OnErr p (new ≡ mid)) err refused ∙ is)
  ]

  pub heard_said : IfOk r (λ h. on_line (the_following mid) o ≡ the_heard new h) → IfOk r (IsSaidFor old.names)
  heard_said heard = IfOk-weaker r _ _ (λ h told. said_kept old.names new h (subst (Keeps old.names) told line_counted)) heard

pub other_ends : (s t : Following) (text : List ℕ) → on_other s ≡ says text t → EndsLine text
other_ends s t text is = (subst (Keeps s.names) is (other_keeps s)).1
