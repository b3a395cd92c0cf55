-- With a larger cap the same is said, but where a log had more entries than the smaller one.
use Rattle.std.proofs.Common.{ℕ, zero, suc, ◌≡◌, ◌+◌, ◌-◌, ◌≤◌, Bool, true, false, List, [], ◌∷◌, ◌++◌, length, Option, Some, None, arith, refl, sym, subst, ap, ◌∙◌}
use Rattle.std.proofs.Common.{inl, inr}
use Rattle.std.specs.Prelude.{◌⊎◌, Result, Ok, Err, nat_lt, if◌then◌else◌, option_and_then, codes, decimal}
use Rattle.std.specs.Option.{option_map}
use Rattle.std.proofs.lemmas.Option.{same_Some}
use Rattle.cstn_net.specs.Limits.{most_constraints, most_deadline, most_edits}
use Rattle.cstn_net.specs.Networks.{Network}
use Rattle.cstn_text.specs.Names.{number_of}
use Rattle.cstn_lift.specs.Labelled.{Labelled}
use Rattle.cstn_lift.specs.Lowered.{lowered}
use Rattle.cstn_check.specs.Growth.{load_of, is_refuted, log_of}
use Rattle.cstn_check.specs.Decisions.{verdict}
use Rattle.cstn_check.specs.Verdicts.{is_consistent}
use Rattle.cstn_check.specs.declared.verdicts.Verdict.{Verdict}
use Rattle.cstn_check.specs.declared.verdicts.Verdict.TheVariants.{Yes, No, Full}
use Rattle.cstn_history.specs.Histories.{History}
use Rattle.cstn_label.specs.declared.nodes.NodeId.{NodeId}
use Rattle.cstn_history.specs.Facts.{FactRefusal, OutOfRange, is_beyond, now_refusal, told_refusal, expected_refusal, ready_refusal, at_now, with_told, with_expected, with_ready}
use Rattle.cstn_history.specs.Rest.{rest}
use Rattle.cstn_lines.specs.EditLines.{Edit, added, removed, changed, asked}
use Rattle.cstn_lines.specs.FollowLines.{Follow, follow_read, done_at, came_at, now_at, awaited_at, ready_at, edits, ends_by, asks_next, asks_by, asks_blame, asks_rest}
use Rattle.cstn_reply.specs.Texts.{line, full_line}
use Rattle.cstn_reply.specs.Sessions.{Turn, more}
use Rattle.cstn_reply.specs.Reached.{state_after}
use Rattle.cstn_reply.proofs.Sessions.{first_leads, state_more}
use Rattle.cstn_save.specs.Canonical.{canonical}
use Rattle.cstn_change.specs.Changes.{EditedNetwork, Change, removes, revalues, ChangeRefusal, EditLimit, refusal, edited_by}
use Rattle.cstn_change.specs.ChangeLines.{addition, accepted_text, refused_change_text}
use Rattle.cstn_follow.specs.Replans.{with_due}
use Rattle.cstn_follow.specs.Following.{Following, Heard, says, saves, left_now, verdict_now, is_within_limits, on_left_verdict, follows, verdict_line}
use Rattle.cstn_follow.specs.FactLines.{on_result, records, refuses, all_done, on_known, on_did, nodes_of, unknown_of, unless_fact_refused, on_fact, on_ready, node_named}
use Rattle.cstn_follow.specs.PlanLines.{edited_network, replanned, on_refusal, on_edit, on_deadline}
use Rattle.cstn_follow.specs.Questions.{next_after, check_after}
use Rattle.cstn_follow.specs.Searches.{by_number, by_unless, by_after, until_text, by_refusal, blame_line, blame_after}
use Rattle.cstn_check.specs.Givers.{ids_of, network_without}
use Rattle.cstn_check.specs.Needs.{said}
use Rattle.cstn_check.specs.Search.{narrowed, left_by, middle, halved, halving}
use Rattle.cstn_follow.specs.Tries.{with_base}
use Rattle.cstn_follow.specs.Waiting.{rest_until, tried_until, waits_until}
use Rattle.cstn_follow.specs.Blame.{said_by_network, ids_to_blame}
use Rattle.cstn_follow.specs.Asking.{Spoken, of_line, of_question, of_amendment, asks_digest, spoken_read}
use Rattle.cstn_follow.specs.Amending.{Amendment, forgives, steps}
use Rattle.cstn_follow.specs.Forgiving.{broken_ids, after_removals}
use Rattle.cstn_follow.specs.ForgivingLines.{forgiven_line}
use Rattle.cstn_follow.specs.StepLines.{with_step, step_error_text, step_refusal, step_unless}
use Rattle.cstn_follow.specs.Stepping.{no_room}
use Rattle.cstn_follow.specs.declared.errors.StepError.{StepError}
use Rattle.cstn_text.specs.PrintedNames.{printed_name}
use Rattle.cstn_net.specs.Networks.{count}
use Rattle.cstn_follow.specs.Hearing.{counted, on_plan, on_other, on_follow, on_amendment, on_line, hear}
use Rattle.cstn_follow.specs.Digests.{shown}
use Rattle.cstn_follow.specs.Turns.{heard_by}
use Rattle.cstn_follow.proofs.States.{IsSound, next_sound}
use Rattle.cstn_follow.proofs.Points.{turn_grows}
use Rattle.cstn_history.specs.Steps.{stepped}
use Rattle.cstn_followed.specs.Sessions.{follow_turn}
use Rattle.cstn_followed.specs.Journal.{texts_of, with_cap, AreSameUnlessFull}
use Rattle.cstn_followed.proofs.Alike.{SameIfSome, verdict_alike, said_alike, halving_alike, left_alike, mapped_alike}
use Rattle.cstn_followed.proofs.FurtherAlike.{line_told, verdict_told, now_told, answers_alike}
use Rattle.cstn_followed.proofs.Journals.{texts_more}

-- the same text in the state with another cap, or the first text says that a log has more entries than `cap`
abbrev pub IsAlike : ℕ → ℕ → Heard → Heard → Type 0
IsAlike cap larger (says text next) (says other later) = (later ≡ with_cap next larger) × ((other ≡ text) ⊎ (text ≡ full_line cap))
IsAlike cap larger (says text next) (saves how m names later) = ⊥
IsAlike cap larger (saves how l names next) (says other later) = ⊥
IsAlike cap larger (saves how l names next) (saves way m others later) = (later ≡ with_cap next larger) × ((way ≡ how) × ((m ≡ l) × (others ≡ names)))

-- ---- lines

module _ (s : Following) (larger : ℕ) (upto : s.cap ≤ larger) where
  abbrev Other : Following
  Other = with_cap s larger

  abbrev Alike : Heard → Heard → Type 0
  Alike = IsAlike s.cap larger

  -- the verdicts on what is left then
  abbrev one : Labelled → History → ℕ → Verdict
  one m h f = verdict s.cap (lowered (rest m h f))

  abbrev two : Labelled → History → ℕ → Verdict
  two m h f = verdict larger (lowered (rest m h f))

  -- a session that follows, of which a text is said by its verdict
  follows_alike : (names : List (List ℕ)) (m : Labelled) (h : History) (e f : ℕ) (text other : Verdict → List ℕ)
      → ((v : Verdict) → (other v ≡ text v) ⊎ (text v ≡ full_line s.cap)) → (text Full ≡ full_line s.cap) ⊎ ((v w : Verdict) → other v ≡ text w)
      → Alike (follows s (record s { network = m; names = names; history = h; edits = e; fresh = f }) text)
      (follows Other (record Other { network = m; names = names; history = h; edits = e; fresh = f }) other)
  follows_alike names m h e f text other same full = by_fits (is_within_limits m h f) (verdict_alike s.cap larger upto (lowered (rest m h f))) full
    where
      texts : ((one m h f) ≡ Full) ⊎ ((two m h f) ≡ (one m h f)) → (text Full ≡ full_line s.cap) ⊎ ((v w : Verdict) → other v ≡ text w)
          → (other (two m h f) ≡ text (one m h f)) ⊎ (text (one m h f) ≡ full_line s.cap)
      texts (inl is) (inl says_full) = inr (ap text is ∙ says_full)
      texts (inl is) (inr constant) = inl (constant (two m h f) (one m h f))
      texts (inr is) says_full = subst (λ v. (other v ≡ text (one m h f)) ⊎ (text (one m h f) ≡ full_line s.cap)) (sym is) (same (one m h f))

      by_fits : (b : Bool) → ((one m h f) ≡ Full) ⊎ ((two m h f) ≡ (one m h f)) → (text Full ≡ full_line s.cap) ⊎ ((v w : Verdict) → other v ≡ text w)
          → Alike (on_left_verdict s (record s { network = m; names = names; history = h; edits = e; fresh = f }) text (if b then Some (one m h f) else None))
          (on_left_verdict Other (record Other { network = m; names = names; history = h; edits = e; fresh = f }) other (if b then Some (two m h f) else None))
      by_fits true alike says_full = (refl, texts alike says_full)
      by_fits false alike says_full = (refl, inl refl)

  records_alike : (h : History) → Alike (records s h) (records Other h)
  records_alike h = follows_alike s.names s.network h s.edits s.fresh (verdict_line s.cap) (verdict_line larger) (line_told s larger upto) (inl refl)

  result_alike : (r : Result History FactRefusal) → Alike (on_result s r) (on_result Other r)
  result_alike (Ok h) = records_alike h
  result_alike (Err e) = (refl, inl refl)

  did_alike : (t : ℕ) (given : List (List ℕ)) → Alike (on_did s t given) (on_did Other t given)
  did_alike t given = by_moment (is_beyond t) (unknown_of s.names given)
    where
      by_moment : (late : Bool) (o : Option (List ℕ)) → Alike (if late then refuses s (OutOfRange t) else on_known s t given o)
          (if late then refuses Other (OutOfRange t) else on_known Other t given o)
      by_moment true o = (refl, inl refl)
      by_moment false (Some name) = (refl, inl refl)
      by_moment false None = result_alike (all_done s.network t s.history (nodes_of s.names given))

  fact_alike : (o : Option FactRefusal) (h : History) → Alike (on_fact s o h) (on_fact Other o h)
  fact_alike o h = result_alike (unless_fact_refused o (Ok h))

  expect_alike : (t : ℕ) (name : List ℕ) (late : Bool) (o : Option NodeId) → Alike (if late then refuses s (OutOfRange t) else on_ready s t name o)
      (if late then refuses Other (OutOfRange t) else on_ready Other t name o)
  expect_alike t name true o = (refl, inl refl)
  expect_alike t name false None = (refl, inl refl)
  expect_alike t name false (Some x) = fact_alike (ready_refusal s.network s.history t x.0) (with_ready s.history t x.0)

  -- the network of the session becomes this one
  replan_alike : (e : EditedNetwork) (text : List ℕ) → Alike (follows s (replanned s e) (λ v. text)) (follows Other (replanned Other e) (λ v. text))
  replan_alike e text =
      follows_alike s.names (record s.network { base = e.net }) s.history e.edits e.fresh (λ v. text) (λ v. text) (λ v. inl refl) (inr (λ v w. refl))

  change_alike : (change : Change) (o : Option ChangeRefusal) → Alike (on_refusal s change o) (on_refusal Other change o)
  change_alike change (Some why) = (refl, inl refl)
  change_alike change None = replan_alike (edited_by (edited_network s) change) (line (accepted_text s.fresh change))

  edit_alike : (r : Result Change ChangeRefusal) → Alike (on_edit s r) (on_edit Other r)
  edit_alike (Ok change) = change_alike change (refusal most_constraints (edited_network s) change)
  edit_alike (Err why) = (refl, inl refl)

  -- what is said to a question by the verdict
  abbrev After : Type 0
  After = Following → Verdict → Heard

  by_verdicts : (edited_by : After) → ((load : ℕ) → Alike (edited_by s (Yes load)) (edited_by Other (Yes load)))
      → ((load : ℕ) → Alike (edited_by s (No load)) (edited_by Other (No load)))
      → ((v : Verdict) → (verdict_now s ≡ Full) → Alike (edited_by s Full) (edited_by Other v))
      → Alike (edited_by s (verdict_now s)) (edited_by Other (verdict_now Other))
  by_verdicts edited_by yes_alike no_alike full_alike = at (verdict_now s) refl (verdict_alike s.cap larger upto (lowered (left_now s)))
    where
      at : (v : Verdict) → verdict_now s ≡ v → (v ≡ Full) ⊎ (verdict_now Other ≡ v) → Alike (edited_by s v) (edited_by Other (verdict_now Other))
      at v is (inl full) = subst (λ w. Alike (edited_by s w) (edited_by Other (verdict_now Other))) (sym full) (full_alike (verdict_now Other) (is ∙ full))
      at (Yes load) is (inr same) = subst (λ w. Alike (edited_by s (Yes load)) (edited_by Other w)) (sym same) (yes_alike load)
      at (No load) is (inr same) = subst (λ w. Alike (edited_by s (No load)) (edited_by Other w)) (sym same) (no_alike load)
      at Full is (inr same) = full_alike (verdict_now Other) is

  full_next : (v : Verdict) → verdict_now s ≡ Full → Alike (next_after s Full) (next_after Other v)
  full_next (Yes load) is = (refl, inr (verdict_told s larger upto is))
  full_next (No load) is = (refl, inr (verdict_told s larger upto is))
  full_next Full is = (refl, inr (verdict_told s larger upto is))

  next_alike : Alike (next_after s (verdict_now s)) (next_after Other (verdict_now Other))
  next_alike = by_verdicts next_after (λ load. (refl, inl refl)) (λ load. (refl, now_told s larger upto)) full_next

  full_check : (v : Verdict) → verdict_now s ≡ Full → Alike (check_after s Full) (check_after Other v)
  full_check (Yes load) is = (refl, inr (verdict_told s larger upto is))
  full_check (No load) is = (refl, inr (verdict_told s larger upto is))
  full_check Full is = (refl, inr (verdict_told s larger upto is))

  check_alike : Alike (check_after s (verdict_now s)) (check_after Other (verdict_now Other))
  check_alike = by_verdicts check_after (λ load. (refl, now_told s larger upto)) (λ load. (refl, inl refl)) full_check

  full_blame : (v : Verdict) → verdict_now s ≡ Full → Alike (blame_after s Full) (blame_after Other v)
  full_blame (Yes load) is = (refl, inr (verdict_told s larger upto is))
  full_blame (No load) is = (refl, inr (verdict_told s larger upto is))
  full_blame Full is = (refl, inr (verdict_told s larger upto is))

  blamed_alike : (one two : Option (List ℕ)) → SameIfSome one two → (blame_line larger two ≡ blame_line s.cap one) ⊎ (blame_line s.cap one ≡ full_line s.cap)
  blamed_alike one two (inl none) = inr (ap (blame_line s.cap) none)
  blamed_alike None two (inr same) = inr refl
  blamed_alike (Some ids) two (inr same) = inl (ap (blame_line larger) same)

  blame_alike : Alike (blame_after s (verdict_now s)) (blame_after Other (verdict_now Other))
  blame_alike = by_verdicts blame_after (λ load. (refl, now_told s larger upto)) (λ load. (refl, found)) full_blame
    where
      found : (blame_line larger (ids_to_blame s.network s.history s.fresh larger) ≡ blame_line s.cap (ids_to_blame s.network s.history s.fresh s.cap))
          ⊎ (blame_line s.cap (ids_to_blame s.network s.history s.fresh s.cap) ≡ full_line s.cap)
      found =
          let ids = ids_of s.network.base in
          let one = said_by_network s.network s.history s.fresh s.cap in
          let two = said_by_network s.network s.history s.fresh larger in
          blamed_alike (ids_to_blame s.network s.history s.fresh s.cap) (ids_to_blame s.network s.history s.fresh larger)
          (mapped_alike ids_of (left_by one ids s.network.base) (left_by two ids s.network.base)
          (left_alike one two (λ n. said_alike s.cap larger upto (lowered (rest (with_base s.network n) s.history s.fresh))) ids s.network.base))

  full_wait : (x : ℕ) (v : Verdict) → verdict_now s ≡ Full → Alike (by_after s x Full) (by_after Other x v)
  full_wait x (Yes load) is = (refl, inr (verdict_told s larger upto is))
  full_wait x (No load) is = (refl, inr (verdict_told s larger upto is))
  full_wait x Full is = (refl, inr (verdict_told s larger upto is))

  until_alike : (x : ℕ) (one two : Option ℕ) → SameIfSome one two → (until_text Other x two ≡ until_text s x one) ⊎ (until_text s x one ≡ full_line s.cap)
  until_alike x one two (inl none) = inr (ap (until_text s x) none)
  until_alike x None two (inr same) = inr refl
  until_alike x (Some t) two (inr same) = inl (ap (until_text Other x) same)

  wait_alike : (x : ℕ) → Alike (by_after s x (verdict_now s)) (by_after Other x (verdict_now Other))
  wait_alike x = by_verdicts (λ t. by_after t x) (λ load. (refl, found)) (λ load. (refl, now_told s larger upto)) (full_wait x)
    where
      found : (until_text Other x (waits_until s.network s.history s.fresh x larger) ≡ until_text s x (waits_until s.network s.history s.fresh x s.cap))
          ⊎ (until_text s x (waits_until s.network s.history s.fresh x s.cap) ≡ full_line s.cap)
      found = until_alike x (waits_until s.network s.history s.fresh x s.cap) (waits_until s.network s.history s.fresh x larger)
          (halving_alike (tried_until s.network s.history s.fresh x s.cap) (tried_until s.network s.history s.fresh x larger)
          (λ t. said_alike s.cap larger upto (lowered (rest_until s.network s.history s.fresh x t))) 20 s.history.now s.network.base.deadline)

  unless_alike : (x : ℕ) (o : Option (List ℕ)) → Alike (by_unless s x o) (by_unless Other x o)
  unless_alike x (Some refusal) = (refl, inl refl)
  unless_alike x None = wait_alike x

  by_alike : (name : List ℕ) (o : Option ℕ) → Alike (by_number s name o) (by_number Other name o)
  by_alike name None = (refl, inl refl)
  by_alike name (Some x) = unless_alike x (by_refusal s x (s.history.done x))

  plan_alike : (edit : Edit) → Alike (on_plan s edit) (on_plan Other edit)
  plan_alike (added from to most a) = edit_alike (addition s.names from to most a)
  plan_alike (removed id) = edit_alike (Ok (removes id))
  plan_alike (changed id most) = edit_alike (Ok (revalues id most))
  plan_alike asked = check_alike

  deadline_alike : (deadline : ℕ) (late : Bool)
      → Alike (if late then on_other s else on_deadline s deadline) (if late then on_other Other else on_deadline Other deadline)
  deadline_alike deadline true = (refl, inl refl)
  deadline_alike deadline false = replan_alike (with_due (edited_network s) deadline) (line (codes "deadline " ++ decimal deadline))

  follow_alike : (line : Follow) → Alike (on_follow s line) (on_follow Other line)
  follow_alike (done_at t given) = did_alike t given
  follow_alike (came_at t p v) = fact_alike (told_refusal s.network s.history t p) (with_told s.history t p v)
  follow_alike (now_at t) = fact_alike (now_refusal s.history t) (at_now s.history t)
  follow_alike (awaited_at t p) = fact_alike (expected_refusal s.network s.history t p) (with_expected s.history t p)
  follow_alike (ready_at t name) = expect_alike t name (is_beyond t) (node_named s.names name)
  follow_alike (edits edit) = plan_alike edit
  follow_alike (ends_by deadline) = deadline_alike deadline (nat_lt most_deadline deadline)
  follow_alike asks_next = next_alike
  follow_alike (asks_by name) = by_alike name (number_of s.names name)
  follow_alike asks_blame = blame_alike
  follow_alike asks_rest = (refl, (refl, (refl, refl)))

  forgive_alike : (ids : List ℕ) (b : Bool)
      → Alike (if b then says (line (refused_change_text EditLimit)) s else says (forgiven_line ids) (replanned s (after_removals (edited_network s) ids)))
      (if b then says (line (refused_change_text EditLimit)) Other else says (forgiven_line ids) (replanned Other (after_removals (edited_network Other) ids)))
  forgive_alike ids true = (refl, inl refl)
  forgive_alike ids false = (refl, inl refl)

  step_alike : (name : List ℕ) (o : Option ℕ) → Alike (step_unless s name (step_refusal s name o)) (step_unless Other name (step_refusal Other name o))
  step_alike name (Some x) = (refl, inl refl)
  step_alike name None = by_room (no_room s.edits (count s.network.base))
    where
      by_room : (o : Option StepError)
          → Alike (step_unless s name (option_map step_error_text o)) (step_unless Other name (option_map step_error_text o))
      by_room (Some error) = (refl, inl refl)
      by_room None =
          let text = line (codes "step " ++ printed_name name) in
          follows_alike (s.names ++ name ∷ []) (stepped s.network) s.history (s.edits + 1) s.fresh (λ v. text) (λ v. text) (λ v. inl refl) (inr (λ v w. refl))

  amendment_alike : (amendment : Amendment) → Alike (on_amendment s amendment) (on_amendment Other amendment)
  amendment_alike forgives =
      let ids = broken_ids s.network s.history in
      forgive_alike ids (nat_lt most_edits (s.edits + length ids))
  amendment_alike (steps name) = step_alike name (number_of s.names name)

  pub line_alike : (o : Option Spoken) → Alike (on_line s o) (on_line Other o)
  line_alike None = (refl, inl refl)
  line_alike (Some (of_line line)) = follow_alike line
  line_alike (Some (of_question question)) = (refl, answers_alike s larger upto question)
  line_alike (Some (of_amendment amendment)) = amendment_alike amendment
  line_alike (Some asks_digest) = (refl, (refl, (refl, refl)))

-- ---- turns

-- what a turn says with a larger cap
pub record AnswersAlike (cap larger : ℕ) (text : List ℕ) (next : Following) (other : Turn Following) : Type 0 where
  pub said : List ℕ
  pub turn : other ≡ more said (with_cap next larger)
  pub same : (said ≡ text) ⊎ (text ≡ full_line cap)

pub turn_alike : (cap larger : ℕ) (text : List ℕ) (next : Following) (one two : Heard) → IsAlike cap larger one two
    → heard_by canonical one ≡ more text next → AnswersAlike cap larger text next (heard_by canonical two)
turn_alike cap larger text next (says words later) (says others edited_by) alike is =
    let same_words : words ≡ text = cc in
    let same_later : later ≡ next = cc in
    record {
      said = others;
      turn = ap (λ x. more others x) (alike.0 ∙ ap (λ x. with_cap x larger) same_later);
      same = subst (λ w. (others ≡ w) ⊎ (w ≡ full_line cap)) same_words alike.1;
    }
turn_alike cap larger text next (says words later) (saves how m names edited_by) alike is = absurd alike
turn_alike cap larger text next (saves how m names later) (says others edited_by) alike is = absurd alike
turn_alike cap larger text next (saves how m names later) (saves way l others edited_by) alike is =
    let same_words : shown how (canonical m names) ≡ text = cc in
    let same_later : later ≡ next = cc in
    record {
      said = shown way (canonical l others);
      turn = ap (λ x. more (shown way (canonical l others)) x) (alike.0 ∙ ap (λ x. with_cap x larger) same_later);
      same = inl (ap (λ w. shown w (canonical l others)) alike.1.0 ∙ ap (λ x. shown how (canonical x others)) alike.1.1.0
          ∙ ap (λ ns. shown how (canonical m ns)) alike.1.1.1 ∙ same_words);
    }

-- ---- line after line

pub caps_lead : (s g : Following) (larger k : ℕ) (lines : List (List ℕ)) → IsSound s → s.cap ≤ larger → state_after follow_turn s k lines ≡ Some g
    → (state_after follow_turn (with_cap s larger) k lines ≡ Some (with_cap g larger))
    × AreSameUnlessFull s.cap (texts_of s lines) (texts_of (with_cap s larger) lines)
caps_lead s g larger k [] sound upto is = (ap (λ x. Some (with_cap x larger)) (same_Some s g is), tt)
caps_lead s g larger k (first ∷ lines) sound upto is =
    let l = first_leads follow_turn s g k first lines is in
    let one = turn_alike s.cap larger l.text l.next (hear s (spoken_read first)) (hear (with_cap s larger) (spoken_read first))
    (line_alike (counted s) larger upto (spoken_read first)) l.answer in
    let cap_is : l.next.cap ≡ s.cap = (turn_grows canonical s l.next first l.text sound l.answer).cap in
    let rest = caps_lead l.next g larger (k + 1) lines (next_sound canonical s l.next first l.text sound l.answer) (subst (λ c. c ≤ larger) (sym cap_is) upto) l.rest in (
      state_more follow_turn (with_cap s larger) k first lines l.short one.said (with_cap l.next larger) one.turn ∙ rest.0,
      subst (λ ts. AreSameUnlessFull s.cap ts (texts_of (with_cap s larger) (first ∷ lines))) (sym (texts_more s l.next first l.text lines l.answer))
          (subst (AreSameUnlessFull s.cap (l.text ∷ texts_of l.next lines))
          (sym (texts_more (with_cap s larger) (with_cap l.next larger) first one.said lines one.turn))
          (one.same, subst (λ c. AreSameUnlessFull c (texts_of l.next lines) (texts_of (with_cap l.next larger) lines)) cap_is rest.1)),
    )
