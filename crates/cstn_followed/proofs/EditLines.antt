-- What lines make of the plan and of what has happened.
use Rattle.std.proofs.Common.{ℕ, ℤ, ◌≡◌, ◌+◌, ◌<◌, ◌≤◌, Bool, true, false, List, [], ◌∷◌, ◌++◌, length, Option, Some, None, arith, refl, sym, subst, ap, ◌∙◌, inl, inr}
use Rattle.std.specs.Prelude.{◌⊎◌, Result, Ok, Err, nat_lt, if◌then◌else◌, bytes_eq, codes, decimal}
use Rattle.std.specs.Option.{option_map}
use Rattle.std.proofs.lemmas.Bool.{false≢true}
use Rattle.std.proofs.lemmas.List.Elements.{All-weaker}
use Rattle.std.proofs.lemmas.Option.{same_Some}
use Rattle.cstn_label.specs.Labels.{Label}
use Rattle.cstn_label.specs.Letters.{letter_of}
use Rattle.cstn_net.specs.Limits.{most_constraints, most_deadline, most_edits}
use Rattle.cstn_net.specs.Networks.{Constraint}
use Rattle.cstn_text.specs.Names.{number_of}
use Rattle.cstn_text.specs.Numbers.{printed_value}
use Rattle.cstn_text.specs.PrintedNames.{printed_name}
use Rattle.cstn_change.specs.Changes.{EditedNetwork, Change, adds, removes, revalues, refusal, edited_by}
use Rattle.cstn_change.specs.Changes.{ChangeRefusal, NoRoom, NoSuch, ValueRange, NotPlain, NotObserved, EditLimit, UnknownEnd}
use Rattle.cstn_change.specs.ChangeLines.{addition, refused_change_text, accepted_text}
use Rattle.cstn_check.specs.declared.verdicts.Verdict.{Verdict}
use Rattle.cstn_history.specs.Histories.{History}
use Rattle.cstn_lines.specs.EditLines.{Edit, added, removed, changed, asked}
use Rattle.cstn_lines.specs.FollowLines.{Follow, follow_read, done_at, came_at, now_at, awaited_at, ready_at, edits, ends_by, asks_next, asks_by, asks_blame, asks_rest}
use Rattle.cstn_reply.specs.Texts.{line}
use Rattle.cstn_reply.specs.Sessions.{Turn, more, last, wrong}
use Rattle.cstn_reply.specs.Reached.{state_after}
use Rattle.cstn_reply.proofs.Sessions.{FirstLeads, first_leads}
use Rattle.cstn_save.specs.Canonical.{canonical}
use Rattle.cstn_follow.specs.Following.{Following, Heard, says, saves, verdict_now, verdict_within, on_left_verdict, follows}
use Rattle.cstn_follow.specs.PlanLines.{edited_network, replanned, on_refusal, on_edit, on_add, on_deadline}
use Rattle.cstn_follow.specs.Replans.{with_due}
use Rattle.cstn_follow.specs.Amending.{Amendment, forgives, steps, amendment_read}
use Rattle.cstn_follow.specs.Asking.{FurtherQuestion, asked_read, Spoken, of_line, of_question, of_amendment, asks_digest, amended_by, spoken_by, spoken_read}
use Rattle.cstn_follow.specs.Forgiving.{broken_ids, after_removals}
use Rattle.cstn_follow.specs.ForgivingLines.{forgiven_line}
use Rattle.cstn_follow.specs.Hearing.{on_other, on_follow, counted, hear}
use Rattle.cstn_follow.specs.Recorded.{IsRecorded}
use Rattle.cstn_follow.specs.Turns.{heard_by}
use Rattle.cstn_follow.proofs.Forgiven.{removed_is}
use Rattle.cstn_follow.proofs.FurtherLines.{next_of, line_spoken, others_keep}
use Rattle.cstn_follow.proofs.States.{IsSound, next_keeps, check_keeps, blame_keeps, by_keeps, next_sound}
use Rattle.cstn_followed.specs.Sessions.{IsReached, follow_turn}
use Rattle.cstn_followed.specs.Answers.{Accepts}
use Rattle.cstn_followed.specs.Plans.{IsRefusedBy}
use Rattle.cstn_followed.specs.Journal.{accepted_of, kept_unless_refused}
use Rattle.cstn_follow.specs.Trials.{is_refusal}
use Rattle.cstn_followed.specs.Edits.{change_if, change_said, after_if, IsAcceptedText, plan_told, plan_now, plan_spoken, IsPlanByLines, IsHistoryTold, IsEditLine}
use Rattle.cstn_followed.specs.Edits.{Edits, Forgives, Steps, IsNew}
use Rattle.cstn_followed.proofs.StepsTold.{step_answered}
use Rattle.cstn_followed.proofs.Verdicts.{reached_sound, fact_accepted}
use Rattle.cstn_followed.proofs.Refusals.{refusal_stays}
use Rattle.cstn_followed.proofs.Journals.{accepted_more}

-- ---- why an edit is refused

refusal_why : (r : ChangeRefusal) → (why : List ℕ) × (line (refused_change_text r) ≡ line (codes "refused " ++ why))
refusal_why (NoRoom room) = (codes "S1 " ++ decimal room, refl)
refusal_why (NoSuch id) = (codes "S2 " ++ decimal id, refl)
refusal_why (ValueRange most) = (codes "S3 " ++ printed_value most, refl)
refusal_why NotPlain = (codes "S4", refl)
refusal_why (NotObserved p) = (codes "S5 " ++ letter_of p ∷ [], refl)
refusal_why EditLimit = (codes "S6", refl)
refusal_why (UnknownEnd name) = (codes "S7 " ++ printed_name name, refl)

-- ---- edits

module _ (s : Following) where
  -- the edit is made, and the text says so
  abbrev Makes : Follow → List ℕ → Following → Type 0
  Makes edit text next = (next ≡ replanned s (plan_told s.names (edited_network s) (Some edit))) × IsAcceptedText s.names s.fresh edit text

  -- the edit is refused, or it is made
  abbrev Says : Follow → Heard → Type 0
  Says edit (says text next) = ((next ≡ s) × ((why : List ℕ) × (text ≡ line (codes "refused " ++ why)))) ⊎ Makes edit text next
  Says edit (saves how m names next) = ⊥

  follows_says : (edit : Follow) (next : Following) (text : List ℕ) → Makes edit text next → Says edit (follows s next (λ v. text))
  follows_says edit next text made = by_verdict (verdict_within next)
    where
      by_verdict : (o : Option Verdict) → Says edit (on_left_verdict s next (λ v. text) o)
      by_verdict None = inl (refl, (codes "F8", refl))
      by_verdict (Some v) = inr made

  change_says : (edit : Edit) (change : Change) → change_said s.names edit ≡ Some change → Says (edits edit) (on_edit s (Ok change))
  change_says edit change is = by_refusal (refusal most_constraints (edited_network s) change)
    where
      by_refusal : (o : Option ChangeRefusal) → Says (edits edit) (on_refusal s change o)
      by_refusal (Some why) = inl (refl, refusal_why why)
      by_refusal None =
          follows_says (edits edit) (replanned s (edited_by (edited_network s) change)) (line (accepted_text s.fresh change))
          (sym (ap (λ o. replanned s (after_if (edited_network s) o)) is), (change, is, refl))

  add_says : (from to : List ℕ) (most : ℤ) (a : Label) → Says (edits (added from to most a)) (on_add s from to most a)
  add_says from to most a = by_addition (addition s.names from to most a) refl
    where
      by_addition : (r : Result Change ChangeRefusal) → addition s.names from to most a ≡ r → Says (edits (added from to most a)) (on_edit s r)
      by_addition (Ok change) is = change_says (added from to most a) change (ap change_if is)
      by_addition (Err why) is = inl (refl, refusal_why why)

  deadline_says : (deadline : ℕ) (late : Bool) → Says (ends_by deadline) (if late then on_other s else on_deadline s deadline)
  deadline_says deadline true = inl (refl, (codes "line " ++ decimal s.lines, refl))
  deadline_says deadline false =
      follows_says (ends_by deadline) (replanned s (with_due (edited_network s) deadline)) (line (codes "deadline " ++ decimal deadline)) (refl, refl)

  line_says : (edit : Follow) → IsEditLine edit → Says edit (on_follow s edit)
  line_says (edits (added from to most a)) is = add_says from to most a
  line_says (edits (removed id)) is = change_says (removed id) (removes id) refl
  line_says (edits (changed id most)) is = change_says (changed id most) (revalues id most) refl
  line_says (edits asked) is = absurd is
  line_says (ends_by deadline) is = deadline_says deadline (nat_lt most_deadline deadline)
  line_says (done_at t given) is = absurd is
  line_says (came_at t p value) is = absurd is
  line_says (now_at t) is = absurd is
  line_says (awaited_at t p) is = absurd is
  line_says (ready_at t name) is = absurd is
  line_says asks_next is = absurd is
  line_says (asks_by name) is = absurd is
  line_says asks_blame is = absurd is
  line_says asks_rest is = absurd is

-- what a turn says to an edit
abbrev TurnSays : Following → Follow → Turn Following → Type 0
TurnSays s edit (more text next) = IsRefusedBy s text next ⊎ Edits s edit text next
TurnSays s edit (last said) = ⊥
TurnSays s edit wrong = ⊥

turn_says : (s : Following) (edit : Follow) (heard : Heard) → Says (counted s) edit heard → TurnSays s edit (heard_by canonical heard)
turn_says s edit (says text next) (inl refused) = inl refused
turn_says s edit (says text next) (inr made) = inr (record { next_is = made.0; text_is = made.1 })
turn_says s edit (saves how m names next) never = absurd never

pub edit_answered : (s next : Following) (bytes text : List ℕ) (edit : Follow) → follow_read bytes ≡ Some edit → IsEditLine edit
    → follow_turn s bytes ≡ more text next → IsRefusedBy s text next ⊎ Edits s edit text next
edit_answered s next bytes text edit reads is answered =
    subst (TurnSays s edit) (ap (λ (o : Option Spoken). heard_by canonical (hear s o)) (sym (line_spoken bytes edit reads)) ∙ answered)
    (turn_says s edit (on_follow (counted s) edit) (line_says (counted s) edit is))

-- ---- a line that is accepted

-- what it makes of the plan, where it says this, and of what has happened, where it tells, edits or asks so
pub record IsTold (s next : Following) (o : Option Follow) (said : Option Spoken) : Type 0 where
  pub plan : plan_now next ≡ plan_spoken (plan_now s) s.history said
  pub history : IsHistoryTold s.names s.history o next.history
  pub fresh : s.fresh ≤ next.fresh

nothing_told : (s next : Following) (o : Option Follow) (said : Option Spoken)
    → plan_spoken (plan_now s) s.history said ≡ plan_now s → IsHistoryTold s.names s.history o s.history
    → next ≡ counted s → IsTold s next o said
nothing_told s next o said plan history same =
    subst (λ (g : Following). IsTold s g o said) (sym same) (record { plan = sym plan; history = history; fresh = omega arith })

none_said : (s next : Following) (line : Follow) → plan_told s.names (edited_network s) (Some line) ≡ edited_network s
    → IsHistoryTold s.names s.history (Some line) s.history → next ≡ counted s → IsTold s next (Some line) (Some (of_line line))
none_said s next line plan = nothing_told s next (Some line) (Some (of_line line)) (ap (λ e. record (plan_now s) { network = e }) plan)

fact_told : (s next : Following) (fact : Follow) (text : List ℕ) → plan_told s.names (edited_network s) (Some fact) ≡ edited_network s
    → ((h : History) → IsRecorded s.names s.history fact h → IsHistoryTold s.names s.history (Some fact) h) → is_refusal text ≡ false
    → IsRefusedBy s text next ⊎ Accepts s fact text next → IsTold s next (Some fact) (Some (of_line fact))
fact_told s next fact text plan history fine (inl refused) = absurd (false≢true (sym fine ∙ ap is_refusal refused.1.1))
fact_told s next fact text plan history fine (inr accepts) =
    subst (λ (g : Following). IsTold s g (Some fact) (Some (of_line fact))) (sym accepts.next_is)
    (record { plan = sym (ap (λ e. record (plan_now s) { network = e }) plan); history = history accepts.later accepts.recorded; fresh = omega arith })

-- an id above all that were used stays above them
fresh_after_if : (e : EditedNetwork) (o : Option Change) → e.fresh ≤ (after_if e o).fresh
fresh_after_if e None = omega arith
fresh_after_if e (Some (adds x y most a)) = omega arith
fresh_after_if e (Some (removes id)) = omega arith
fresh_after_if e (Some (revalues id most)) = omega arith

fresh_told : (names : List (List ℕ)) (e : EditedNetwork) (edit : Follow) → IsEditLine edit → e.fresh ≤ (plan_told names e (Some edit)).fresh
fresh_told names e (edits edit) is = fresh_after_if e (change_said names edit)
fresh_told names e (ends_by deadline) is = omega arith
fresh_told names e (done_at t given) is = absurd is
fresh_told names e (came_at t p value) is = absurd is
fresh_told names e (now_at t) is = absurd is
fresh_told names e (awaited_at t p) is = absurd is
fresh_told names e (ready_at t name) is = absurd is
fresh_told names e asks_next is = absurd is
fresh_told names e (asks_by name) is = absurd is
fresh_told names e asks_blame is = absurd is
fresh_told names e asks_rest is = absurd is

edit_told : (s next : Following) (edit : Follow) (text : List ℕ) → IsEditLine edit → ((h : History) → h ≡ s.history → IsHistoryTold s.names s.history (Some edit) h)
    → is_refusal text ≡ false → IsRefusedBy s text next ⊎ Edits s edit text next → IsTold s next (Some edit) (Some (of_line edit))
edit_told s next edit text is history fine (inl refused) = absurd (false≢true (sym fine ∙ ap is_refusal refused.1.1))
edit_told s next edit text is history fine (inr made) = subst (λ (g : Following). IsTold s g (Some edit) (Some (of_line edit))) (sym made.next_is) (record {
  plan = refl;
  history = history s.history refl;
  fresh = fresh_told s.names (edited_network s) edit is;
})

-- the state after a turn
abbrev TurnLeads : Following → Turn Following → Type 0
TurnLeads s (more text next) = next ≡ s
TurnLeads s (last said) = ⊥
TurnLeads s wrong = ⊥

heard_leads : (s : Following) (heard : Heard) → next_of heard ≡ s → TurnLeads s (heard_by canonical heard)
heard_leads s (says text next) same = same
heard_leads s (saves how m names next) same = same

-- a question changes nothing
kept_by : (s next : Following) (bytes text : List ℕ) → next_of (hear s (spoken_read bytes)) ≡ counted s
    → follow_turn s bytes ≡ more text next → next ≡ counted s
kept_by s next bytes text same answered = subst (TurnLeads (counted s)) answered (heard_leads (counted s) (hear s (spoken_read bytes)) same)

kept_by_line : (s next : Following) (bytes text : List ℕ) (line : Follow) → follow_read bytes ≡ Some line → next_of (on_follow (counted s) line) ≡ counted s
    → follow_turn s bytes ≡ more text next → next ≡ counted s
kept_by_line s next bytes text line reads same answered =
    kept_by s next bytes text (ap (λ (o : Option Spoken). next_of (hear s o)) (line_spoken bytes line reads) ∙ same) answered

-- ---- what is broken is forgiven

upto_most : (n : ℕ) → nat_lt most_edits n ≡ false → n ≤ most_edits
upto_most n few = grind arith

-- what a turn says to `forgive`
abbrev TurnForgives : Following → Turn Following → Type 0
TurnForgives s (more text next) = IsRefusedBy s text next ⊎ Forgives s text next
TurnForgives s (last said) = ⊥
TurnForgives s wrong = ⊥

forgive_says : (s : Following) (b : Bool) → nat_lt most_edits (s.edits + length (broken_ids s.network s.history)) ≡ b
    → TurnForgives s (heard_by canonical (if b then says (line (refused_change_text EditLimit)) (counted s)
    else says (forgiven_line (broken_ids s.network s.history)) (replanned (counted s) (after_removals (edited_network s) (broken_ids s.network s.history)))))
forgive_says s true many = inl (refl, (codes "S6", refl))
forgive_says s false few = inr (record { few = upto_most (s.edits + length (broken_ids s.network s.history)) few; next_is = refl; text_is = refl })

pub forgive_answered : (s next : Following) (bytes text : List ℕ) → spoken_read bytes ≡ Some (of_amendment forgives) → follow_turn s bytes ≡ more text next
    → IsRefusedBy s text next ⊎ Forgives s text next
forgive_answered s next bytes text reads answered =
    subst (TurnForgives s) (ap (λ (o : Option Spoken). heard_by canonical (hear s o)) (sym reads) ∙ answered)
    (forgive_says s (nat_lt most_edits (s.edits + length (broken_ids s.network s.history))) refl)

forgive_told : (s next : Following) (text : List ℕ) → is_refusal text ≡ false → IsRefusedBy s text next ⊎ Forgives s text next
    → IsTold s next None (Some (of_amendment forgives))
forgive_told s next text fine (inl refused) = absurd (false≢true (sym fine ∙ ap is_refusal refused.1.1))
forgive_told s next text fine (inr made) = subst (λ (g : Following). IsTold s g None (Some (of_amendment forgives))) (sym made.next_is) (record {
  plan = refl;
  history = refl;
  fresh =
      let same = ap (λ (e : EditedNetwork). e.fresh) (removed_is (edited_network s) (broken_ids s.network s.history)) in
      omega arith;
})

step_told : (s next : Following) (name text : List ℕ) → is_refusal text ≡ false → IsRefusedBy s text next ⊎ Steps s name text next
    → IsTold s next None (Some (of_amendment (steps name)))
step_told s next name text fine (inl refused) = absurd (false≢true (sym fine ∙ ap is_refusal refused.1.1))
step_told s next name text fine (inr made) =
    subst (λ (g : Following). IsTold s g None (Some (of_amendment (steps name)))) (sym made.next_is)
    (record { plan = refl; history = refl; fresh = omega arith })

-- a line that tells, edits or asks nothing amends the plan, or asks further
amended_told : (s next : Following) (bytes text : List ℕ) → follow_read bytes ≡ None → follow_turn s bytes ≡ more text next → is_refusal text ≡ false
    → IsTold s next None (spoken_by None bytes)
amended_told s next bytes text reads answered fine = by_amendment (amendment_read bytes) refl
  where
    by_question : amendment_read bytes ≡ None → (o : Option FurtherQuestion) → IsTold s next None (option_map of_question o)
    by_question none None = nothing_told s next None None refl refl (kept_by s next bytes text (others_keep (counted s) bytes reads none) answered)
    by_question none (Some question) =
        nothing_told s next None (Some (of_question question)) refl refl (kept_by s next bytes text (others_keep (counted s) bytes reads none) answered)

    by_digest : amendment_read bytes ≡ None → (b : Bool) → IsTold s next None (if b then Some asks_digest else option_map of_question (asked_read bytes))
    by_digest none true =
        nothing_told s next None (Some asks_digest) refl refl (kept_by s next bytes text (others_keep (counted s) bytes reads none) answered)
    by_digest none false = by_question none (asked_read bytes)

    by_amendment : (o : Option Amendment) → amendment_read bytes ≡ o → IsTold s next None (amended_by o bytes)
    by_amendment None is = by_digest is (bytes_eq bytes (codes "digest"))
    by_amendment (Some forgives) is =
        let spoken = ap (λ f. spoken_by f bytes) reads ∙ ap (λ o. amended_by o bytes) is in
        forgive_told s next text fine (forgive_answered s next bytes text spoken answered)
    by_amendment (Some (steps name)) is =
        let spoken = ap (λ f. spoken_by f bytes) reads ∙ ap (λ o. amended_by o bytes) is in
        step_told s next name text fine (step_answered s next bytes text name spoken answered)

pub line_told : (s next : Following) (bytes text : List ℕ) → IsSound s → (o : Option Follow) → follow_read bytes ≡ o → follow_turn s bytes ≡ more text next
    → is_refusal text ≡ false → IsTold s next o (spoken_by o bytes)
line_told s next bytes text sound None reads answered fine = amended_told s next bytes text reads answered fine
line_told s next bytes text sound (Some (done_at t given)) reads answered fine =
    fact_told s next (done_at t given) text refl (λ h is. is) fine (fact_accepted s next bytes text (done_at t given) sound reads tt answered)
line_told s next bytes text sound (Some (came_at t p value)) reads answered fine =
    fact_told s next (came_at t p value) text refl (λ h is. is) fine (fact_accepted s next bytes text (came_at t p value) sound reads tt answered)
line_told s next bytes text sound (Some (now_at t)) reads answered fine =
    fact_told s next (now_at t) text refl (λ h is. is) fine (fact_accepted s next bytes text (now_at t) sound reads tt answered)
line_told s next bytes text sound (Some (awaited_at t p)) reads answered fine =
    fact_told s next (awaited_at t p) text refl (λ h is. is) fine (fact_accepted s next bytes text (awaited_at t p) sound reads tt answered)
line_told s next bytes text sound (Some (ready_at t name)) reads answered fine =
    fact_told s next (ready_at t name) text refl (λ h is. is) fine (fact_accepted s next bytes text (ready_at t name) sound reads tt answered)
line_told s next bytes text sound (Some (edits (added from to most a))) reads answered fine =
    edit_told s next (edits (added from to most a)) text tt (λ h is. is) fine (edit_answered s next bytes text (edits (added from to most a)) reads tt answered)
line_told s next bytes text sound (Some (edits (removed id))) reads answered fine =
    edit_told s next (edits (removed id)) text tt (λ h is. is) fine (edit_answered s next bytes text (edits (removed id)) reads tt answered)
line_told s next bytes text sound (Some (edits (changed id most))) reads answered fine =
    edit_told s next (edits (changed id most)) text tt (λ h is. is) fine (edit_answered s next bytes text (edits (changed id most)) reads tt answered)
line_told s next bytes text sound (Some (edits asked)) reads answered fine =
    none_said s next (edits asked) refl refl
    (kept_by_line s next bytes text (edits asked) reads (check_keeps (counted s) (verdict_now s)) answered)
line_told s next bytes text sound (Some (ends_by deadline)) reads answered fine =
    edit_told s next (ends_by deadline) text tt (λ h is. is) fine (edit_answered s next bytes text (ends_by deadline) reads tt answered)
line_told s next bytes text sound (Some asks_next) reads answered fine =
    none_said s next asks_next refl refl (kept_by_line s next bytes text asks_next reads (next_keeps (counted s) (verdict_now s)) answered)
line_told s next bytes text sound (Some (asks_by name)) reads answered fine =
    none_said s next (asks_by name) refl refl
    (kept_by_line s next bytes text (asks_by name) reads (by_keeps (counted s) name (number_of s.names name)) answered)
line_told s next bytes text sound (Some asks_blame) reads answered fine =
    none_said s next asks_blame refl refl (kept_by_line s next bytes text asks_blame reads (blame_keeps (counted s) (verdict_now s)) answered)
line_told s next bytes text sound (Some asks_rest) reads answered fine =
    none_said s next asks_rest refl refl (kept_by_line s next bytes text asks_rest reads refl answered)

-- ---- line after line

-- what the accepted lines make of the plan and of what has happened
pub record AreTold (s g : Following) (lines : List (List ℕ)) : Type 0 where
  pub plan : IsPlanByLines (plan_now s) s.history (accepted_of s lines) (plan_now g) g.history
  pub fresh : s.fresh ≤ g.fresh

none_told : (s g : Following) → s ≡ g → AreTold s g []
none_told s g same = subst (λ (x : Following). AreTold s x []) same (record { plan = (refl, refl); fresh = omega arith })

told_more : (s g : Following) (k : ℕ) (first : List ℕ) (lines : List (List ℕ)) → IsSound s → (l : FirstLeads follow_turn s g k first lines)
    → AreTold l.next g lines → AreTold s g (first ∷ lines)
told_more s g k first lines sound l rest = by_refusal (is_refusal l.text) refl
  where
    accepted_is : accepted_of s (first ∷ lines) ≡ kept_unless_refused (is_refusal l.text) first (accepted_of l.next lines)
    accepted_is = accepted_more s l.next first l.text lines l.answer

    by_refusal : (b : Bool) → is_refusal l.text ≡ b → AreTold s g (first ∷ lines)
    by_refusal true refused =
        let gone = accepted_is ∙ ap (λ b. kept_unless_refused b first (accepted_of l.next lines)) refused in
        let same = refusal_stays s l.next first l.text sound l.answer refused in
        let fresh_same : l.next.fresh ≡ s.fresh = ap (λ (x : Following). x.fresh) same in
        record {
          plan = subst (λ ls. IsPlanByLines (plan_now s) s.history ls (plan_now g) g.history) (sym gone)
              (subst (λ (x : Following). IsPlanByLines (plan_now x) x.history (accepted_of l.next lines) (plan_now g) g.history) same rest.plan);
          fresh = (let more_fresh = rest.fresh in omega arith);
        }
    by_refusal false fine =
        let kept = accepted_is ∙ ap (λ b. kept_unless_refused b first (accepted_of l.next lines)) fine in
        let one = line_told s l.next first l.text sound (follow_read first) refl l.answer fine in
        record {
          plan = subst (λ ls. IsPlanByLines (plan_now s) s.history ls (plan_now g) g.history) (sym kept) (
            l.next.history,
            one.history,
            subst (λ p. IsPlanByLines p l.next.history (accepted_of l.next lines) (plan_now g) g.history) one.plan rest.plan,
          );
          fresh = (let more_fresh = rest.fresh in let here = one.fresh in omega arith);
        }

pub lines_told : (s g : Following) (k : ℕ) (lines : List (List ℕ)) → IsSound s → state_after follow_turn s k lines ≡ Some g → AreTold s g lines
lines_told s g k [] sound is = none_told s g (same_Some s g is)
lines_told s g k (first ∷ lines) sound is =
    let l = first_leads follow_turn s g k first lines is in
    told_more s g k first lines sound l (lines_told l.next g (k + 1) lines (next_sound canonical s l.next first l.text sound l.answer) l.rest)

pub new_ids : (earlier s : Following) (k : ℕ) (lines : List (List ℕ)) → IsReached earlier → state_after follow_turn earlier k lines ≡ Some s
    → IsNew earlier.network.base s.fresh
new_ids earlier s k lines reached leads =
    let sound = reached_sound earlier reached in
    let upto = (lines_told earlier s k lines sound leads).fresh in
    All-weaker (λ (c : Constraint). c.id < earlier.fresh) (λ (c : Constraint). c.id < s.fresh) (λ c below. omega arith) earlier.network.base.constraints sound.above
