-- The answers to edit lines.
use Rattle.std.proofs.Common.{◌≡◌, ℕ, ◌+◌, List, [], ◌∷◌, ◌++◌, refl, ap, sym, ◌∙◌, subst, append_assoc, inr}
use Rattle.std.specs.Prelude.{if◌then◌else◌, Option, None, Some, Result, Ok, Err, codes, decimal}
use Rattle.cstn_net.specs.Limits.{most_constraints}
use Rattle.cstn_text.specs.Numbers.{printed_number}
use Rattle.cstn_rules.specs.Derivations.{Entry}
use Rattle.cstn_log.specs.Cuts.{last_with_ancestors}
use Rattle.cstn_check.specs.declared.verdicts.Verdict.{Verdict}
use Rattle.cstn_check.specs.declared.verdicts.Verdict.TheVariants.{Yes, No, Full}
use Rattle.cstn_refute.specs.Steps.{printed_step}
use Rattle.cstn_refute.specs.Texts.{printed_steps}
use Rattle.cstn_lines.specs.EditLines.{Edit, added, removed, changed, asked}
use Rattle.cstn_reply.specs.Texts.{line}
use Rattle.cstn_reply.specs.Written.{EndsLine}
use Rattle.cstn_reply.specs.Sessions.{Turn, more, last, wrong}
use Rattle.cstn_change.specs.Changes.{Change, removes, revalues, ChangeRefusal, refusal}
use Rattle.cstn_change.specs.ChangeLines.{refused_change_text, accepted_text, addition}
use Rattle.cstn_edit.specs.Sessions.{EditSessionParts}
use Rattle.cstn_edit.specs.Edits.{Session, edited_of, with_change, outcome_at, with_verdict, the_session}
use Rattle.cstn_edit.specs.declared.outcomes.Outcome.{Outcome as Answered}
use Rattle.cstn_edit.specs.Editing.{Editing, EditingParts, the_editing, answered_edit, answered_change, verdict_text, answered_check, answered}

-- what contracts see of an edit session
abbrev pub seen_with : EditSessionParts → List (List ℕ) → Option Verdict → EditingParts
seen_with s names verdict = record { session = s; names = names; verdict = verdict }

-- an edit session as the definitions have it
abbrev pub state_with : ℕ → List (List ℕ) → Option Verdict → Session → Editing
state_with cap names verdict s = record { cap = cap; names = names; session = s; verdict = verdict }

module _ (old : EditingParts) (s new : EditSessionParts) (names : List (List ℕ)) (verdict : Option Verdict) (view : seen_with s names verdict ≡ old)
    (room : s.room ≡ most_constraints) (change : Change) (said : List ℕ) where
  -- the answer to the change, by the parts of the session
  answer_by : answered_change (the_editing (seen_with s names verdict)) (Ok change) ≡ more said (the_editing (seen_with new names verdict))
      → answered_change (the_editing old) (Ok change) ≡ more said (the_editing (seen_with new names verdict))
  answer_by is = subst (λ (e : EditingParts). answered_change (the_editing e) (Ok change) ≡ more said (the_editing (seen_with new names verdict))) view is

  why_by : (o : Option ChangeRefusal) → o ≡ refusal s.room (edited_of (the_session s)) change → o ≡ refusal most_constraints (edited_of (the_session s)) change
  why_by o is = is ∙ ap (λ n. refusal n (edited_of (the_session s)) change) room

  -- an accepted edit
  pub accepted : None ≡ refusal s.room (edited_of (the_session s)) change → said ≡ line (accepted_text s.next change)
      → the_session new ≡ with_change (the_session s) change → new.cap ≡ s.cap
      → answered_change (the_editing old) (Ok change) ≡ more said (the_editing (seen_with new names verdict))
  accepted none is next_is cap_is = answer_by
      (ap (λ (r : Option ChangeRefusal). answered_edit (the_editing (seen_with s names verdict)) r (accepted_text s.next change) (with_change (the_session s) change)) (sym (why_by None none))
      ∙ ap (λ (xs : List ℕ). more xs (state_with s.cap names verdict (with_change (the_session s) change))) (sym is)
      ∙ ap (λ (x : Session). more said (state_with s.cap names verdict x)) (sym next_is)
      ∙ ap (λ (cap : ℕ). more said (state_with cap names verdict (the_session new))) (sym cap_is))

  -- a refused edit
  pub refused : (why : ChangeRefusal) → Some why ≡ refusal s.room (edited_of (the_session s)) change → said ≡ line (refused_change_text why) → new ≡ s
      → answered_change (the_editing old) (Ok change) ≡ more said (the_editing (seen_with new names verdict))
  refused why some is same = answer_by
      (ap (λ (r : Option ChangeRefusal). answered_edit (the_editing (seen_with s names verdict)) r (accepted_text s.next change) (with_change (the_session s) change)) (sym (why_by (Some why) some))
      ∙ ap (λ (xs : List ℕ). more xs (the_editing (seen_with s names verdict))) (sym is)
      ∙ ap (λ (x : EditSessionParts). more said (the_editing (seen_with x names verdict))) (sym same))

-- ---- every answer is whole lines

-- the text ends with LF
abbrev Ends : List ℕ → Type 0
Ends text = (front : List ℕ) × (text ≡ line front)

ends_after : (xs text : List ℕ) → Ends text → Ends (xs ++ text)
ends_after xs text (front, is) = (xs ++ front, ap (λ (ys : List ℕ). xs ++ ys) is ∙ sym (append_assoc xs front (10 ∷ [])))

steps_end : (names : List (List ℕ)) (k : ℕ) (steps : List Entry) → Ends (10 ∷ printed_steps names k steps)
steps_end names k [] = ([], refl)
steps_end names k (e ∷ steps) = ends_after (10 ∷ printed_step names k e) (10 ∷ printed_steps names (k + 1) steps) (steps_end names (k + 1) steps)

verdict_ends : (cap : ℕ) (names : List (List ℕ)) (kept : List Entry) (v : Verdict) → Ends (verdict_text cap names kept v)
verdict_ends cap names kept (Yes load) = (codes "yes " ++ decimal load, refl)
verdict_ends cap names kept (No load) =
    ends_after (codes "no ") (printed_number load ++ 10 ∷ printed_steps names 0 (last_with_ancestors kept))
    (ends_after (printed_number load) (10 ∷ printed_steps names 0 (last_with_ancestors kept)) (steps_end names 0 (last_with_ancestors kept)))
verdict_ends cap names kept Full = (codes "full " ++ decimal cap, refl)

-- the text of an answer after which the session goes on
abbrev said_of : {S : Type 0} → Turn S → List ℕ
said_of (more text state) = text
said_of (last said) = []
said_of wrong = []

said_ends : {S : Type 0} (t : Turn S) (text : List ℕ) (next : S) → Ends (said_of t) → t ≡ more text next → EndsLine text
said_ends t text next (front, is) same = inr (front, ap said_of (sym same) ∙ is)

edit_ends : (e : Editing) (r : Option ChangeRefusal) (text : List ℕ) (next : Session) → Ends (said_of (answered_edit e r text next))
edit_ends e None text next = (text, refl)
edit_ends e (Some why) text next = (refused_change_text why, refl)

change_ends : (e : Editing) (r : Result Change ChangeRefusal) → Ends (said_of (answered_change e r))
change_ends e (Err why) = (refused_change_text why, refl)
change_ends e (Ok change) =
    edit_ends e (refusal most_constraints (edited_of e.session) change) (accepted_text e.session.next change) (with_change e.session change)

check_ends : (e : Editing) (o : Answered) (next : Session) → Ends (said_of (answered_check e o next))
check_ends e o next =
    ends_after (if o.afresh then line (codes "afresh") else []) (verdict_text e.cap e.names next.kept o.verdict)
    (verdict_ends e.cap e.names next.kept o.verdict)

pub answer_ends : (e : Editing) (o : Option Edit) (text : List ℕ) (next : Editing) → answered e o ≡ more text next → EndsLine text
answer_ends e None text next is = absurd (let clash : wrong ≡ more text next = is in cc)
answer_ends e (Some (added from to most a)) text next is =
    said_ends (answered e (Some (added from to most a))) text next (change_ends e (addition e.names from to most a)) is
answer_ends e (Some (removed id)) text next is = said_ends (answered e (Some (removed id))) text next (change_ends e (Ok (removes id))) is
answer_ends e (Some (changed id most)) text next is = said_ends (answered e (Some (changed id most))) text next (change_ends e (Ok (revalues id most))) is
answer_ends e (Some asked) text next is =
    said_ends (answered e (Some asked)) text next (check_ends e (outcome_at e.cap e.session) (with_verdict e.cap e.session)) is
