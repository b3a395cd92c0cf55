-- What is known of the answers of each session: whether one is the last, and why there is none.
use Rattle.std.proofs.Common.{◌≡◌, ℕ, List, refl}
use Rattle.std.specs.Prelude.{Option, None, Some, Result, Ok, Err}
use Rattle.cstn_label.specs.Bounds.{Bound}
use Rattle.cstn_lines.specs.LiveLines.{moment_at, seen, due_now, live_read, Live as LiveLine}
use Rattle.cstn_exec.specs.Runs.{due}
use Rattle.cstn_exec.specs.Moves.{EventRefusal, moment_refusal}
use Rattle.cstn_exec.specs.Guides.{Guided, named, advanced, see_refusal}
use Rattle.cstn_exec.specs.Running.{moment_line, executing}
use Rattle.cstn_run.specs.Sessions.{named_turn, noted_turn, answer_turn, guide_turn}
use Rattle.cstn_lift.specs.Labelled.{Labelled}
use Rattle.cstn_lift.specs.Lowered.{lowered}
use Rattle.cstn_reply.specs.declared.output.Outcome.TheVariants.{Good}
use Rattle.cstn_top.proofs.Played.{TurnIs}
use Rattle.cstn_net.specs.Limits.{most_constraints}
use Rattle.cstn_change.specs.Changes.{Change, removes, revalues, ChangeRefusal as EditRefusal, refusal}
use Rattle.cstn_change.specs.ChangeLines.{addition}
use Rattle.cstn_edit.specs.Edits.{Session, edited_of, with_change}
use Rattle.cstn_lines.specs.EditLines.{Edit, added, removed, changed, asked as check_asked, edit_read}
use Rattle.cstn_edit.specs.Editing.{Editing, answered_edit, answered_change, answered, edit_turn}
use Rattle.cstn_follow.specs.Following.{Following, Heard, says, saves}
use Rattle.cstn_save.specs.Canonical.{canonical}
use Rattle.cstn_follow.specs.Marks.{Marked, saying_read, hear_marked, marked_by}
use Rattle.cstn_top.specs.commands.Follow.{marked_turn}
use Rattle.cstn_lines.specs.HostLines.{Hosted, host_read}
use Rattle.cstn_run.specs.hosted.Sessions.{HostSession, hosted_turn, host_turn}

-- ---- of a run: only a moment has a last answer, by which all is executed

executing_is : (text : List ℕ) (g : Guided) (o : Option ℕ) (Unread : Type 0) → TurnIs Unread (λ outcome. outcome ≡ Good) (executing text g o)
executing_is text g None Unread = refl
executing_is text g (Some t) Unread = tt

live_is : (names : List (List ℕ)) (m : Labelled) (bounds : List Bound) (g : Guided) (o : Option LiveLine) → TurnIs (o ≡ None) (λ outcome. outcome ≡ Good) (answer_turn names m bounds g o)
live_is names m bounds g None = refl
live_is names m bounds g (Some (moment_at t)) = by_refusal (moment_refusal (lowered m) bounds g.run t)
  where
    by_refusal : (o : Option EventRefusal) → TurnIs (Some (moment_at t) ≡ None) (λ outcome. outcome ≡ Good) (named_turn names m bounds g t o)
    by_refusal None = executing_is (moment_line names t (named m bounds g.run t)) (advanced m bounds g t) (due (lowered m) bounds (advanced m bounds g t).run) (Some (moment_at t) ≡ None)
    by_refusal (Some refusal) = tt
live_is names m bounds g (Some (seen p value)) = by_refusal (see_refusal m g p)
  where
    by_refusal : (o : Option EventRefusal) → TurnIs (Some (seen p value) ≡ None) (λ outcome. outcome ≡ Good) (noted_turn g p value o)
    by_refusal None = tt
    by_refusal (Some refusal) = tt
live_is names m bounds g (Some due_now) = tt

pub guide_answers : (names : List (List ℕ)) (m : Labelled) (bounds : List Bound) (g : Guided) (text : List ℕ) → TurnIs (live_read text ≡ None) (λ outcome. outcome ≡ Good) (guide_turn names m bounds g text)
guide_answers names m bounds g text = live_is names m bounds g (live_read text)

-- ---- of an edit session: no answer is the last

edit_is : (e : Editing) (o : Option EditRefusal) (text : List ℕ) (next : Session) (Unread : Type 0) → TurnIs Unread (λ outcome. ⊥) (answered_edit e o text next)
edit_is e None text next Unread = tt
edit_is e (Some refusal) text next Unread = tt

change_is : (e : Editing) (r : Result Change EditRefusal) (Unread : Type 0) → TurnIs Unread (λ outcome. ⊥) (answered_change e r)
change_is e (Err why) Unread = tt
change_is e (Ok change) Unread = edit_is e (refusal most_constraints (edited_of e.session) change) _ (with_change e.session change) Unread

answer_is : (e : Editing) (o : Option Edit) → TurnIs (o ≡ None) (λ outcome. ⊥) (answered e o)
answer_is e None = refl
answer_is e (Some (added from to most a)) = change_is e (addition e.names from to most a) (Some (added from to most a) ≡ None)
answer_is e (Some (removed id)) = change_is e (Ok (removes id)) (Some (removed id) ≡ None)
answer_is e (Some (changed id most)) = change_is e (Ok (revalues id most)) (Some (changed id most) ≡ None)
answer_is e (Some check_asked) = tt

pub edit_answers : (e : Editing) (text : List ℕ) → TurnIs (edit_read text ≡ None) (λ outcome. ⊥) (edit_turn e text)
edit_answers e text = answer_is e (edit_read text)

-- ---- of one that follows: each line is answered, and no answer is the last

heard_is : (heard : Heard) (marks : List Following) → TurnIs ⊥ (λ outcome. ⊥) (marked_by canonical heard marks)
heard_is (says text next) marks = tt
heard_is (saves how m names next) marks = tt

pub follow_answers : (t : Marked) (text : List ℕ) → TurnIs ⊥ (λ outcome. ⊥) (marked_turn t text)
follow_answers t text = let h = hear_marked t (saying_read text) in heard_is h.heard h.marks

-- ---- of a host: no answer is the last

hosted_is : (session : HostSession) (o : Option Hosted) → TurnIs (o ≡ None) (λ outcome. ⊥) (hosted_turn session o)
hosted_is session None = refl
hosted_is session (Some hosted) = tt

pub host_answers : (session : HostSession) (text : List ℕ) → TurnIs (host_read text ≡ None) (λ outcome. ⊥) (host_turn session text)
host_answers session text = hosted_is session (host_read text)
