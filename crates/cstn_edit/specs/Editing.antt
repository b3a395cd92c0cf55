-- What is answered to edit lines.
use Rattle.std.specs.Prelude.{◌≤◌, ℕ, Bool, false, ◌||◌, if◌then◌else◌, List, [], ◌∷◌, ◌++◌, length, ◌≡◌, Option, None, Some, Result, Ok, Err, codes, bytes_eq}
use Rattle.cstn_net.specs.Limits.{most_time_points, most_constraints}
use Rattle.cstn_net.specs.Networks.{Network, count}
use Rattle.cstn_net.specs.Read.{the_network}
use Rattle.cstn_rules.specs.Derivations.{Entry}
use Rattle.cstn_log.specs.Cuts.{last_with_ancestors}
use Rattle.cstn_check.specs.declared.verdicts.Verdict.{Verdict}
use Rattle.cstn_check.specs.declared.verdicts.Verdict.TheVariants.{Yes, No, Full as IsFull}
use Rattle.cstn_refute.specs.Texts.{refutation_shown}
use Rattle.cstn_lines.specs.LiveLines.{cut_at_space}
use Rattle.cstn_lines.specs.EditLines.{Edit, added, removed, changed, asked, edit_read}
use Rattle.cstn_reply.specs.Texts.{line, yes_line, full_line, Said}
use Rattle.cstn_reply.specs.Sessions.{Turn, more, wrong, on_turn}
use Rattle.cstn_reply.specs.declared.output.Outcome.{Outcome}
use Rattle.cstn_reply.specs.declared.output.Outcome.TheVariants.{Good, Bad, Full}
use Rattle.cstn_change.specs.Changes.{Change, removes, revalues, ChangeRefusal, refusal}
use Rattle.cstn_change.specs.ChangeLines.{refused_change_text, accepted_text, addition}
use Rattle.cstn_edit.specs.Sessions.{EditSessionParts}
use Rattle.cstn_edit.specs.Edits.{Session, begun_session, edited_of, with_change, outcome_at, with_verdict, the_session}
use Rattle.cstn_edit.specs.declared.outcomes.Outcome.{Outcome as Answered}

-- an edit session, whose kept list may have `cap` entries, the names of its time-points, and the verdict of the last check,
-- if there was one
pub record Editing : Type 0 where
  pub cap : ℕ
  pub names : List (List ℕ)
  pub session : Session
  pub verdict : Option Verdict

abbrev pub begun_editing : ℕ → List (List ℕ) → Network → Editing
begun_editing cap names net = record { cap = cap; names = names; session = begun_session net; verdict = None }

-- the answer to an edit: why it is refused, or what is said of it and the session that follows
abbrev pub answered_edit : Editing → Option ChangeRefusal → List ℕ → Session → Turn Editing
answered_edit e None text next = more (line text) (record e { session = next })
answered_edit e (Some why) text next = more (line (refused_change_text why)) e

-- the answer to a change, or to an addition whose ends aren't both known
abbrev pub answered_change : Editing → Result Change ChangeRefusal → Turn Editing
answered_change e (Err why) = more (line (refused_change_text why)) e
answered_change e (Ok change) =
    answered_edit e (refusal most_constraints (edited_of e.session) change) (accepted_text e.session.next change) (with_change e.session change)

-- what is said of a verdict: its load, after a no with the steps of the kept list that refute, or that the list is full
abbrev pub verdict_text : ℕ → List (List ℕ) → List Entry → Verdict → List ℕ
verdict_text cap names kept (Yes load) = yes_line load
verdict_text cap names kept (No load) = refutation_shown names load (last_with_ancestors kept)
verdict_text cap names kept IsFull = full_line cap

abbrev pub outcome_text : ℕ → List (List ℕ) → List Entry → Answered → List ℕ
outcome_text cap names kept o = (if o.afresh then line (codes "afresh") else []) ++ verdict_text cap names kept o.verdict

-- the answer to a check, by the outcome and the session that follow
abbrev pub answered_check : Editing → Answered → Session → Turn Editing
answered_check e o next =
    more (outcome_text e.cap e.names next.kept o) (record { cap = e.cap; names = e.names; session = next; verdict = Some o.verdict })

-- the answer to what an edit line says
abbrev pub answered : Editing → Option Edit → Turn Editing
answered e None = wrong
answered e (Some (added from to most a)) = answered_change e (addition e.names from to most a)
answered e (Some (removed id)) = answered_change e (Ok (removes id))
answered e (Some (changed id most)) = answered_change e (Ok (revalues id most))
answered e (Some asked) = answered_check e (outcome_at e.cap e.session) (with_verdict e.cap e.session)

-- the answer to an edit line
abbrev pub edit_turn : Editing → List ℕ → Turn Editing
edit_turn e text = answered e (edit_read text)

-- the word before the first space is `add`
abbrev pub is_adding : Option (List ℕ × List ℕ) → Bool
is_adding None = false
is_adding (Some parts) = bytes_eq parts.0 (codes "add")

-- the answer to the line may want memory: only to `add` and to `check`
abbrev pub edit_wants : List ℕ → Bool
edit_wants text = bytes_eq text (codes "check") || is_adding (cut_at_space text)

-- how the session ends, by the verdict of its last check
abbrev pub ending_by : Option Verdict → Outcome
ending_by None = Good
ending_by (Some (Yes load)) = Good
ending_by (Some (No load)) = Bad
ending_by (Some IsFull) = Full

-- nothing is said where the edit lines end
abbrev pub edit_ending : Editing → Said
edit_ending e = record { outcome = ending_by e.verdict; text = [] }

-- the network as edited at the last check of these lines, or the given one where there is none
abbrev pub last_checked : Editing → Option Network → List (List ℕ) → Option Network
last_checked e net [] = net
last_checked e net (first ∷ lines) =
    on_turn (edit_turn e first)
    (λ text next. last_checked next (if bytes_eq first (codes "check") then Some e.session.net else net) lines) (λ said. net) net

-- what contracts see of an edit session: the session, the names of its time-points, and the verdict of the last check
pub record EditingParts : Type 0 where
  pub session : EditSessionParts
  pub names : List (List ℕ)
  pub verdict : Option Verdict

abbrev pub the_editing : EditingParts → Editing
the_editing e = record { cap = e.session.cap; names = e.names; session = the_session e.session; verdict = e.verdict }

-- each of the time-points, at most 1,024, has a name, and there is room for 16,384 constraints
pub record IsEditing (e : EditingParts) : Type 0 where
  pub named : length e.names ≡ count (the_network e.session.net)
  pub few : length e.names ≤ most_time_points
  pub room : e.session.room ≡ most_constraints
