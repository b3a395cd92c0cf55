-- What edits make of the plan, and facts of what has happened.
use Rattle.std.specs.Prelude.{ℕ, ◌≡◌, ◌+◌, ◌<◌, ◌≤◌, List, [], ◌∷◌, ◌++◌, length, Option, None, Some, Result, Ok, Err, codes, decimal}
use Rattle.std.specs.List.{All}
use Rattle.cstn_label.specs.Labels.{Label, empty}
use Rattle.cstn_net.specs.Limits.{most_edits, most_time_points}
use Rattle.cstn_net.specs.Networks.{Network, Constraint, count}
use Rattle.cstn_text.specs.Names.{number_of}
use Rattle.cstn_text.specs.PrintedNames.{printed_name}
use Rattle.cstn_lift.specs.Labelled.{Labelled}
use Rattle.cstn_history.specs.Steps.{with_point}
use Rattle.cstn_change.specs.Changes.{EditedNetwork, Change, removes, revalues, ChangeRefusal, edited_by, unedited}
use Rattle.cstn_change.specs.ChangeLines.{addition, accepted_text}
use Rattle.cstn_history.specs.Histories.{History}
use Rattle.cstn_lines.specs.EditLines.{Edit, added, removed, changed, asked}
use Rattle.cstn_lines.specs.FollowLines.{Follow, follow_read, done_at, came_at, now_at, awaited_at, ready_at, edits, ends_by, asks_next, asks_by, asks_blame, asks_rest}
use Rattle.cstn_reply.specs.Texts.{line}
use Rattle.cstn_follow.specs.Amending.{forgives, steps}
use Rattle.cstn_follow.specs.Asking.{Spoken, of_line, of_question, of_amendment, asks_digest, spoken_read}
use Rattle.cstn_follow.specs.Following.{Following}
use Rattle.cstn_follow.specs.Forgiving.{broken_ids, after_removals}
use Rattle.cstn_follow.specs.ForgivingLines.{forgiven_line}
use Rattle.cstn_follow.specs.Hearing.{counted}
use Rattle.cstn_follow.specs.PlanLines.{edited_network, replanned}
use Rattle.cstn_follow.specs.Recorded.{IsRecorded}
use Rattle.cstn_follow.specs.Replans.{with_due}
use Rattle.cstn_follow.specs.StepLines.{with_step}

-- the change that an edit says, by the names of the time-points
abbrev pub change_if : Result Change ChangeRefusal → Option Change
change_if (Ok change) = Some change
change_if (Err why) = None

abbrev pub change_said : List (List ℕ) → Edit → Option Change
change_said names (added from to most a) = change_if (addition names from to most a)
change_said names (removed id) = Some (removes id)
change_said names (changed id most) = Some (revalues id most)
change_said names asked = None

-- the network after this change, if there is one
abbrev pub after_if : EditedNetwork → Option Change → EditedNetwork
after_if e (Some change) = edited_by e change
after_if e None = e

-- what a line that is accepted makes of the network: edits and deadlines change it, and a deadline counts no edit
abbrev pub plan_told : List (List ℕ) → EditedNetwork → Option Follow → EditedNetwork
plan_told names e (Some (edits edit)) = after_if e (change_said names edit)
plan_told names e (Some (ends_by deadline)) = with_due e deadline
plan_told names e (Some (done_at t given)) = e
plan_told names e (Some (came_at t q value)) = e
plan_told names e (Some (now_at t)) = e
plan_told names e (Some (awaited_at t q)) = e
plan_told names e (Some (ready_at t name)) = e
plan_told names e (Some asks_next) = e
plan_told names e (Some (asks_by name)) = e
plan_told names e (Some asks_blame) = e
plan_told names e (Some asks_rest) = e
plan_told names e None = e

-- what is broken once this has happened, by the network as edited, whose time-points have these labels
abbrev pub broken_then : List Label → EditedNetwork → History → List ℕ
broken_then labels e h = broken_ids (record { base = e.net; labels = labels }) h

-- a plan as edited: the names of its time-points, the labels on them, and its network
pub record Plan : Type 0 where
  pub names : List (List ℕ)
  pub labels : List Label
  pub network : EditedNetwork

-- that of a session, and of one that begins
abbrev pub plan_now : Following → Plan
plan_now s = record { names = s.names; labels = s.network.labels; network = edited_network s }

abbrev pub plan_begun : List (List ℕ) → Labelled → Plan
plan_begun names m = record { names = names; labels = m.labels; network = unedited m.base }

-- with a further time-point of this name, which counts as an edit
abbrev pub plan_stepped : Plan → List ℕ → Plan
plan_stepped p name = record {
  names = p.names ++ name ∷ [];
  labels = p.labels ++ empty ∷ [];
  network = record p.network { net = with_point p.network.net; edits = p.network.edits + 1 };
}

-- what a line that is accepted makes of the plan where it says this: `forgive` removes what is broken then, `step` puts a time-point in
abbrev pub plan_spoken : Plan → History → Option Spoken → Plan
plan_spoken p h None = p
plan_spoken p h (Some (of_line line)) = record p { network = plan_told p.names p.network (Some line) }
plan_spoken p h (Some (of_question question)) = p
plan_spoken p h (Some asks_digest) = p
plan_spoken p h (Some (of_amendment forgives)) = record p { network = after_removals p.network (broken_then p.labels p.network h) }
plan_spoken p h (Some (of_amendment (steps name))) = plan_stepped p name

-- what a line that is accepted makes of what has happened: facts are recorded
abbrev pub IsHistoryTold : List (List ℕ) → History → Option Follow → History → Type 0
IsHistoryTold names h (Some (done_at t given)) later = IsRecorded names h (done_at t given) later
IsHistoryTold names h (Some (came_at t p value)) later = IsRecorded names h (came_at t p value) later
IsHistoryTold names h (Some (now_at t)) later = IsRecorded names h (now_at t) later
IsHistoryTold names h (Some (awaited_at t p)) later = IsRecorded names h (awaited_at t p) later
IsHistoryTold names h (Some (ready_at t name)) later = IsRecorded names h (ready_at t name) later
IsHistoryTold names h (Some (edits edit)) later = later ≡ h
IsHistoryTold names h (Some (ends_by deadline)) later = later ≡ h
IsHistoryTold names h (Some asks_next) later = later ≡ h
IsHistoryTold names h (Some (asks_by name)) later = later ≡ h
IsHistoryTold names h (Some asks_blame) later = later ≡ h
IsHistoryTold names h (Some asks_rest) later = later ≡ h
IsHistoryTold names h None later = later ≡ h

-- what lines that are accepted make of the plan and of what has happened, one after the other
abbrev pub IsPlanByLines : Plan → History → List (List ℕ) → Plan → History → Type 0
IsPlanByLines p h [] last later = (last ≡ p) × (later ≡ h)
IsPlanByLines p h (first ∷ lines) last later =
    (next : History) × IsHistoryTold p.names h (follow_read first) next
    × IsPlanByLines (plan_spoken p h (spoken_read first)) next lines last later

-- the line is an edit, or a deadline
abbrev pub IsEditLine : Follow → Type 0
IsEditLine (edits (added from to most a)) = Unit {0}
IsEditLine (edits (removed id)) = Unit {0}
IsEditLine (edits (changed id most)) = Unit {0}
IsEditLine (edits asked) = ⊥
IsEditLine (ends_by deadline) = Unit {0}
IsEditLine (done_at t given) = ⊥
IsEditLine (came_at t p value) = ⊥
IsEditLine (now_at t) = ⊥
IsEditLine (awaited_at t p) = ⊥
IsEditLine (ready_at t name) = ⊥
IsEditLine asks_next = ⊥
IsEditLine (asks_by name) = ⊥
IsEditLine asks_blame = ⊥
IsEditLine asks_rest = ⊥

-- that an edit or a deadline is accepted, with the id of the constraint, which is `fresh` where it is added
abbrev pub IsAcceptedText : List (List ℕ) → ℕ → Follow → List ℕ → Type 0
IsAcceptedText names fresh (edits edit) text = (change : Change) × (change_said names edit ≡ Some change) × (text ≡ line (accepted_text fresh change))
IsAcceptedText names fresh (ends_by deadline) text = text ≡ line (codes "deadline " ++ decimal deadline)
IsAcceptedText names fresh (done_at t given) text = ⊥
IsAcceptedText names fresh (came_at t p value) text = ⊥
IsAcceptedText names fresh (now_at t) text = ⊥
IsAcceptedText names fresh (awaited_at t p) text = ⊥
IsAcceptedText names fresh (ready_at t name) text = ⊥
IsAcceptedText names fresh asks_next text = ⊥
IsAcceptedText names fresh (asks_by name) text = ⊥
IsAcceptedText names fresh asks_blame text = ⊥
IsAcceptedText names fresh asks_rest text = ⊥

-- the network is the one edited, and nothing else changes but the count of lines; the text says so
pub record Edits (s : Following) (edit : Follow) (text : List ℕ) (next : Following) : Type 0 where
  pub next_is : next ≡ replanned (counted s) (plan_told s.names (edited_network s) (Some edit))
  pub text_is : IsAcceptedText s.names s.fresh edit text

-- what is broken is removed, and nothing else changes but the count of lines; the text says which constraints these were
pub record Forgives (s : Following) (text : List ℕ) (next : Following) : Type 0 where
  pub few : s.edits + length (broken_ids s.network s.history) ≤ most_edits
  pub next_is : next ≡ replanned (counted s) (after_removals (edited_network s) (broken_ids s.network s.history))
  pub text_is : text ≡ forgiven_line (broken_ids s.network s.history)

-- a time-point of the name, which none had, is put behind the others, and nothing else changes but the count of lines and of edits; the
-- text says so
pub record Steps (s : Following) (name text : List ℕ) (next : Following) : Type 0 where
  pub new : number_of s.names name ≡ None
  pub few : s.edits < most_edits
  pub room : count s.network.base < most_time_points
  pub next_is : next ≡ with_step (counted s) name
  pub text_is : text ≡ line (codes "step " ++ printed_name name)

-- no constraint of the network has this id or a later one
abbrev pub IsNew : Network → ℕ → Type 0
IsNew net id = All (λ (c : Constraint). c.id < id) net.constraints
