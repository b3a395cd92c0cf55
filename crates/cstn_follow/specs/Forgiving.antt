-- What what was done has broken, and what forgiving it makes of a session.
use Rattle.std.specs.Prelude.{ℕ, ◌≡◌, Bool, false, ◌&&◌, List, [], ◌∷◌, map, Option, None, Some, pos, ℤ, ◌+ℤ◌, ◌<ℤ◌, int_lt}
use Rattle.std.specs.List.{filter}
use Rattle.cstn_label.specs.Labels.{Scenario}
use Rattle.cstn_net.specs.Networks.{Constraint}
use Rattle.cstn_lift.specs.Labelled.{Labelled}
use Rattle.cstn_lift.specs.Completion.{full_label}
use Rattle.cstn_lift.specs.Lowered.{is_plain}
use Rattle.cstn_lift.specs.Read.{the_labelled}
use Rattle.cstn_lift.specs.Strategies.{IsInForce}
use Rattle.cstn_history.specs.Histories.{History, AgreesWith, allows}
use Rattle.cstn_history.specs.Read.{the_history}
use Rattle.cstn_change.specs.Changes.{EditedNetwork, removes, edited_by}
use Rattle.cstn_follow.specs.Replans.{edited_now}
use Rattle.cstn_follow.specs.Sessions.{SessionParts}

-- the constraint is broken: its ends are done, at moments that don't meet it, and it is in force in some case that is left
pub record IsBrokenBy (m : Labelled) (h : History) (c : Constraint) : Type 0 where
  pub begun : ℕ
  pub ended : ℕ
  pub from : h.done c.from ≡ Some begun
  pub to : h.done c.to ≡ Some ended
  pub unmet : (c.most +ℤ pos begun) <ℤ pos ended
  pub case : Scenario
  pub agrees : AgreesWith h case
  pub in_force : IsInForce m case c

-- the ends were done at these moments, which don't meet the value
abbrev pub is_unmet : Option ℕ → Option ℕ → ℤ → Bool
is_unmet None ended most = false
is_unmet (Some begun) None most = false
is_unmet (Some begun) (Some ended) most = int_lt (most +ℤ pos begun) (pos ended)

-- in some case that is left the constraint is in force: its full label is plain, and what is told doesn't contradict it
abbrev pub is_in_some_case : Labelled → History → Constraint → Bool
is_in_some_case m h c = is_plain (full_label m c) && allows h (full_label m c)

-- the constraint is broken
abbrev pub is_broken_by : Labelled → History → Constraint → Bool
is_broken_by m h c = is_unmet (h.done c.from) (h.done c.to) c.most && is_in_some_case m h c

-- the ids of the constraints that are broken, in their order
abbrev pub broken_ids : Labelled → History → List ℕ
broken_ids m h = map (λ c. c.id) (filter (is_broken_by m h) m.base.constraints)

-- the network as edited once the constraints of these ids are removed, one after the other
abbrev pub after_removals : EditedNetwork → List ℕ → EditedNetwork
after_removals e [] = e
after_removals e (id ∷ ids) = after_removals (edited_by e (removes id)) ids

-- the ids of what is broken in a session, and the network as edited without it
abbrev pub broken_now : SessionParts → List ℕ
broken_now s = broken_ids (the_labelled s.network) (the_history s.history)

abbrev pub forgiven_now : SessionParts → EditedNetwork
forgiven_now s = after_removals (edited_now s) (broken_now s)
