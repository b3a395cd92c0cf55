-- Carrying out what is next.
use Rattle.std.specs.Prelude.{ℕ, ◌≡◌, ◌<◌, ◌≤◌, ◌⊎◌, Bool, List, [], ◌∷◌, None}
use Rattle.std.specs.List.{All}
use Rattle.cstn_label.specs.declared.nodes.NodeId.{NodeId}
use Rattle.cstn_label.specs.declared.props.Prop.{Prop}
use Rattle.cstn_lift.specs.Labelled.{Labelled}
use Rattle.cstn_history.specs.Histories.{History}
use Rattle.cstn_history.specs.Continuations.{IsNamed, IsEventful}
use Rattle.cstn_history.specs.Rest.{rest}
use Rattle.cstn_history.specs.Facts.{now_refusal, told_refusal, at_now, with_done, with_told}
use Rattle.cstn_history.specs.Handed.{HasFewConstraints}

-- what is left has no more constraints than a network may have, under ids above those of the network
pub record HasRoomLeft (m : Labelled) (h : History) : Type 0 where
  pub fresh : ℕ
  pub above : All (λ c. c.id < fresh) m.base.constraints
  pub room : HasFewConstraints (rest m h fresh)

-- no outcome is awaited and no time-point is named from now on before t: the next moment, if there is one, is t or later
abbrev pub IsQuietUpto : Labelled → History → ℕ → Type 0
IsQuietUpto m h t = (u : ℕ) → h.now ≤ u → u < t → IsEventful m h u → ⊥

-- time passes up to the next moment, and this isn't refused
pub record IsPassing (m : Labelled) (h later : History) : Type 0 where
  pub moment : ℕ
  pub quiet : IsQuietUpto m h moment
  pub accepted : now_refusal h moment ≡ None
  pub recorded : later ≡ at_now h moment

-- an outcome is told at a moment up to the next one, and this isn't refused
pub record IsTelling (m : Labelled) (h later : History) : Type 0 where
  pub moment : ℕ
  pub prop : Prop
  pub value : Bool
  pub quiet : IsQuietUpto m h moment
  pub accepted : told_refusal m h moment prop.index ≡ None
  pub recorded : later ≡ with_told h moment prop.index value

-- a time-point that is named at the next moment is done at it
pub record IsDoing (m : Labelled) (h later : History) : Type 0 where
  pub moment : ℕ
  pub node : NodeId
  pub quiet : IsQuietUpto m h moment
  pub named : IsNamed m h moment node.0
  pub recorded : later ≡ with_done h moment node.0

-- one step of somebody who does what is named when it is named and tells what is awaited before time passes it
abbrev pub IsHistoryStep : Labelled → History → History → Type 0
IsHistoryStep m h later = HasRoomLeft m h × (IsPassing m h later ⊎ (IsTelling m h later ⊎ IsDoing m h later))

-- such steps, each from the history before, and the history after them
abbrev pub AreHistorySteps : Labelled → History → List History → Type 0
AreHistorySteps m h [] = Unit {0}
AreHistorySteps m h (later ∷ more) = IsHistoryStep m h later × AreHistorySteps m later more

abbrev pub history_after : History → List History → History
history_after h [] = h
history_after h (later ∷ more) = history_after later more
