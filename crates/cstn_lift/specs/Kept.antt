-- What the lowered network is made of, over all propositions, and what is known in its tables.
use Rattle.std.specs.Prelude.{ℕ, ◌≡◌, ◌++◌, pos, ◌-ℤ◌}
use Rattle.std.specs.List.{Contains}
use Rattle.cstn_label.specs.Labels.{Scenario, IsMarked, IsPlain}
use Rattle.cstn_net.specs.Networks.{Constraint, Observes}
use Rattle.cstn_net.specs.Strategies.{Table, IsKnown, IsPossibleAt}
use Rattle.cstn_lift.specs.Labelled.{Labelled}
use Rattle.cstn_lift.specs.Completion.{completed_label, full_label}
use Rattle.cstn_lift.specs.Lowered.{full_constraints, guards, lowered}

-- a constraint of the labelled network
abbrev pub IsConstraintOf : Labelled → Constraint → Type 0
IsConstraintOf m c = Contains m.base.constraints c

-- the constraint with its full label is among those that are numbered to make the lowered network
abbrev pub IsKeptConstraint : Labelled → Constraint → Type 0
IsKeptConstraint m c = Contains (full_constraints m ++ guards m) (record c { label = full_label m c })

-- the constraint with its full label is in the lowered network, under some id
abbrev pub IsLowered : Labelled → Constraint → Type 0
IsLowered m c = (id : ℕ) × Contains (lowered m).constraints (record c { id = id; label = full_label m c })

-- d is a constraint of the labelled network, with its full label, which is plain
abbrev pub IsFull : Labelled → Constraint → Type 0
IsFull m d = (c : Constraint) × IsConstraintOf m c × IsPlain (full_label m c) × (d ≡ record c { label = full_label m c })

-- by the constraint d, x comes the reaction of a proposition or more after the proposition's observer; the completed label of x
-- marks the proposition
pub record IsGuard (m : Labelled) (x : ℕ) (d : Constraint) : Type 0 where
  pub prop : ℕ
  pub observer : ℕ
  pub observes : Observes m.base observer prop
  pub marked : IsMarked (completed_label m x) prop
  pub is : d ≡ record { id = 0; from = x; to = observer; most = pos 0 -ℤ pos (m.base.reaction prop); label = completed_label m x }

-- by what is known at the moment of x, in a table of the lowered network, the completed label of x is possible
abbrev pub IsOpenIn : Labelled → Table → Scenario → ℕ → Type 0
IsOpenIn m table s x = IsPossibleAt (lowered m) (table s) (table s x) s (completed_label m x)

-- p is known at the moment of x, in a table of the lowered network
abbrev pub IsKnownIn : Labelled → Table → Scenario → ℕ → ℕ → Type 0
IsKnownIn m table s x p = IsKnown (lowered m) (table s) (table s x) p
