-- What a session shows in which nothing is left.
use Rattle.std.specs.Prelude.{ℕ, ◌≡◌, ◌<◌, ◌≤◌, pos, ◌-ℤ◌, ◌≤ℤ◌, Some}
use Rattle.std.specs.List.{Contains}
use Rattle.cstn_label.specs.Labels.{Scenario}
use Rattle.cstn_net.specs.Networks.{Constraint, count}
use Rattle.cstn_lift.specs.Labelled.{Labelled}
use Rattle.cstn_lift.specs.Strategies.{IsExecuted, IsInForce}
use Rattle.cstn_history.specs.Histories.{History, AgreesWith}

-- both ends of the constraint are done, at moments that meet it
pub record IsMet (h : History) (c : Constraint) : Type 0 where
  pub from : ℕ
  pub to : ℕ
  pub from_done : h.done c.from ≡ Some from
  pub to_done : h.done c.to ≡ Some to
  pub within : (pos to -ℤ pos from) ≤ℤ c.most

-- The plan is carried out: in each case that agrees with what was told, each time-point whose label holds is done and each
-- constraint that is in force is met; and all of it was done by the deadline.
pub record IsCarriedOut (m : Labelled) (h : History) : Type 0 where
  pub steps : (s : Scenario) (x : ℕ) → AgreesWith h s → x < count m.base → IsExecuted m s x → (t : ℕ) × (h.done x ≡ Some t)
  pub limits : (s : Scenario) (c : Constraint) → AgreesWith h s → Contains m.base.constraints c → IsInForce m s c → IsMet h c
  pub deadline : (x t : ℕ) → h.done x ≡ Some t → t ≤ m.base.deadline

-- all cases that agree with what was told are alike: the same time-points are executed, and the same constraints are in force
pub record HaveTheSame (m : Labelled) (s r : Scenario) : Type 0 where
  pub executed : (x : ℕ) → x < count m.base → IsExecuted m s x → IsExecuted m r x
  pub in_force : (c : Constraint) → Contains m.base.constraints c → IsInForce m s c → IsInForce m r c
