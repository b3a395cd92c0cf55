-- When what has happened is no worse: it is no later, or outcomes are known no later, or time-points are ready no later.
use Rattle.std.specs.Prelude.{ℕ, ◌≡◌, ◌≤◌, max}
use Rattle.cstn_lift.specs.Labelled.{Labelled}
use Rattle.cstn_history.specs.Histories.{History, IsObservedAt, known_at}

-- the same is done and told; it is no later, no time-point is ready later, and each outcome whose observer is done is known no later than
-- it was, or than it was now
pub record IsEased (m : Labelled) (h easier : History) : Type 0 where
  pub now : easier.now ≤ h.now
  pub done : (x : ℕ) → easier.done x ≡ h.done x
  pub told : (p : ℕ) → easier.told p ≡ h.told p
  pub ready : (x : ℕ) → easier.ready x ≤ h.ready x
  pub known : (p t : ℕ) → IsObservedAt m h p t → known_at m easier p t ≤ max h.now (known_at m h p t)
