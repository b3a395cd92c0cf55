-- Bounds on the moments of time-points.
use Rattle.std.specs.Prelude.{ℕ, ◌≡◌, ℤ, ◌≤ℤ◌}
use Rattle.cstn_label.specs.Labels.{Label, IsWithin}

-- the time-point is executed at `least` or later, or the label isn't possible at its moment
pub record Bound : Type 0 where
  pub node : ℕ
  pub least : ℤ
  pub label : Label

-- a bound dominates another of the same time-point where its least value is no lower and its label is within the other's
pub record Dominates (a b : Bound) : Type 0 where
  pub node : a.node ≡ b.node
  pub least : b.least ≤ℤ a.least
  pub label : IsWithin a.label b.label
