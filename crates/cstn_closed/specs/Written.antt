-- What a text can say.
use Rattle.std.specs.Prelude.{ℕ, ◌<◌, ◌≤◌, List, length, pos, ◌≤ℤ◌}
use Rattle.cstn_label.specs.declared.bounds.Bound.{Bound as Declared}
use Rattle.cstn_label.specs.Bounds.{Bound}
use Rattle.cstn_net.specs.Limits.{most_load}
use Rattle.cstn_text.specs.Listings.{AreListable}
use Rattle.cstn_refute.specs.Limits.{most_least}
pub use Rattle.cstn_refute.specs.Written.{IsPrintableBound}
use Rattle.cstn_closed.specs.Closed.{ClosedParts}

-- the bound is at a time-point that has a name, with a least value from 0 to 1,000,001
pub record IsNamedBound (names : List (List ℕ)) (b : Declared) : Type 0 where
  pub node : b.node.0 < length names
  pub low : pos 0 ≤ℤ b.least
  pub high : b.least ≤ℤ pos most_least

-- the load and the number of bounds are in the ranges of a text
pub record BoundsFitText (c : ClosedParts) : Type 0 where
  pub load_low : 1 ≤ c.load
  pub load_high : c.load ≤ most_load
  pub some : 1 ≤ length c.bounds
  pub few : length c.bounds ≤ most_load

-- a load and bounds that a text can say
abbrev pub AreBoundsWritten : List (List ℕ) → ℕ → List Bound → Type 0
AreBoundsWritten names load bounds = AreListable most_load (IsPrintableBound names) load bounds
