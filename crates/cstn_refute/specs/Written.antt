-- What a text can say.
use Rattle.std.specs.Prelude.{ℕ, ◌≡◌, ◌<◌, ◌≤◌, ◌^◌, List, length, pos, ◌≤ℤ◌}
use Rattle.cstn_label.specs.declared.marks.Mark.TheVariants.{Absent}
use Rattle.cstn_label.specs.Bounds.{Bound}
use Rattle.cstn_net.specs.Limits.{most_load}
use Rattle.cstn_rules.specs.declared.entries.Why.{Why}
use Rattle.cstn_rules.specs.declared.entries.Why.TheVariants.{Base, Chain, Wait}
use Rattle.cstn_rules.specs.Derivations.{Entry}
use Rattle.cstn_text.specs.Listings.{AreListable}
use Rattle.cstn_refute.specs.Limits.{most_least}

-- a rule's id and places are numbers below 2^32
abbrev pub ArePlaces : Why → Type 0
ArePlaces Base = Unit {0}
ArePlaces (Chain id i) = (id < 2 ^ 32) × (i < 2 ^ 32)
ArePlaces (Wait i j) = (i < 2 ^ 32) × (j < 2 ^ 32)

-- the bound is at a time-point that has a name, with a least value from 0 to 1,000,001 and marks on the 52 propositions alone
pub record IsPrintableBound (names : List (List ℕ)) (b : Bound) : Type 0 where
  pub node : b.node < length names
  pub low : pos 0 ≤ℤ b.least
  pub high : b.least ≤ℤ pos most_least
  pub marks : (p : ℕ) → 52 ≤ p → b.label p ≡ Absent

-- the step is at a time-point that has a name, with a least value from 0 to 1,000,001 and marks on the 52 propositions alone
pub record IsPrintableStep (names : List (List ℕ)) (e : Entry) : Type 0 where
  pub node : e.bound.node < length names
  pub low : pos 0 ≤ℤ e.bound.least
  pub high : e.bound.least ≤ℤ pos most_least
  pub marks : (p : ℕ) → 52 ≤ p → e.bound.label p ≡ Absent
  pub places : ArePlaces e.why

-- a load and steps that a text can say
abbrev pub AreStepsWritten : List (List ℕ) → ℕ → List Entry → Type 0
AreStepsWritten names load steps = AreListable most_load (IsPrintableStep names) load steps
