-- Which lines of a tree break, by what stands above them on their branch.
use Rattle.std.specs.Prelude.{ℕ, ◌≡◌, ◌+◌, ◌<◌, ◌≤◌, ◌⊎◌, Bool, true, false, List, [], ◌∷◌, ◌++◌, length, Option, Some, None, pos, ◌-ℤ◌, ◌≤ℤ◌}
use Rattle.std.specs.List.{All, Contains}
use Rattle.cstn_label.specs.Labels.{Label, MarkFits}
use Rattle.cstn_net.specs.Networks.{Network, Constraint, Observes, count, limit}
use Rattle.cstn_outline.specs.Trees.{Tree, TreeLine}
use Rattle.cstn_outline.specs.Trees.Tree.{at, ask, done}
use Rattle.cstn_outline.specs.Trees.TreeLine.{AtLine, AskLine, DoneLine}

-- a line above another one on a branch: an `at`, or an `ask` with the outcome by which the branch goes on
pub data Above : Type 0 where
  Named : (moment : ℕ) → (named : List ℕ) → Above
  Asked : (prop : ℕ) → (value : Bool) → Above

-- x is named above, at the moment m
abbrev pub IsNamedAbove : List Above → ℕ → ℕ → Type 0
IsNamedAbove above x m = (xs : List ℕ) × Contains above (Named m xs) × Contains xs x

-- no outcome that was asked above contradicts the label
abbrev pub IsUncontradicted : List Above → Label → Type 0
IsUncontradicted above label = (p : ℕ) (v : Bool) → Contains above (Asked p v) → MarkFits v (label p)

-- the constraint has an end on the line and both ends on it or above, and is not met
pub record IsViolated (above : List Above) (t : ℕ) (xs : List ℕ) (c : Constraint) : Type 0 where
  pub from : ℕ
  pub to : ℕ
  pub here : Contains xs c.from ⊎ Contains xs c.to
  pub from_named : IsNamedAbove (Named t xs ∷ above) c.from from
  pub to_named : IsNamedAbove (Named t xs ∷ above) c.to to
  pub uncontradicted : IsUncontradicted above c.label
  pub broken : (pos to -ℤ pos from) ≤ℤ c.most → ⊥

-- a line breaks. An `at`: where its moment isn't above one that stands above it, or comes before an outcome that was asked above
-- is known; where it names a time-point that is named above, or twice, or above its limit; or where a constraint is violated.
-- An `ask`: where no observer of the proposition is named above, or the proposition is asked above. A `done`: where a time-point
-- isn't named.
pub data Breaks (net : Network) (above : List Above) : TreeLine → Type 0 where
  not_later : (t u : ℕ) (xs ys : List ℕ) → Contains above (Named u ys) → t ≤ u → Breaks net above (AtLine t xs)
  not_known : (t p x m : ℕ) (v : Bool) (xs : List ℕ) → Contains above (Asked p v) → Observes net x p → IsNamedAbove above x m → t < m + net.reaction p → Breaks net above (AtLine t xs)
  named_above : (t x m : ℕ) (xs : List ℕ) → Contains xs x → IsNamedAbove above x m → Breaks net above (AtLine t xs)
  named_twice : (t x : ℕ) (one other : List ℕ) → Contains other x → Breaks net above (AtLine t (one ++ x ∷ other))
  too_late : (t x : ℕ) (xs : List ℕ) → Contains xs x → limit net x < t → Breaks net above (AtLine t xs)
  not_met : (t : ℕ) (xs : List ℕ) (c : Constraint) → Contains net.constraints c → IsViolated above t xs c → Breaks net above (AtLine t xs)
  not_observed : (p : ℕ) → ((x m : ℕ) → Observes net x p → IsNamedAbove above x m → ⊥) → Breaks net above (AskLine p)
  asked_above : (p : ℕ) (v : Bool) → Contains above (Asked p v) → Breaks net above (AskLine p)
  not_named : (x : ℕ) → x < count net → ((m : ℕ) → IsNamedAbove above x m → ⊥) → Breaks net above DoneLine

-- the lines of a tree in preorder, each behind those above it on its branch, the nearest first
abbrev pub on_branches : List Above → Tree → List (List Above × TreeLine)
on_branches above (at t xs next) = (above, AtLine t xs) ∷ on_branches (Named t xs ∷ above) next
on_branches above (ask p one other) = (above, AskLine p) ∷ (on_branches (Asked p true ∷ above) one ++ on_branches (Asked p false ∷ above) other)
on_branches above done = (above, DoneLine) ∷ []

abbrev pub NoneBreaks : Network → List (List Above × TreeLine) → Type 0
NoneBreaks net lines = All (λ l. Breaks net l.0 l.1 → ⊥) lines

-- of lines with the numbers from `first` on, the one with this number breaks and no earlier one does; or none breaks
abbrev pub IsFirstBreak : Network → ℕ → List (List Above × TreeLine) → Option ℕ → Type 0
IsFirstBreak net first lines None = NoneBreaks net lines
IsFirstBreak net first lines (Some number) =
    (before : List (List Above × TreeLine)) × (line : List Above × TreeLine) × (after : List (List Above × TreeLine)) ×
    (lines ≡ before ++ line ∷ after) × (number ≡ first + length before) × NoneBreaks net before × Breaks net line.0 line.1
