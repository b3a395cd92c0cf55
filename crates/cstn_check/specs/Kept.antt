-- What the list of a log keeps while it grows.
use Rattle.std.specs.Prelude.{ℕ, ◌≡◌, ◌<◌, ◌≤ℤ◌, ◌+◌, true, pos, List, [], ◌∷◌, Some, slice_get}
use Rattle.cstn_label.specs.Bounds.{Bound, Dominates}
use Rattle.cstn_net.specs.Networks.{Network, IsOnObserved, count, limit}
use Rattle.cstn_rules.specs.Rules.{base}
use Rattle.cstn_rules.specs.Derivations.{Entry}
use Rattle.cstn_check.specs.Growth.{is_covered}

-- the bound is at a time-point of the network, and marks observed propositions alone
pub record MarksObserved (net : Network) (b : Bound) : Type 0 where
  pub node : b.node < count net
  pub observed : IsOnObserved net b.label

-- the bound of each entry is at a time-point of the network, and marks observed propositions alone
abbrev pub AllGood : Network → List Entry → Type 0
AllGood net [] = Unit {0}
AllGood net (e ∷ es) = MarksObserved net e.bound × AllGood net es

-- a bound's least value is from 0 to the limit + 1
pub record IsRanged (net : Network) (b : Bound) : Type 0 where
  pub low : pos 0 ≤ℤ b.least
  pub high : b.least ≤ℤ pos (limit net b.node + 1)

-- the bounds are of the network and in range, each base bound is covered, and no entry is dominated by an earlier one
pub record IsKeptList (net : Network) (list : List Entry) : Type 0 where
  pub good : AllGood net list
  pub based : (x : ℕ) → x < count net → is_covered list (base x) ≡ true
  pub ranged : (k : ℕ) (e : Entry) → slice_get list k ≡ Some e → IsRanged net e.bound
  pub apart : (i j : ℕ) (e f : Entry) → i < j → slice_get list i ≡ Some e → slice_get list j ≡ Some f → Dominates e.bound f.bound → ⊥
