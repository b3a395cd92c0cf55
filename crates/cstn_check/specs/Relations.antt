-- The relations that the tests on lists decide.
use Rattle.std.specs.Prelude.{ℕ, ◌≡◌, ◌<◌, List, length, Some, slice_get}
use Rattle.cstn_label.specs.Bounds.{Bound, Dominates}
use Rattle.cstn_label.specs.OnLetters.{IsOnLetters}
use Rattle.cstn_net.specs.Networks.{Network}
use Rattle.cstn_rules.specs.Rules.{Refutes}
use Rattle.cstn_rules.specs.Derivations.{Entry}

-- the label of each entry marks none but the 52 letters
abbrev pub AreOnLetters : List Entry → Type 0
AreOnLetters list = (k : ℕ) (e : Entry) → slice_get list k ≡ Some e → IsOnLetters e.bound.label

-- some entry dominates the bound
abbrev pub IsCoveredByEntry : List Entry → Bound → Type 0
IsCoveredByEntry list r = (k : ℕ) × (e : Entry) × (slice_get list k ≡ Some e) × Dominates e.bound r

-- there is an entry at the place, and no later one dominates it
pub record IsLiveAt (list : List Entry) (k : ℕ) : Type 0 where
  pub inside : k < length list
  pub none_over : (j : ℕ) (e f : Entry) → k < j → slice_get list k ≡ Some e → slice_get list j ≡ Some f → ¬ Dominates f.bound e.bound

-- some entry refutes the network
abbrev pub IsRefuted : Network → List Entry → Type 0
IsRefuted net list = (k : ℕ) × (e : Entry) × (slice_get list k ≡ Some e) × Refutes net e.bound
