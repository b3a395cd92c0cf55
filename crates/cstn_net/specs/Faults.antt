-- Faults, of which the one with the lowest number is told, and the first place at which something is wrong.
use Rattle.std.specs.Prelude.{ℕ, ◌≡◌, ◌<◌, ◌≤◌, ◌⊎◌, List, length}
use Rattle.std.specs.List.{HoldsAt}

-- x is the first of the numbers below n of which the fact holds
pub record IsFirstBelow (n : ℕ) (P : ℕ → Type 0) (x : ℕ) : Type 0 where
  pub inside : x < n
  pub here : P x
  pub before : (y : ℕ) → y < x → P y → ⊥

-- k is the first place in the list at which the fact holds
abbrev pub IsFirst : {X : Type 0} → (X → Type 0) → List X → ℕ → Type 0
IsFirst {X} P xs k = IsFirstBelow (length xs) (HoldsAt P xs) k

-- e is a fault, and none has a lower number
pub record IsLowestFault {E : Type 0} (HasFault : E → Type 0) (number : E → ℕ) (e : E) : Type 0 where
  pub has : HasFault e
  pub lowest : (f : E) → HasFault f → number e ≤ number f

-- want of memory, which has the number 0, or the lowest fault
abbrev pub IsRefusal : {E : Type 0} → (E → Type 0) → (E → ℕ) → E → Type 0
IsRefusal {E} HasFault number e = (number e ≡ 0) ⊎ IsLowestFault HasFault number e
