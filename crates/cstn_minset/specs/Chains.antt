-- Slots in chains, each with a key: the order in which the chain runs through them.
use Rattle.std.specs.Prelude.{◌≡◌, ◌⊎◌, ℕ, ◌<◌, ◌≤◌, List, Option, Some, None, slice_index_or, MatchOption}

-- for each slot, the chain that it is in and its key there
abbrev pub SlotChains : Type 0
SlotChains = List (Option (ℕ × ℕ))

-- the chain and the key of a slot, where it is in one
abbrev pub key_of : SlotChains → ℕ → Option (ℕ × ℕ)
key_of table slot = slice_index_or table slot None

-- the slot is in the chain under the key
abbrev pub IsIn : SlotChains → ℕ → ℕ → ℕ → Type 0
IsIn table chain slot key = key_of table slot ≡ Some (chain, key)

-- the slot has the least key of the chain that is at least `low`
pub record HasLeastKey (table : SlotChains) (chain low slot : ℕ) : Type 0 where
  pub key : ℕ
  pub there : IsIn table chain slot key
  pub above : low ≤ key
  pub least : (u j : ℕ) → IsIn table chain u j → (j < low) ⊎ (key ≤ j)

-- the answer is the slot with the least key from `low` on, and none only where no key is that high
abbrev pub IsFirstKey : SlotChains → ℕ → ℕ → Option ℕ → Type 0
IsFirstKey table chain low answer = MatchOption answer ((u j : ℕ) → IsIn table chain u j → j < low) (HasLeastKey table chain low)
