-- How the links of chains lie: places below n are slots, and n + h is the end of chain h. An end leads to the chain's
-- first slot and back to its last.
use Rattle.std.specs.Prelude.{◌≡◌, ◌⊎◌, ℕ, ◌+◌, ◌<◌, ◌≤◌, ◌^◌, List, length, slice_index_or, All}
use Rattle.cstn_minset.specs.Chains.{SlotChains, IsIn}

-- the keys of chain h behind the place i are from `low` on: i is a slot with the key below `low`, or the end, and `low` is 0
abbrev pub IsStart : SlotChains → ℕ → ℕ → ℕ → ℕ → ℕ → Type 0
IsStart table n heads i h low = ((k : ℕ) × IsIn table h i k × (low ≡ k + 1)) ⊎ ((i ≡ n + h) × (h < heads) × (low ≡ 0))

-- the keys of chain h before the place i are below `high`: i is a slot with the key `high`, or the end, and `high` is 2 ^ 128
abbrev pub IsStop : SlotChains → ℕ → ℕ → ℕ → ℕ → ℕ → Type 0
IsStop table n heads i h high = IsIn table h i high ⊎ ((i ≡ n + h) × (h < heads) × (high ≡ 2 ^ 128))

-- no key of the chain is from `low` to below `high`
abbrev pub IsGap : SlotChains → ℕ → ℕ → ℕ → Type 0
IsGap table h low high = (u j : ℕ) → IsIn table h u j → (j < low) ⊎ (high ≤ j)

-- the place i is the first slot of chain h with a key from `low` on, or the end where there is none
pub record IsNextSlot (table : SlotChains) (n heads h low i : ℕ) : Type 0 where
  pub high : ℕ
  pub stop : IsStop table n heads i h high
  pub up : low ≤ high
  pub gap : IsGap table h low high

-- the place i is the last slot of chain h with a key below `high`, or the end where there is none
pub record IsPrev (table : SlotChains) (n heads h high i : ℕ) : Type 0 where
  pub low : ℕ
  pub start : IsStart table n heads i h low
  pub up : low ≤ high
  pub gap : IsGap table h low high

-- chains and keys are in range, and no chain has two slots of one key
pub record IsKeyed (heads : ℕ) (table : SlotChains) : Type 0 where
  pub in_range : (s h k : ℕ) → IsIn table h s k → (h < heads) × (k < 2 ^ 128)
  pub apart : (s t h k : ℕ) → IsIn table h s k → IsIn table h t k → s ≡ t

-- the places lead through the chains of the table in ascending key, there and back
pub record IsLinked (n heads : ℕ) (table : SlotChains) (next prev : List ℕ) : Type 0 where
  pub size : length table ≡ n
  pub next_size : length next ≡ n + heads
  pub prev_size : length prev ≡ n + heads
  pub small : n + heads < 2 ^ 32
  pub keyed : IsKeyed heads table
  pub after : (i h low : ℕ) → IsStart table n heads i h low → IsNextSlot table n heads h low (slice_index_or next i 0)
  pub before : (i h high : ℕ) → IsStop table n heads i h high → IsPrev table n heads h high (slice_index_or prev i 0)

-- the end of each chain leads to itself
abbrev pub AreEnds : ℕ → ℕ → List ℕ → Type 0
AreEnds n heads places = (h : ℕ) → h < heads → slice_index_or places (n + h) 0 ≡ n + h

-- for each place, the place that it leads to; the first places are the slots
pub record Leads : Type 0 where
  pub slots : ℕ
  pub places : List ℕ

-- what contracts see of `Links`: where its places lead, and no table
pub record Ring : Type 0 where
  pub slots : ℕ
  pub heads : ℕ
  pub next : List ℕ
  pub prev : List ℕ

-- the links are those of the table's chains
abbrev pub AreLinks : Ring → SlotChains → Type 0
AreLinks ring table = IsLinked ring.slots ring.heads table ring.next ring.prev

-- both have the same numbers of slots and of chains
abbrev pub SameSize : Ring → Ring → Type 0
SameSize old new = (new.slots ≡ old.slots) × (new.heads ≡ old.heads)

-- there is a place for each slot and for each end, and each leads to one of these places
pub record IsRing (slots heads : ℕ) (next prev : Leads) : Type 0 where
  pub next_slots : next.slots ≡ slots
  pub prev_slots : prev.slots ≡ slots
  pub next_size : length next.places ≡ slots + heads
  pub prev_size : length prev.places ≡ slots + heads
  pub small : slots + heads < 2 ^ 32
  pub next_inside : All (λ x. x < slots + heads) next.places
  pub prev_inside : All (λ x. x < slots + heads) prev.places

-- each slot that is in a chain has its own number as its key
abbrev pub AreOwnKeys : SlotChains → Type 0
AreOwnKeys table = (s h k : ℕ) → IsIn table h s k → k ≡ s
