-- A pool as its slots.
use Rattle.std.specs.Prelude.{◌≡◌, ◌≢◌, ℕ, ◌+◌, ◌-◌, ◌<◌, ◌≤◌, ◌^◌, ◌++◌, is_some, List, [], ◌∷◌, length, replicate, Option, None, Some, slice_get, slice_index_or, All, AllPairs, count_by, ◌==◌, if◌then◌else◌}

-- what contracts see of a pool: what each slot holds, a birth and a value, and how many births there were
pub record Slots (T : Type 0) : Type 0 where
  pub slots : List (Option (ℕ × T))
  pub births : ℕ

-- how many slots are in use
abbrev pub live_of : {T : Type 0} → List (Option (ℕ × T)) → ℕ
live_of slots = count_by is_some slots

-- the value of a slot, if it holds one of that birth
abbrev pub held : {T : Type 0} → ℕ → Option (Option (ℕ × T)) → Option T
held birth None = None
held birth (Some None) = None
held birth (Some (Some entry)) = if entry.0 == birth then Some entry.1 else None

-- the value under the id of that slot and birth
abbrev pub value_at : {T : Type 0} → List (Option (ℕ × T)) → ℕ → ℕ → Option T
value_at slots slot birth = held birth (slice_get slots slot)

-- each birth in use is below the number of births, and no two slots have the same
pub record IsBorn {T : Type 0} (births : ℕ) (slots : List (Option (ℕ × T))) : Type 0 where
  pub before : (i : ℕ) (e : ℕ × T) → slice_index_or slots i None ≡ Some e → e.0 < births
  pub apart : (i j : ℕ) (e f : ℕ × T) → slice_index_or slots i None ≡ Some e → slice_index_or slots j None ≡ Some f → e.0 ≡ f.0 → i ≡ j

-- the list has each empty slot once, and no other
pub record IsFree {T : Type 0} (slots : List (Option (ℕ × T))) (free : List ℕ) : Type 0 where
  pub empty : All (λ i. (i < length slots) × (slice_index_or slots i None ≡ None)) free
  pub distinct : AllPairs (λ i j. i ≢ j) free
  pub count : live_of slots + length free ≡ length slots

-- what was written, filled up with blanks to a count
abbrev pub padded : {A : Type 0} → A → ℕ → List A → List A
padded blank count written = written ++ replicate (count - length written) blank

-- the birth that stands for none
abbrev pub no_birth : ℕ
no_birth = 18446744073709551615

-- what a slot of this birth and value holds
abbrev pub entry_of : {T : Type 0} → ℕ → T → Option (ℕ × T)
entry_of birth value = if birth == no_birth then None else Some (birth, value)

-- what the slots of these births and values hold
abbrev pub joined_slots : {T : Type 0} → List ℕ → List T → List (Option (ℕ × T))
joined_slots [] values = []
joined_slots (birth ∷ born) [] = []
joined_slots (birth ∷ born) (value ∷ values) = entry_of birth value ∷ joined_slots born values

-- how many slots there is room for
pub record Room : Type 0 where
  pub born : ℕ
  pub values : ℕ
  pub free : ℕ

-- a pool that is in order: its free list has all empty slots of those that were used, and there is room for every slot
pub record IsPool {T : Type 0} (capacity : ℕ) (born : List ℕ) (values : List T) (free : List ℕ) (births : ℕ) (room : Room) : Type 0 where
  pub same : length born ≡ length values
  pub empty : IsFree (joined_slots born values) free
  pub within : length born ≤ capacity
  pub room_for_born : capacity ≤ room.born
  pub room_for_values : capacity ≤ room.values
  pub room_for_free : capacity ≤ room.free
  pub short : capacity < 2 ^ 32
  pub few : births ≤ 2 ^ 63
  pub in_order : IsBorn births (joined_slots born values)
