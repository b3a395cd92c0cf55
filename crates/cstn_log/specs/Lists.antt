-- Lists that store their entries with premises named by slots.
use Rattle.std.specs.Prelude.{ℕ, ◌≡◌, ◌<◌, ◌≤◌, List, [], ◌∷◌, length, map, Option, Some, None, IsSome, slice_get, slice_index_or, ⊤}
use Rattle.cstn_net.specs.Limits.{most_load}
use Rattle.cstn_rules.specs.declared.entries.Entry.{Entry}
use Rattle.cstn_rules.specs.declared.entries.Why.{Why}
use Rattle.cstn_rules.specs.declared.entries.Why.TheVariants.{Base, Chain, Wait}
use Rattle.cstn_pool.specs.declared.slot_id.SlotId.{SlotId}
use Rattle.cstn_pool.specs.Slots.{Slots, live_of}
use Rattle.cstn_log.specs.Entries.{the_entries}
use Rattle.cstn_log.specs.Cuts.{AllEarlier, replaced}

-- what contracts see of a list: its entries, with premises as places, their ids, how many there may be, and the pool that has
-- their bounds
pub record Listing : Type 0 where
  pub entries : List Entry
  pub ids : List SlotId
  pub cap : ℕ
  pub pool : Slots Entry

-- the entry with its premises at the places that the table tells
abbrev pub placed : List ℕ → Entry → Entry
placed places e = record { bound = e.bound; why = replaced places e.why }

-- the entries, with the one in a slot before them, if it holds one
abbrev pub with_held : Option (ℕ × Entry) → List Entry → List Entry
with_held None entries = entries
with_held (Some e) entries = e.1 ∷ entries

-- the entries in the slots
abbrev pub stored_in : List (Option (ℕ × Entry)) → List ℕ → List Entry
stored_in pool [] = []
stored_in pool (s ∷ slots) = with_held (slice_index_or pool s None) (stored_in pool slots)

-- the birth of what is in a slot
abbrev pub birth_of : Option (ℕ × Entry) → ℕ
birth_of None = 0
birth_of (Some e) = e.0

-- the id of what is in a slot
abbrev pub id_in : List (Option (ℕ × Entry)) → ℕ → SlotId
id_in pool slot = record { slot = slot; birth = birth_of (slice_index_or pool slot None) }

-- the ids of what is in the slots
abbrev pub ids_in : List (Option (ℕ × Entry)) → List ℕ → List SlotId
ids_in pool slots = map (id_in pool) slots

-- the pool holds an entry in each of the slots, and in as many slots as these
pub record AreHeldIn (pool : List (Option (ℕ × Entry))) (slots : List ℕ) : Type 0 where
  pub held : (k s : ℕ) → slice_get slots k ≡ Some s → IsSome (slice_index_or pool s None)
  pub count : live_of pool ≡ length slots

-- the table tells the place of each slot
pub record IsFiled (places slots : List ℕ) : Type 0 where
  pub inside : (k s : ℕ) → slice_get slots k ≡ Some s → s < length places
  pub at : (k s : ℕ) → slice_get slots k ≡ Some s → slice_index_or places s 0 ≡ k

-- no slot stands twice in the list
abbrev pub AreApart : List ℕ → Type 0
AreApart slots = (j k s : ℕ) → slice_get slots j ≡ Some s → slice_get slots k ≡ Some s → j ≡ k

-- the slot is one of these
pub record IsSlot (slots : List ℕ) (slot : ℕ) : Type 0 where
  pub place : ℕ
  pub there : slice_get slots place ≡ Some slot

-- the premises are some of the slots
abbrev pub AreSlots : List ℕ → Why → Type 0
AreSlots slots Base = ⊤
AreSlots slots (Chain by s) = IsSlot slots s
AreSlots slots (Wait s t) = IsSlot slots s × IsSlot slots t

-- the pool has entries that name their premises by slots of the list, a table tells the place of each, and there is room
pub record IsListed (places slots : List ℕ) (pool : List (Option (ℕ × Entry))) (cap for_slots for_places : ℕ) : Type 0 where
  pub filed : IsFiled places slots
  pub named : (k : ℕ) (e : Entry) → slice_get (stored_in pool slots) k ≡ Some e → AreSlots slots e.why
  pub earlier : AllEarlier (the_entries (map (placed places) (stored_in pool slots)))
  pub held : AreHeldIn pool slots
  pub size : length pool ≡ cap
  pub upto : length places ≤ cap
  pub few : cap ≤ most_load
  pub for_slots_is : cap ≤ for_slots
  pub for_places_is : cap ≤ for_places
