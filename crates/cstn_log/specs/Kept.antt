-- How a log keeps its entries.
use Rattle.std.specs.Prelude.{◌≡◌, ◌⊎◌, ℕ, ◌<◌, ◌≤◌, ◌+◌, Bool, true, false, List, length, map, Option, None, Some, slice_get, slice_index_or}
use Rattle.cstn_label.specs.declared.bounds.Bound.{Bound}
use Rattle.cstn_net.specs.Limits.{most_load}
use Rattle.cstn_rules.specs.declared.entries.Entry.{Entry}
use Rattle.cstn_pool.specs.declared.slot_id.SlotId.{SlotId}
use Rattle.cstn_pool.specs.Slots.{live_of}
use Rattle.cstn_minset.specs.Sets.{Entries, IsPlaced, IsCoveredInSet}
use Rattle.cstn_log.specs.Entries.{IsCoveredBy, IsLive, AllNew}
use Rattle.cstn_log.specs.Cuts.{is_place_marked, rank, renumbered, replaced}

-- the entry with its premises at the new places, where its list is cut to the marked places
abbrev pub renewed : List Bool → Entry → Entry
renewed marks e = record { bound = e.bound; why = renumbered marks e.why }

-- the id of that slot and birth stands at the place
pub record IsIdAt (ids : List SlotId) (slot birth k : ℕ) : Type 0 where
  pub there : slice_get ids k ≡ Some (record { slot = slot; birth = birth })

-- the pool holds the bound of each entry under its id
abbrev pub AreHeld : List (Option (ℕ × Entry)) → List Entry → List SlotId → Type 0
AreHeld slots entries ids = (k : ℕ) (id : SlotId) → slice_get ids k ≡ Some id → (e : Entry) × (held : Entry) × (slice_get entries k ≡ Some e) × (slice_index_or slots id.slot None ≡ Some (id.birth, held)) × (held.bound ≡ e.bound)

-- the slots of the ids
abbrev pub slots_of : List SlotId → List ℕ
slots_of ids = map (λ id. id.slot) ids

-- the pool holds each entry under its id, with its premises named by their slots
abbrev pub AreStored : List (Option (ℕ × Entry)) → List Entry → List SlotId → Type 0
AreStored slots entries ids = (k : ℕ) (id : SlotId) → slice_get ids k ≡ Some id
    → (e : Entry) × (held : Entry) × (slice_get entries k ≡ Some e) × (slice_index_or slots id.slot None ≡ Some (id.birth, held))
    × (held.bound ≡ e.bound) × (held.why ≡ replaced (slots_of ids) e.why)

-- the pool holds an entry for each id and nothing else, and births ascend along the ids
pub record IsPooled (slots : List (Option (ℕ × Entry))) (births : ℕ) (entries : List Entry) (ids : List SlotId) : Type 0 where
  pub held : AreHeld slots entries ids
  pub used : live_of slots ≡ length ids
  pub found : (s : ℕ) (e : ℕ × Entry) → slice_index_or slots s None ≡ Some e → (k : ℕ) × IsIdAt ids s e.0 k
  pub ascending : (k j : ℕ) (id jd : SlotId) → k < j → slice_get ids k ≡ Some id → slice_get ids j ≡ Some jd → id.birth < jd.birth
  pub before : (k : ℕ) (id : SlotId) → slice_get ids k ≡ Some id → id.birth < births

-- the table holds the bounds of the live entries under their ids and nothing else
pub record IsTabled (table : Entries) (entries : List Entry) (ids : List SlotId) : Type 0 where
  pub covers : (b : Bound) → ¬ IsCoveredInSet table b → ¬ IsCoveredBy entries b
  pub placed : (s : ℕ) (b : ℕ × Bound) → IsPlaced table s b → (k : ℕ) × (e : Entry) × IsIdAt ids s b.0 k × (slice_get entries k ≡ Some e) × IsLive entries k × (e.bound ≡ b.1)
  pub live : (k : ℕ) (id : SlotId) (e : Entry) → slice_get ids k ≡ Some id → slice_get entries k ≡ Some e → IsLive entries k → IsPlaced table id.slot (id.birth, e.bound)

-- none of the entries is dominated by an earlier one, and each has an id under which the pool has it, and the table if it is live
pub record IsLogKept (slots : List (Option (ℕ × Entry))) (births : ℕ) (table : Entries) (entries : List Entry) (ids : List SlotId) (nodes : ℕ) : Type 0 where
  pub pooled : IsPooled slots births entries ids
  pub tabled : IsTabled table entries ids
  pub room : length table ≡ length slots
  pub size : length entries ≡ length ids
  pub fresh : AllNew entries
  pub inside : (k : ℕ) (e : Entry) → slice_get entries k ≡ Some e → e.bound.node.0 < nodes

-- the pool is `new` after those of the first n ids that aren't marked were given back
pub record AreLeft (marks : List Bool) (ids : List SlotId) (n : ℕ) (old new : List (Option (ℕ × Entry))) : Type 0 where
  pub size : length new ≡ length old
  pub was : (s : ℕ) (e : ℕ × Entry) → slice_index_or new s None ≡ Some e → slice_index_or old s None ≡ Some e
  pub stays : (k : ℕ) (id : SlotId) → slice_get ids k ≡ Some id → (is_place_marked marks k ≡ true) ⊎ (n ≤ k) → slice_index_or new id.slot None ≡ slice_index_or old id.slot None
  pub gone : (k : ℕ) (id : SlotId) → k < n → slice_get ids k ≡ Some id → is_place_marked marks k ≡ false → slice_index_or new id.slot None ≡ None
  pub count : live_of new + n ≡ live_of old + rank marks n

-- for how many marks, slots and places there is room
pub record Rooms : Type 0 where
  pub for_marks : ℕ
  pub for_slots : ℕ
  pub for_places : ℕ

-- the room for a mark and a slot of each entry, and for each place
pub record IsRoom (cap told : ℕ) (rooms : Rooms) : Type 0 where
  pub size : told ≡ cap
  pub for_marks : cap ≤ rooms.for_marks
  pub for_slots : cap ≤ rooms.for_slots
  pub for_places : cap < rooms.for_places
  pub few : cap ≤ most_load

-- the entries are kept, and there is room
pub record IsLog (slots : List (Option (ℕ × Entry))) (births : ℕ) (table : Entries) (entries : List Entry) (ids : List SlotId)
    (nodes cap : ℕ) (rooms : Rooms) : Type 0 where
  pub kept : IsLogKept slots births table entries ids nodes
  pub room : IsRoom (length slots) cap rooms
