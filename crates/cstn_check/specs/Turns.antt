-- What the turns of growth make of a log.
use Rattle.std.specs.Prelude.{ℕ, ◌≡◌, ◌<◌, ◌≤◌, ◌+◌, ◌-◌, ◌^◌, ◌↔◌, Bool, true, false, List, ◌∷◌, ◌++◌, length, take, Some, slice_get}
use Rattle.cstn_net.specs.Networks.{Network, count}
use Rattle.cstn_rules.specs.Rules.{Refutes}
use Rattle.cstn_rules.specs.Derivations.{Entry, IsDerivation}
use Rattle.cstn_pool.specs.declared.slot_id.SlotId.{SlotId}
use Rattle.cstn_log.specs.Entries.{State, the_entries, bases}
use Rattle.cstn_check.specs.declared.growth.Grown.{Grown}
use Rattle.cstn_check.specs.declared.growth.Grown.TheVariants.{Closed, Refuted, Full}
use Rattle.cstn_check.specs.Growth.{is_refuted, grow}
use Rattle.cstn_check.specs.Kept.{IsKeptList}

-- the log is a derivation of the network with no refuting entry, and the pool has births left for all entries that its cap
-- allows
pub record IsOpen (net : Network) (log : State) : Type 0 where
  pub nodes : log.nodes ≡ count net
  pub derivation : IsDerivation net (the_entries log.entries)
  pub kept : IsKeptList net (the_entries log.entries)
  pub unrefuted : is_refuted net (the_entries log.entries) ≡ false
  pub short : length log.entries ≤ log.cap
  pub births : log.births + log.cap < 2 ^ 62 + length log.entries

-- the second list of ids begins with the first
pub record KeepIds (old new : List SlotId) : Type 0 where
  pub more : List SlotId
  pub is : old ++ more ≡ new

-- the new log has the cap and the time-points of the old one, its ids at their places, no fewer entries, and one birth more for
-- each new entry
pub record IsLongerLog (old new : State) : Type 0 where
  pub cap : new.cap ≡ old.cap
  pub nodes : new.nodes ≡ old.nodes
  pub ids : KeepIds old.ids new.ids
  pub births : new.births + length old.entries ≡ old.births + length new.entries
  pub short : length new.entries ≤ old.cap
  pub longer : length old.entries ≤ length new.entries

-- the log's list has become this one, and the answer is whether it is refuted
pub record HasBecome (net : Network) (old new : State) (list : List Entry) (refuted : Bool) : Type 0 where
  pub entries : the_entries new.entries ≡ list
  pub refuted_is : refuted ≡ is_refuted net list
  pub longer : IsLongerLog old new

-- the list is this front with one or more entries behind it
pub record IsFront (front list : List Entry) : Type 0 where
  pub next : Entry
  pub rest : List Entry
  pub is : front ++ next ∷ rest ≡ list

-- the new log is full, and the list has more entries behind those of the log
pub record IsCutShort (old new : State) (list : List Entry) : Type 0 where
  pub full : length new.entries ≡ old.cap
  pub front : IsFront (the_entries new.entries) list
  pub longer : IsLongerLog old new

-- no entry but perhaps the last refutes the network
pub record IsRefutedLast (net : Network) (list : List Entry) : Type 0 where
  pub before : (k : ℕ) (e : Entry) → slice_get list k ≡ Some e → k + 1 < length list → ¬ Refutes net e.bound

-- the last entry refutes the network
pub record LastRefutes (net : Network) (list : List Entry) : Type 0 where
  pub last : Entry
  pub is_last : slice_get list (length list - 1) ≡ Some last
  pub refutes : Refutes net last.bound

-- the log can be grown: it is a derivation that begins with the base bounds, no entry but perhaps its last refutes the network, and
-- the pool has births left
pub record IsGrowable (net : Network) (log : State) : Type 0 where
  pub nodes : log.nodes ≡ count net
  pub derivation : IsDerivation net (the_entries log.entries)
  pub front : (more : List Entry) × (bases (count net) ++ more ≡ the_entries log.entries)
  pub last : IsRefutedLast net (the_entries log.entries)
  pub births : log.births < 2 ^ 61

-- what came of growing the log, by each answer
pub record IsOutcome (net : Network) (old new : State) (grown : Grown) : Type 0 where
  pub closed : grown ≡ Closed → HasBecome net old new (grow net (the_entries old.entries)) false
  pub refuted : grown ≡ Refuted → HasBecome net old new (grow net (the_entries old.entries)) true
  pub full : grown ≡ Full → IsCutShort old new (grow net (the_entries old.entries))

-- the count of tries has gone up, and unless the log is full by no more than either number
pub record IsGrowthCounted (grown : Grown) (old new all fresh : ℕ) : Type 0 where
  pub low : old ≤ new
  pub most_tried : (grown ≡ Full → ⊥) → new ≤ old + all
  pub most_tries : (grown ≡ Full → ⊥) → new ≤ old + fresh

-- growth has made the new log of the old one: its list is the grown list, or as much of it as the cap allows where that is longer,
-- which is what full says; refuted says that the last entry refutes the network; and the old entries have kept their ids
pub record IsGrown (net : Network) (old new : State) (grown : Grown) : Type 0 where
  pub full : grown ≡ Full ↔ (old.cap < length (grow net (the_entries old.entries)))
  pub cut : grown ≡ Full → the_entries new.entries ≡ take old.cap (grow net (the_entries old.entries))
  pub whole : (grown ≡ Full → ⊥) → the_entries new.entries ≡ grow net (the_entries old.entries)
  pub refuted : grown ≡ Refuted ↔ ((grown ≡ Full → ⊥) × LastRefutes net (the_entries new.entries))
  pub derivation : IsDerivation net (the_entries new.entries)
  pub ids : KeepIds old.ids new.ids
  pub births : new.births ≤ old.births + old.cap
  pub cap : new.cap ≡ old.cap
  pub nodes : new.nodes ≡ old.nodes
