-- Which waits have a conclusion, and which may add one.
use Rattle.std.specs.Prelude.{ℕ, ◌≡◌, ◌<◌, ◌≤◌, ◌⊎◌, ◌+◌, true, List, Some, slice_get}
use Rattle.cstn_label.specs.Labels.{IsMarked}
use Rattle.cstn_label.specs.Bounds.{Bound}
use Rattle.cstn_label.specs.Read.{the_bound}
use Rattle.cstn_net.specs.Networks.{Network, Observes}
use Rattle.cstn_rules.specs.declared.entries.Entry.{Entry}
use Rattle.cstn_log.specs.Agendas.{has_place}
use Rattle.cstn_log.specs.Entries.{State, the_entries}
use Rattle.cstn_check.specs.Growth.Instance.{wait_at}
use Rattle.cstn_check.specs.Spent.{IsSpent}

-- the first bound is at the observer of a proposition that the second marks
pub record Waits (net : Network) (seen b : Bound) : Type 0 where
  pub prop : ℕ
  pub observes : Observes net seen.node prop
  pub marked : IsMarked b.label prop

-- the entry at the place has this bound
pub record HasBound (entries : List Entry) (k : ℕ) (b : Bound) : Type 0 where
  pub entry : Entry
  pub there : slice_get entries k ≡ Some entry
  pub is : the_bound entry.bound ≡ b

-- wait of the entries at the two places, the first as the one at the observer, adds nothing
abbrev pub IsSpentWait : Network → State → ℕ → ℕ → Type 0
IsSpentWait net s i j = IsSpent net (the_entries s.entries) (wait_at i j)

-- each place up to j is on the agenda, or wait of its entry, as the one at the observer, and the entry at j adds nothing
abbrev pub AreSeen : Network → State → ℕ → Type 0
AreSeen net s j = (k : ℕ) → k ≤ j → (has_place s.agenda k ≡ true) ⊎ IsSpentWait net s k j

-- the same of the places at the observer of p
abbrev pub AreSeenOf : Network → State → ℕ → ℕ → Type 0
AreSeenOf net s j p = (k : ℕ) (e : Entry) → slice_get s.entries k ≡ Some e → k ≤ j → Observes net e.bound.node.0 p
    → (has_place s.agenda k ≡ true) ⊎ IsSpentWait net s k j

-- each place up to j is on the agenda, or wait of the entry at j, as the one at the observer, and its entry adds nothing
abbrev pub AreMarking : Network → State → ℕ → Type 0
AreMarking net s j = (k : ℕ) → k ≤ j → (has_place s.agenda k ≡ true) ⊎ IsSpentWait net s j k

-- the same of the places at x
abbrev pub AreMarkingAt : Network → State → ℕ → ℕ → Type 0
AreMarkingAt net s j x = (k : ℕ) (e : Entry) → slice_get s.entries k ≡ Some e → k ≤ j → e.bound.node.0 ≡ x
    → (has_place s.agenda k ≡ true) ⊎ IsSpentWait net s j k

-- the agenda alone is another: it has the places that it had, and perhaps others up to j
pub record IsSifted (old new : State) (j : ℕ) : Type 0 where
  pub stays : new ≡ record old { agenda = new.agenda }
  pub kept : (k : ℕ) → has_place old.agenda k ≡ true → has_place new.agenda k ≡ true
  pub upto : (k : ℕ) → has_place new.agenda k ≡ true → (has_place old.agenda k ≡ true) ⊎ (k ≤ j)

-- the agenda has places from `from` up to j alone, and each at which wait with the entry at j may add something
pub record IsAhead (net : Network) (s : State) (j from : ℕ) : Type 0 where
  pub low : (k : ℕ) → has_place s.agenda k ≡ true → from ≤ k
  pub high : (k : ℕ) → has_place s.agenda k ≡ true → k ≤ j
  pub has : (k : ℕ) → from ≤ k → k ≤ j → (has_place s.agenda k ≡ true) ⊎ (IsSpentWait net s k j × IsSpentWait net s j k)

-- the next place was taken off the agenda: the waits at the places before it add nothing
pub record IsNextOnAgenda (net : Network) (old new : State) (j from next : ℕ) : Type 0 where
  pub stays : new ≡ record old { agenda = new.agenda }
  pub low : from ≤ next
  pub high : next ≤ j + 1
  pub spent : (k : ℕ) → from ≤ k → k < next → IsSpentWait net new k j × IsSpentWait net new j k
  pub ahead : next ≤ j → IsAhead net new j (next + 1)
