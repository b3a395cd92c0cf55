-- The conflict set of an inconsistent network: ids of constraints that can't be met together, of which each is needed.
use Rattle.std.specs.Prelude.{ℕ, ◌≡◌, ◌<◌, ◌⊎◌, List, Option, None, Some}
use Rattle.cstn_net.specs.Networks.{Network}
use Rattle.cstn_net.specs.Strategies.{IsConsistent}
use Rattle.cstn_check.specs.Givers.{with_ids}
use Rattle.cstn_check.specs.Growth.{load_of}
use Rattle.cstn_check.specs.Needs.{said}
use Rattle.cstn_check.specs.Search.{ids_left}
use Rattle.cstn_check.specs.Verdicts.{IsRefutationOf}
use Rattle.cstn_conflict.specs.declared.conflicts.Conflict.{Conflict}

-- the ids that are left when each constraint, in ascending order of the ids, was left out for good where a check whose log may have
-- `cap` entries says no without it, too; none where the log of a network that is tried is full
abbrev pub conflict_set : ℕ → Network → Option (List ℕ)
conflict_set cap net = ids_left (said cap) net

-- the log of the network has more than `cap` entries, or it isn't consistent, and so has that of a network that is tried
abbrev pub IsConflictFull : ℕ → Network → Type 0
IsConflictFull cap net = (cap < load_of net) ⊎ ((IsConsistent net → ⊥) × (conflict_set cap net ≡ None))

-- the ids are the conflict set of the network, and the refutation is that of the network with these constraints alone
pub record IsConflictOf (cap : ℕ) (net : Network) (conflict : Conflict) : Type 0 where
  pub ids : conflict_set cap net ≡ Some conflict.ids
  pub refutation : IsRefutationOf (with_ids net conflict.ids) conflict.refutation
