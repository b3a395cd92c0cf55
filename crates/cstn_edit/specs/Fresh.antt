-- The fresh ids of a session: those of the constraints that were added or changed since the last verdict.
use Rattle.std.specs.Prelude.{ℕ, ◌≡◌, ◌≤◌, ◌==◌, Bool, true, ◌||◌, List, length, map}
use Rattle.std.specs.List.{filter}
use Rattle.cstn_net.specs.declared.constraints.Constraint.{Constraint}
use Rattle.cstn_net.specs.Read.{NetworkParts, the_network}
use Rattle.cstn_log.specs.Entries.{State, the_entries}
use Rattle.cstn_check.specs.Spent.{AreSpent, is_fresh}

-- the ids of constraints
abbrev pub constraint_ids : List Constraint → List ℕ
constraint_ids cs = map (λ c. c.id) cs

-- the members of `ids` that are fresh or equal to `id`, in their order
abbrev pub fresh_with : ℕ → List ℕ → List ℕ → List ℕ
fresh_with id fresh ids = filter (λ x. (x == id) || is_fresh fresh x) ids

-- the fresh ids are members of `ids`, in their order
abbrev pub AreSome : List ℕ → List ℕ → Type 0
AreSome fresh ids = fresh ≡ filter (λ x. is_fresh fresh x) ids

-- the fresh ids are ids of the network's constraints, and both vectors of ids have capacity for `room` of them; where the log
-- is settled, its entries give nothing new but with fresh constraints
pub record IsFreshened (net : NetworkParts) (log : State) (room : ℕ) (fresh : List ℕ) (settled : Bool) (held spare : ℕ) : Type 0 where
  pub some : AreSome fresh (constraint_ids net.constraints)
  pub spent : settled ≡ true → AreSpent (the_network net) (the_entries log.entries) fresh (length log.entries)
  pub for_fresh : room ≤ held
  pub for_list : room ≤ spare
