-- Which constraints are to blame where a history can't go on.
use Rattle.std.specs.Prelude.{ℕ, ◌<◌, ◌≤◌, Bool, List, Option}
use Rattle.std.specs.List.{All}
use Rattle.cstn_net.specs.Networks.{Network}
use Rattle.cstn_check.specs.Givers.{with_some}
use Rattle.cstn_check.specs.Needs.{said}
use Rattle.cstn_check.specs.Search.{ids_left}
use Rattle.cstn_lift.specs.Labelled.{Labelled}
use Rattle.cstn_lift.specs.Lowered.{lowered}
use Rattle.cstn_history.specs.Histories.{History}
use Rattle.cstn_history.specs.Rest.{rest}
use Rattle.cstn_history.specs.Handed.{HasFewConstraints}
use Rattle.cstn_history.specs.Read.{HistoryParts, the_history, IsKeptFor}
use Rattle.cstn_follow.specs.Tries.{with_base}

-- the labelled network with those of its constraints alone whose ids pass the test
abbrev pub network_alone : Labelled → (ℕ → Bool) → Labelled
network_alone m test = with_base m (with_some m.base test)

-- what each try asks: what has happened is a history of the network, its ids are below `fresh`, and what
-- is left has no more constraints than it may
pub record TakesTries (m : Labelled) (h : HistoryParts) (fresh : ℕ) : Type 0 where
  pub kept : IsKeptFor m h
  pub above : All (λ c. c.id < fresh) m.base.constraints
  pub low : fresh ≤ 4294000000
  pub room : HasFewConstraints (rest m (the_history h) fresh)

-- what is said of what is left by the constraints of this network
abbrev pub said_by_network : Labelled → History → ℕ → ℕ → Network → Option Bool
said_by_network m h fresh cap net = said cap (lowered (rest (with_base m net) h fresh))

-- what is said of what is left by those constraints alone whose ids pass the test
abbrev pub said_alone : Labelled → History → ℕ → ℕ → (ℕ → Bool) → Option Bool
said_alone m h fresh cap test = said_by_network m h fresh cap (with_some m.base test)

-- the ids to blame: those that are left of all once each constraint was tried; none where a log that was tried is full
abbrev pub ids_to_blame : Labelled → History → ℕ → ℕ → Option (List ℕ)
ids_to_blame m h fresh cap = ids_left (said_by_network m h fresh cap) m.base
