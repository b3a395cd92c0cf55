-- Labelled networks that are carried out.
use Rattle.std.specs.Prelude.{ℕ, ◌<◌, ◌≤◌, length}
use Rattle.std.specs.List.{All}
use Rattle.cstn_net.specs.Limits.{most_constraints}
use Rattle.cstn_lift.specs.Labelled.{Labelled}
use Rattle.cstn_lift.specs.Lowered.{lowered}
use Rattle.cstn_lift.specs.Read.{LabelledParts, the_labelled}
use Rattle.cstn_lift.specs.WellFormed.{IsLabelled}
use Rattle.cstn_history.specs.Read.{HistoryParts, the_history, IsKeptFor}
use Rattle.cstn_history.specs.Rest.{rest}

-- what contracts see of an execution: the labelled network, what has happened, and an id above all that its constraints ever had
pub record ExecutionParts : Type 0 where
  pub network : LabelledParts
  pub history : HistoryParts
  pub fresh : ℕ

-- what has happened is a history of the network, which is in order, with ids below `fresh`; and there is room for ids above it
pub record IsExecution (e : ExecutionParts) : Type 0 where
  pub labelled : IsLabelled (the_labelled e.network)
  pub few : length (lowered (the_labelled e.network)).constraints ≤ most_constraints
  pub kept : IsKeptFor (the_labelled e.network) e.history
  pub above : All (λ c. c.id < e.fresh) (the_labelled e.network).base.constraints
  pub low : e.fresh ≤ 4294000000

-- what is left
abbrev pub execution_left : ExecutionParts → Labelled
execution_left e = rest (the_labelled e.network) (the_history e.history) e.fresh
