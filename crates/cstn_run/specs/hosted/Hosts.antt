-- What a host holds: its plans, and what each id is open over.
use Rattle.std.specs.Prelude.{ℕ, List, [], Option, Some, None, replicate, slice_index_or}
use Rattle.cstn_label.specs.Bounds.{Bound}
use Rattle.cstn_net.specs.Networks.{Network, count}
use Rattle.cstn_net.specs.Read.{the_network}
use Rattle.cstn_plan.specs.Plans.{PlanParts, the_bounds}
use Rattle.cstn_exec.specs.Runs.{Run, start_of_run}

-- what an id is open over: the number of a plan, called a file, the run of that plan, and the time-points that were named at
-- the run's last accepted moment
pub record Opened : Type 0 where
  pub file : ℕ
  pub run : Run
  pub named : List ℕ

-- what contracts see of a host: the plans, by file, and for each id from 0 to 63 what it is open over, if it is
pub record HostParts : Type 0 where
  pub plans : List PlanParts
  pub cases : List (Option Opened)

-- no id is open
abbrev pub nothing_open : List PlanParts → HostParts
nothing_open plans = record { plans = plans; cases = replicate 64 None }

-- a default for the plan of a file that doesn't exist
abbrev pub no_plan : PlanParts
no_plan = record { net = record { deadline = 0; points = []; constraints = []; spare = 0 }; bounds = [] }

-- the plan of a file
abbrev pub plan_of_file : List PlanParts → ℕ → PlanParts
plan_of_file plans file = slice_index_or plans file no_plan

abbrev pub net_at : List PlanParts → ℕ → Network
net_at plans file = the_network (plan_of_file plans file).net

abbrev pub bounds_at : List PlanParts → ℕ → List Bound
bounds_at plans file = the_bounds (plan_of_file plans file).bounds

-- what the id is open over, if it is
abbrev pub case_at : HostParts → ℕ → Option Opened
case_at host id = slice_index_or host.cases id None

abbrev pub named_in : Option Opened → List ℕ
named_in None = []
named_in (Some c) = c.named

-- the time-points that the id's run named last
abbrev pub named_last : HostParts → ℕ → List ℕ
named_last host id = named_in (case_at host id)

-- what an id is open over when it has just been opened over the file: nothing of the plan is executed or seen
abbrev pub opened_anew : List PlanParts → ℕ → Opened
opened_anew plans file = record { file = file; run = start_of_run (count (net_at plans file)); named = [] }
