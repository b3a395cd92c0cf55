-- How the values of the program are read.
use Rattle.std.specs.Prelude.{◌≡◌, ◌<◌, ◌≤◌, Bool, true, false, List, Option, Result, Ok, Err, length, map}
use Rattle.std.specs.List.{All}
use Rattle.std.specs.Option.{option_map}
use Rattle.std.specs.Prelude.{IfSome}
use Rattle.cstn_plan.specs.Plans.{PlanParts}
use Rattle.cstn_exec.specs.Read.{the_event_refusal}
use Rattle.cstn_exec.specs.Answers.{Refused}
use Rattle.cstn_run.specs.declared.hosted.cases.Case.{Case}
use Rattle.cstn_run.specs.declared.hosted.errors.HostError.{HostError}
use Rattle.cstn_run.specs.declared.hosted.errors.HostError.TheVariants.{IdInUse, NoSuchPlan, IdRange, NoFile, Exec, Memory}
use Rattle.cstn_run.specs.hosted.Hosts.{Opened, plan_of_file}
use Rattle.cstn_run.specs.hosted.Calls.{HostAnswer, Told, Denied, InUse, NotOpen, OutOfRange, NotAFile, NoMemory}

-- what contracts see of a case
abbrev pub the_opened : Case → Opened
the_opened c = record { file = c.file; run = c.executive.run; named = c.executive.named }

abbrev pub the_cases : List (Option Case) → List (Option Opened)
the_cases cases = map (option_map the_opened) cases

-- the executive has a copy of the file's plan
pub record IsOverPlan (plans : List PlanParts) (c : Case) : Type 0 where
  pub inside : c.file < length plans
  pub net : c.executive.net ≡ record (plan_of_file plans c.file).net { spare = 0 }
  pub bounds : c.executive.bounds ≡ (plan_of_file plans c.file).bounds

-- what a host keeps: 1 to 8 plans, and 64 ids, each closed or open over one of them
pub record IsHost (plans : List PlanParts) (cases : List (Option Case)) : Type 0 where
  pub some : 1 ≤ length plans
  pub few : length plans ≤ 8
  pub ids : length cases ≡ 64
  pub over : All (λ c. IfSome c (IsOverPlan plans)) cases

-- what an error tells
abbrev pub the_denial : HostError → HostAnswer
the_denial (IdInUse id) = Denied (InUse id)
the_denial (NoSuchPlan id) = Denied (NotOpen id)
the_denial (IdRange id) = Denied (OutOfRange id)
the_denial (NoFile file) = Denied (NotAFile file)
the_denial (Exec e) = Told (Refused (the_event_refusal e))
the_denial (Memory e) = Denied NoMemory

-- the answer that a result stands for: `told` of the value where the call was accepted, and else what the error tells
abbrev pub answer_of : {X : Type 0} → (X → HostAnswer) → Result X HostError → HostAnswer
answer_of told (Ok x) = told x
answer_of told (Err e) = the_denial e

abbrev pub is_memory : HostError → Bool
is_memory (IdInUse id) = false
is_memory (NoSuchPlan id) = false
is_memory (IdRange id) = false
is_memory (NoFile file) = false
is_memory (Exec e) = false
is_memory (Memory e) = true

-- the call failed for want of memory
abbrev pub in_want : {X : Type 0} → Result X HostError → Bool
in_want (Ok x) = false
in_want (Err e) = is_memory e
