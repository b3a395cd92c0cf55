-- What a step of growth makes of a log: the instances that it tries.
use Rattle.std.specs.Prelude.{ℕ, ◌≡◌, ◌≤◌, ◌+◌, Bool, true, false, List, Result, IfOk, IsErr}
use Rattle.cstn_net.specs.Networks.{Network}
use Rattle.cstn_rules.specs.Derivations.{Entry}
use Rattle.cstn_pool.specs.declared.pool.Full.{Full}
use Rattle.cstn_log.specs.Entries.{State}
use Rattle.cstn_check.specs.declared.steps.Step.{Step}
use Rattle.cstn_check.specs.declared.steps.Step.TheVariants.{Open, Refuted}
use Rattle.cstn_check.specs.Turns.{IsOpen, HasBecome, IsCutShort}

-- the step ends at an entry that refutes the network
abbrev pub is_refutation : Step → Bool
is_refutation Open = false
is_refutation Refuted = true

-- the step was to make this list of the log's. Either the log has it now, and the answer says whether it is refuted; where it isn't,
-- growth can go on. Or the log is full, and has the first entries of the list.
pub record IsStepTo (net : Network) (old new : State) (list : List Entry) (answer : Result Step Full) : Type 0 where
  pub taken : IfOk answer (λ s. HasBecome net old new list (is_refutation s))
  pub cut : IsErr answer → IsCutShort old new list
  pub ready : IfOk answer (λ s. s ≡ Open → IsOpen net new)

-- the count of tries has gone up by n at most
pub record IsCounted (old new n : ℕ) : Type 0 where
  pub low : old ≤ new
  pub most : new ≤ old + n
