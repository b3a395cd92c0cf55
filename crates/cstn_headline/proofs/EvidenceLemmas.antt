-- What is written as evidence stands for the answer.
use Rattle.std.proofs.Common.{◌≡◌, ℕ, ◌-◌, ◌≤◌, List, Some, inl, inr, arith}
use Rattle.std.specs.Prelude.{◌⊎◌}
use Rattle.cstn_net.specs.Networks.{Network, IsWellFormed}
use Rattle.cstn_net.specs.Strategies.{IsConsistent}
use Rattle.cstn_check.specs.Growth.{load_of}
use Rattle.cstn_headline.proofs.LogTexts.{listed_faultless, refuted_by_log}
use Rattle.cstn_check.specs.Givers.{is_of, with_ids}
use Rattle.cstn_check.proofs.Fewer.{some_well_formed}
use Rattle.cstn_conflict.specs.Conflicts.{conflict_set}
use Rattle.cstn_conflict.proofs.ConflictLemmas.{inconsistent, needed}
use Rattle.cstn_tight.specs.Deadlines.{at_deadline, least_deadline}
use Rattle.cstn_tight.proofs.LeastLemmas.{good_at_deadline, IsRefuted, IsFound, found}
use Rattle.cstn_headline.specs.Verdicts.{HasListedBounds, IsRefutedByLog}
use Rattle.cstn_headline.specs.commands.Tight.{IsTight}
use Rattle.cstn_headline.specs.commands.Conflict.{IsConflict}

-- the bounds of a yes have no fault
pub listed_well : (net : Network) → IsWellFormed net → IsConsistent net → HasListedBounds net
listed_well = listed_faultless

-- the log of a network that isn't consistent has a refutation
pub refuted_well : (net : Network) → IsWellFormed net → (IsConsistent net → ⊥) → IsRefutedByLog net
refuted_well = refuted_by_log

-- a network with a deadline up to its own is well-formed
pub at_well : (net : Network) (h : ℕ) → IsWellFormed net → h ≤ net.deadline → IsWellFormed (at_deadline net h)
at_well net h good below =
    let soon = good.in_time in
    good_at_deadline net good h (omega (arith, soon, below))

-- the least deadline that `tight` tells is right
pub tight_well : (net : Network) → IsWellFormed net → IsConsistent net → IsTight net (least_deadline net)
tight_well net good consistent =
    let is : IsFound (load_of net) net (least_deadline net) = found net good consistent (load_of net) (omega arith) in
    record {
      least = is.least;
      bounds = listed_well (at_deadline net (least_deadline net)) (at_well net (least_deadline net) good is.upto) is.least.consistent;
      refuted = before (least_deadline net) is.upto is.below;
    }
  where
    before : (h : ℕ) → h ≤ net.deadline → (h ≡ 0) ⊎ IsRefuted (load_of net) net (h - 1) → (h ≡ 0) ⊎ IsRefutedByLog (at_deadline net (h - 1))
    before h upto (inl zero) = inl zero
    before h upto (inr refuted) = inr (refuted_well (at_deadline net (h - 1)) (at_well net (h - 1) good (omega (arith, upto))) refuted.never)

-- the conflict set that `conflict` tells is right
pub conflict_well : (cap : ℕ) (net : Network) (ids : List ℕ) → IsWellFormed net → (IsConsistent net → ⊥) → conflict_set cap net ≡ Some ids → IsConflict net ids
conflict_well cap net ids good never is =
    let gone = inconsistent cap net ids is good never in
    record {
      inconsistent = gone;
      refuted = refuted_well (with_ids net ids) (some_well_formed net (λ c. is_of ids c.id) good) gone;
      needed = needed cap net ids is good;
    }
