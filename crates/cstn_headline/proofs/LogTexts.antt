-- Bounds of a yes have no fault, and steps of a no refute.
use Rattle.std.proofs.Common.{◌≡◌, ℕ, Bool, true, false, List, refl, inl, inr}
use Rattle.std.specs.Prelude.{◌⊎◌}
use Rattle.cstn_net.specs.Networks.{Network, IsWellFormed}
use Rattle.cstn_net.specs.Strategies.{IsConsistent}
use Rattle.cstn_rules.specs.Derivations.{Entry, IsRefutation}
use Rattle.cstn_log.specs.Cuts.{last_with_ancestors}
use Rattle.cstn_check.specs.Growth.{is_refuted, log_of, live_bounds}
use Rattle.cstn_check.proofs.Decides.{log_closed, log_decides}
use Rattle.cstn_check.proofs.InRange.{live_in_range}
use Rattle.cstn_check.proofs.Answering.{log_refutes_last}
use Rattle.cstn_check.proofs.PartLemmas.{part_refutes, log_refutation}
use Rattle.cstn_closed.specs.Faults.{IsFaultless}
use Rattle.cstn_closed.proofs.FaultLemmas.{closed_faultless}
use Rattle.cstn_replay.specs.Wrong.{IsFirstWrong, EndsInVain}

-- the bounds of a yes have no fault
pub listed_faultless : (net : Network) → IsWellFormed net → IsConsistent net → IsFaultless net (live_bounds (log_of net))
listed_faultless net good consistent =
    closed_faultless net (live_bounds (log_of net)) (log_closed net good.network good.letters ((log_decides net good.network good.letters).0 consistent)) (live_in_range net good)

-- the steps of a no refute the network
pub refuted_by_log : (net : Network) → IsWellFormed net → (IsConsistent net → ⊥) → IsRefutation net (last_with_ancestors (log_of net))
refuted_by_log net good never =
    part_refutes net (log_of net) (last_with_ancestors (log_of net)) (log_refutation net good (log_refutes_last net good (is_true (is_refuted net (log_of net)) refl))) refl
  where
    is_true : (b : Bool) → is_refuted net (log_of net) ≡ b → is_refuted net (log_of net) ≡ true
    is_true true is = is
    is_true false is = absurd (never ((log_decides net good.network good.letters).1 is))

-- steps of which one is wrong, or that end in vain, are no refutation
pub no_refutation : (net : Network) (steps : List Entry) (k : ℕ) → IsFirstWrong net steps k ⊎ EndsInVain net steps k → IsRefutation net steps → ⊥
no_refutation net steps k (inl first) refutation = first.wrong (λ e there. refutation.derivation k e there)
no_refutation net steps k (inr vain) refutation = vain.vain refutation
