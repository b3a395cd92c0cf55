-- After yes there is a plan.
use Rattle.std.proofs.Common.{◌≡◌, ℕ, Bool, true, false, refl}
use Rattle.std.specs.Prelude.{nat_lt, if◌then◌else◌}
use Rattle.cstn_net.specs.Networks.{Network, IsWellFormed}
use Rattle.cstn_plan.specs.Asked.{asked}
use Rattle.cstn_plan.proofs.PlanLemmas.{asked_earliest}
use Rattle.cstn_lift.specs.Labelled.{Labelled}
use Rattle.cstn_lift.specs.WellFormed.{IsLabelled}
use Rattle.cstn_lift.specs.Lowered.{lowered}
use Rattle.cstn_check.specs.Growth.{is_refuted, log_of, load_of, live_bounds}
use Rattle.cstn_check.specs.declared.verdicts.Verdict.{Verdict}
use Rattle.cstn_check.specs.declared.verdicts.Verdict.TheVariants.{Yes, No, Full as IsFull}
use Rattle.cstn_check.proofs.Decides.{log_closed, log_sound}
use Rattle.cstn_exec.specs.Sound.{IsPlanned}
use Rattle.cstn_check.specs.Decisions.{verdict}

not_full : (load : ℕ) (v : Verdict) → v ≡ IsFull → v ≡ Yes load → ⊥
not_full load v full yes' = let f : ⊥ = cc in f

not_no : (load other : ℕ) (v : Verdict) → v ≡ No other → v ≡ Yes load → ⊥
not_no load other v no' yes' = let f : ⊥ = cc in f

-- after yes no entry of the log refutes the network
stands : (cap load : ℕ) (net : Network) → verdict cap net ≡ Yes load → is_refuted net (log_of net) ≡ false
stands cap load net yes' = by_load (nat_lt cap (load_of net)) (is_refuted net (log_of net)) refl yes'
  where
    by_load : (full refuted : Bool) → is_refuted net (log_of net) ≡ refuted → (if full then IsFull else if refuted then No (load_of net) else Yes (load_of net)) ≡ Yes load → is_refuted net (log_of net) ≡ false
    by_load true refuted is e = absurd (not_full load IsFull refl e)
    by_load false true is e = absurd (not_no load (load_of net) (No (load_of net)) refl e)
    by_load false false is e = is

pub planned : (cap load : ℕ) (m : Labelled) → IsLabelled m → IsWellFormed (lowered m) → verdict cap (lowered m) ≡ Yes load → IsPlanned m (live_bounds (log_of (lowered m)))
planned cap load m good wf yes' = record {
  labelled = good;
  well_formed = wf;
  table = asked (lowered m) (live_bounds (log_of (lowered m)));
  earliest = asked_earliest (lowered m) (live_bounds (log_of (lowered m))) wf.network
      (log_closed (lowered m) wf.network wf.letters (stands cap load (lowered m) yes')) (log_sound (lowered m) wf.network wf.letters);
}
