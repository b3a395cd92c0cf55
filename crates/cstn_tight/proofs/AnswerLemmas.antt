-- What the check of a network tells.
use Rattle.std.proofs.Common.{ℕ, ◌≡◌, ◌<◌, ◌≤◌, Some, None, Result, Ok, Err, subst, ap, ◌∙◌}
use Rattle.std.specs.Prelude.{IsOk, IsErr}
use Rattle.cstn_net.specs.Read.{NetworkParts, the_network}
use Rattle.cstn_net.specs.Strategies.{IsConsistent}
use Rattle.cstn_check.specs.Checks.{CheckParts}
use Rattle.cstn_check.specs.Growth.{load_of}
use Rattle.cstn_check.specs.declared.verdicts.Verdict.{Verdict}

-- a check that was just started, and the same after its answer
module _ (cap : ℕ) (net : NetworkParts) (check : CheckParts) (is : check ≡ record { net = net; cap = cap; verdict = None; tries = 0 }) where
  pub full_tells : check.cap < load_of (the_network check.net) → cap < load_of (the_network net)
  full_tells = subst (λ (c : CheckParts). c.cap < load_of (the_network c.net)) is

  pub yes_tells : (load : ℕ) → (load ≡ load_of (the_network check.net)) × (load_of (the_network check.net) ≤ check.cap) × IsConsistent (the_network check.net) →
      (load_of (the_network net) ≤ cap) × IsConsistent (the_network net)
  yes_tells load told = (
    subst (λ (c : CheckParts). load_of (the_network c.net) ≤ c.cap) is told.1,
    subst (λ (c : CheckParts). IsConsistent (the_network c.net)) is told.2,
  )

  pub no_tells : (load : ℕ) → (load ≡ load_of (the_network check.net)) × (load_of (the_network check.net) ≤ check.cap) × ¬ IsConsistent (the_network check.net) →
      (load_of (the_network net) ≤ cap) × ¬ IsConsistent (the_network net)
  no_tells load told = (
    subst (λ (c : CheckParts). load_of (the_network c.net) ≤ c.cap) is told.1,
    subst (λ (c : CheckParts). ¬ IsConsistent (the_network c.net)) is told.2,
  )

  pub same_net : (new : CheckParts) (v : Verdict) → new ≡ record check { verdict = Some v; tries = new.tries } → new.net ≡ net
  same_net new v answered = ap (λ (c : CheckParts). c.net) answered ∙ ap (λ (c : CheckParts). c.net) is

-- an error isn't an answer
pub not_ok : {X E : Type 0} (r : Result X E) → IsErr r → IsOk r → ⊥
not_ok (Ok x) err ok = cc
not_ok (Err e) err ok = cc
