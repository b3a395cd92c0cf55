use Rattle.std.proofs.Common.{◌≤◌, refl, sym, subst}
use Rattle.cstn_net.specs.Strategies.{IsConsistent}
use Rattle.cstn_net.specs.Read.{the_network}
use Rattle.cstn_check.specs.Checks.{CheckParts}
use Rattle.cstn_check.specs.Growth.{load_of}
use Rattle.rehearsal.proofs.plans.plan_of.Goals as goal

pub returns-clause-found : goal.returns-clause-found
returns-clause-found c =
    let yes = (c.in-Yes.ensures.exactly_yes c.in-Yes.load).0 refl in (
      (λ is. subst (λ (check : CheckParts). (load_of (the_network check.net) ≤ check.cap) × IsConsistent (the_network check.net)) c.in_ok-check.ensures.start
          (yes.1, yes.2)),
      (λ both. refl),
    )

pub returns-in_default-clause-found : goal.returns-in_default-clause-found
returns-in_default-clause-found c = (
  (λ is. let f : ⊥ = cc in absurd f),
  (λ both. let have = subst (λ (check : CheckParts). (load_of (the_network check.net) ≤ check.cap) × IsConsistent (the_network check.net)) (sym c.in_ok-check.ensures.start) both in
      absurd (c.in_default.not-Yes (load_of (the_network c.in_ok-check.check.net)) ((c.run.ensures.exactly_yes (load_of (the_network c.in_ok-check.check.net))).1
      (refl, have.0, have.1)))),
)
