-- A strategy of a network is also one of the network with a later deadline or with fewer constraints.
use Rattle.std.proofs.Common.{ℕ, zero, suc, ◌≤◌, List, arith}
use Rattle.std.specs.List.{Contains}
use Rattle.cstn_net.specs.Limits.{most_deadline}
use Rattle.cstn_net.specs.Networks.{Network, Constraint, IsWellFormed, limit}
use Rattle.cstn_net.specs.Strategies.{Schedule, Table, IsKnown, IsStrategy}

abbrev pub with_deadline : Network → ℕ → Network
with_deadline net h = record net { deadline = h }

abbrev pub with_list : Network → List Constraint → Network
with_list net cs = record net { constraints = cs }

-- what is known depends neither on the deadline nor on the constraints
known_later_end : (net : Network) (h : ℕ) (at : Schedule) (t p : ℕ) → IsKnown net at t p → IsKnown (with_deadline net h) at t p
known_later_end net h at t p k = record { observer = k.observer; observes = record { what = k.observes.what }; passed = k.passed }

known_with : (net : Network) (cs : List Constraint) (at : Schedule) (t p : ℕ) → IsKnown net at t p → IsKnown (with_list net cs) at t p
known_with net cs at t p k = record { observer = k.observer; observes = record { what = k.observes.what }; passed = k.passed }

-- a time-point's limit is at most the deadline, and in a well-formed network at most the greatest deadline
pub limit_upto : (net : Network) (x : ℕ) → limit net x ≤ net.deadline
limit_upto net zero = omega arith
limit_upto net (suc x) = omega arith

pub limit_in_time : (net : Network) → IsWellFormed net → (x : ℕ) → limit net x ≤ most_deadline
limit_in_time net good zero = omega arith
limit_in_time net good (suc x) = good.in_time

limit_grows : (net : Network) (h x : ℕ) → net.deadline ≤ h → limit net x ≤ limit (with_deadline net h) x
limit_grows net h zero upto = omega arith
limit_grows net h (suc x) upto = upto

-- a strategy stays one with a later deadline
pub later_deadline : (net : Network) (table : Table) (h : ℕ) → net.deadline ≤ h → IsStrategy net table →
    IsStrategy (with_deadline net h) table
later_deadline net table h upto strategy = record {
  within = λ s x here.
      let soon = strategy.within s x here in
      let grows = limit_grows net h x upto in
      omega arith;
  dynamic = λ s r x here agrees.
      strategy.dynamic s r x here (λ p k. agrees p (known_later_end net h (table s) (table s x) p k));
  meets = λ s c has holds. strategy.meets s c has holds;
}

-- a strategy stays one with fewer constraints
pub fewer_constraints : (net : Network) (table : Table) (cs : List Constraint) →
    ((c : Constraint) → Contains cs c → Contains net.constraints c) → IsStrategy net table →
    IsStrategy (with_list net cs) table
fewer_constraints net table cs among strategy = record {
  within = λ s x here. limited x (strategy.within s x here);
  dynamic = λ s r x here agrees.
      strategy.dynamic s r x here (λ p k. agrees p (known_with net cs (table s) (table s x) p k));
  meets = λ s c has holds. strategy.meets s c (among c has) holds;
}
  where
    limited : {t : ℕ} (x : ℕ) → t ≤ limit net x → t ≤ limit (with_list net cs) x
    limited zero h = h
    limited (suc x) h = h
