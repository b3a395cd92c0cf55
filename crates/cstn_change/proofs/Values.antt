-- A constraint that gets another value is one of the network still, and its value is in range.
use Rattle.std.proofs.Common.{ℕ, ◌≡◌, inl, inr, Bool, true, false}
use Rattle.std.specs.Prelude.{ℤ, ◌==◌, if◌then◌else◌}
use Rattle.std.proofs.lemmas.Bool.{cases_Bool}
use Rattle.cstn_net.specs.Networks.{Network, Constraint, IsConstraint, IsValue}
use Rattle.cstn_change.specs.Changes.{with_value}

pub one_with : (net : Network) (id : ℕ) (most : ℤ) (c : Constraint) → IsConstraint net c → IsConstraint net (with_value id most c)
one_with net id most c h = elim (cases_Bool (c.id == id)) [
  | inl t ↦ rw t (record { from = h.from; to = h.to; plain = h.plain; observed = h.observed })
  | inr f ↦ rw f h
]

pub value_with : (id : ℕ) (most : ℤ) (c : Constraint) → IsValue most → IsValue c.most → IsValue (with_value id most c).most
value_with id most c new old = elim (cases_Bool (c.id == id)) [ inl t ↦ rw t new | inr f ↦ rw f old ]
