-- The ids of constraints that are made of drafts.
use Rattle.std.proofs.Common.{ℕ, ◌≡◌, ◌+◌, ◌<◌, List, [], ◌∷◌, length, arith}
use Rattle.std.specs.List.{All}
use Rattle.std.proofs.lemmas.List.Elements.{All-cons, All-nil}
use Rattle.cstn_net.specs.declared.constraints.Constraint.{Constraint}
use Rattle.cstn_net.specs.declared.drafts.Draft.{Draft}
use Rattle.cstn_net.specs.Drafts.{constraint_of, constraints_from}

ids_from : (n k : ℕ) (ds : List Draft) → k + length ds ≡ n → All (λ c. c.id < n) (constraints_from k ds)
ids_from n k [] is = All-nil (λ c. c.id < n)
ids_from n k (d ∷ ds) is =
    All-cons (λ c. c.id < n) (constraint_of k d) (constraints_from (k + 1) ds) (omega arith) (ids_from n (k + 1) ds (omega arith))

pub ids_are_below : (n : ℕ) (ds : List Draft) (cs : List Constraint) → length ds ≡ n → cs ≡ constraints_from 0 ds →
    All (λ c. c.id < n) cs
ids_are_below n ds cs long made = rw made (ids_from n 0 ds (omega arith))
