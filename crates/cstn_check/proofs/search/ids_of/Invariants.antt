use Rattle.std.proofs.Common.{◌≡◌, map, take}
use Rattle.cstn_net.specs.declared.constraints.Constraint.{Constraint}
use Rattle.cstn_check.proofs.search.ids_of.Given as goal

abbrev pub invariant-loop-constraint : goal.invariant-loop-constraint
invariant-loop-constraint l = l.ids.items ≡ map (λ (c : Constraint). c.id) (take l.constraint-index l.constraints)
