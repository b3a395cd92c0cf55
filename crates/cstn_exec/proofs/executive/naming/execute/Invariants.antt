use Rattle.std.proofs.Common.{◌≡◌, map, take}
use Rattle.cstn_exec.specs.Moves.{executed}
use Rattle.cstn_exec.proofs.executive.naming.execute.Given as goal

abbrev pub invariant-loop-x : goal.invariant-loop-x
invariant-loop-x l = l.moments.items ≡ executed l.t (map (λ x. x.0) (take l.x-index l.named)) l.initial.moments.items
