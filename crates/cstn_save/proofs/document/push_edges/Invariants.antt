use Rattle.std.proofs.Common.{◌≡◌, ◌++◌, take, map}
use Rattle.cstn_net.specs.Read.{the_constraint}
use Rattle.cstn_save.specs.Canonical.{edges}
use Rattle.cstn_save.proofs.document.push_edges.Given as goal

abbrev pub invariant-loop-c : goal.invariant-loop-c
invariant-loop-c l = l.text.items ≡ l.fn.text.items ++ edges l.names (map the_constraint (take l.c-index l.c-items))
