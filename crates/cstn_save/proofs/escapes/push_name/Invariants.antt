use Rattle.std.proofs.Common.{◌≡◌, ◌++◌, take}
use Rattle.cstn_save.specs.Canonical.{escaped_name}
use Rattle.cstn_save.proofs.escapes.push_name.Given as goal

abbrev pub invariant-loop-b : goal.invariant-loop-b
invariant-loop-b l = l.text.items ≡ l.fn.text.items ++ escaped_name (take l.b-index l.b-items)
