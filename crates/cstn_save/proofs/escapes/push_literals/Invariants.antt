use Rattle.std.proofs.Common.{◌≡◌, ◌++◌}
use Rattle.cstn_label.specs.Read.{marks}
use Rattle.cstn_save.specs.Canonical.{literals_below}
use Rattle.cstn_save.proofs.escapes.push_literals.Given as goal

abbrev pub invariant-loop-index : goal.invariant-loop-index
invariant-loop-index l = l.text.items ≡ l.fn.text.items ++ literals_below (marks l.label) l.index
