use Rattle.std.proofs.Common.{◌≡◌, take}
use Rattle.cstn_text.specs.PrintedNames.{printed_name}
use Rattle.cstn_text.proofs.printed_names.print_name.Given as goal

abbrev pub invariant-loop-b : goal.invariant-loop-b
invariant-loop-b l = l.bytes.items ≡ printed_name (take l.b-index l.b-items)
