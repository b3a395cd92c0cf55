use Rattle.std.proofs.Common.{◌≡◌, take, map, string_bytes}
use Rattle.cstn_text.specs.PrintedNames.{printed_name}
use Rattle.cstn_exec.proofs.lines.print_names.Given as goal

abbrev pub invariant-loop-x : goal.invariant-loop-x
invariant-loop-x l = record { printed : map string_bytes l.printed.items ≡ map printed_name (take l.x l.names) }
