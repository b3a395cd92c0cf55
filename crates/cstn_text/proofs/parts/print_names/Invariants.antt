use Rattle.std.proofs.Common.{◌≡◌, take, map}
use Rattle.std.specs.Prelude.{string_bytes}
use Rattle.cstn_text.specs.PrintedNames.{printed_name}
use Rattle.cstn_text.proofs.parts.print_names.Given as goal

abbrev pub invariant-loop-name : goal.invariant-loop-name
invariant-loop-name l = map string_bytes l.texts.items ≡ map printed_name (map string_bytes (take l.name-index l.names))
