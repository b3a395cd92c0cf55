use Rattle.std.proofs.Common.{◌≡◌, ◌++◌, take}
use Rattle.cstn_text.specs.PrintedNames.{printed_name}
use Rattle.cstn_sentences.proofs.names.push_printed.Given as goal

abbrev pub invariant-loop-b : goal.invariant-loop-b
invariant-loop-b l = l.text.items ≡ l.fn.text.items ++ printed_name (take l.b-index l.name)
