use Rattle.std.proofs.Common.{◌≡◌, ◌++◌, ◌∷◌, take}
use Rattle.std.specs.Prelude.{flat_map}
use Rattle.cstn_sentences.specs.Spelling.{quoted_byte}
use Rattle.cstn_sentences.proofs.names.push_quoted.Given as goal

abbrev pub invariant-loop-b : goal.invariant-loop-b
invariant-loop-b l = l.text.items ≡ l.fn.text.items ++ (34 ∷ flat_map quoted_byte (take l.b-index l.name))
