use Rattle.std.proofs.Common.{◌≡◌, ◌++◌, ◌∷◌, [], take}
use Rattle.std.specs.Prelude.{flat_map, slice_index_or, string_bytes}
use Rattle.cstn_text.specs.PrintedNames.{printed_name}
use Rattle.cstn_outline.specs.Read.{node_numbers}
use Rattle.cstn_outline.proofs.printing.push_names.Given as goal

abbrev pub invariant-loop-x : goal.invariant-loop-x
invariant-loop-x l = string_bytes l.text ≡ string_bytes l.initial.text ++ flat_map (λ x. 32 ∷ printed_name (slice_index_or l.names x [])) (node_numbers (take l.x-index l.named))
