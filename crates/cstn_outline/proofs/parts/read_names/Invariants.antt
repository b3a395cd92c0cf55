use Rattle.std.proofs.Common.{◌≡◌, ◌<◌, length}
use Rattle.std.specs.List.{All}
use Rattle.cstn_outline.specs.Texts.{tree_names_read}
use Rattle.cstn_outline.proofs.PartLemmas.{after_names}
use Rattle.cstn_outline.proofs.parts.read_names.Given as goal

abbrev pub invariant-loop-name : goal.invariant-loop-name
invariant-loop-name l = record {
  read : after_names l.nodes.items (tree_names_read l.names l.left) ≡ tree_names_read l.names l.bytes;
  inside : All (λ x. x.0 < length l.names) l.nodes.items;
}

abbrev pub decreases-loop-name : goal.decreases-loop-name
decreases-loop-name l = length l.left
