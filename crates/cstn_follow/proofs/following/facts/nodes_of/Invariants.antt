use Rattle.std.proofs.Common.{◌≡◌, take}
use Rattle.std.specs.List.{filter_map}
use Rattle.cstn_follow.specs.FactLines.{node_named}
use Rattle.cstn_follow.proofs.following.facts.nodes_of.Given as goal

abbrev pub invariant-loop-name : goal.invariant-loop-name
invariant-loop-name l = l.nodes.items ≡ filter_map (node_named l.names) (take l.name-index l.given)
