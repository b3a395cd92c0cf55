use Rattle.std.proofs.Common.{◌≡◌, ◌++◌, length, map, true}
use Rattle.std.specs.Prelude.{flat_map}
use Rattle.std.specs.List.{list_all}
use Rattle.cstn_label.specs.Read.{marks}
use Rattle.cstn_graphml.specs.DrawnGraphSeen.{drawn_seen}
use Rattle.cstn_sentences.specs.Meaning.{are_sized_from, constraints_of}
use Rattle.cstn_sentences.proofs.meaning.put_rule.Given as goal

abbrev pub invariant-loop-moment : goal.invariant-loop-moment
invariant-loop-moment l =
    (map drawn_seen l.fn.constraints.items ++ flat_map (constraints_of l.fn.x l.fn.bounds (marks l.fn.label)) l.fn.moments
    ≡ map drawn_seen l.constraints.items ++ flat_map (constraints_of l.fn.x l.fn.bounds (marks l.fn.label)) l.left)
    × (list_all (are_sized_from l.fn.bounds) l.left ≡ true)

abbrev pub decreases-loop-moment : goal.decreases-loop-moment
decreases-loop-moment l = length l.left
