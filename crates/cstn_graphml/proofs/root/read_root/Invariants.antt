use Rattle.std.proofs.Common.{◌≡◌, ℕ, List, ◌∷◌, None, ◌≤◌, length}
use Rattle.std.specs.Prelude.{option_map}
use Rattle.cstn_element.specs.Elements.{read_by}
use Rattle.cstn_graphml.specs.Kept.{kept_root_reading}
use Rattle.cstn_graphml.specs.DrawnGraphSeen.{graph_seen}
use Rattle.cstn_element.specs.Reads.{ReadsFurther}
use Rattle.cstn_graphml.proofs.root.read_root.Given as goal

abbrev pub invariant-loop-start : goal.invariant-loop-start
invariant-loop-start l = record {
  same : (others : List (List ℕ)) → length others ≡ 0 → ReadsFurther (read_by kept_root_reading None) (read_by kept_root_reading (option_map graph_seen l.seen)) (l.name ∷ others) l.fn.scanner l.scanner;
  less : length l.scanner ≤ length l.fn.scanner;
}

abbrev pub decreases-loop-start : goal.decreases-loop-start
decreases-loop-start l = length l.scanner
