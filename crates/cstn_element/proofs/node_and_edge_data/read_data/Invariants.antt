use Rattle.std.proofs.Common.{◌≡◌, ℕ, List, ◌∷◌, [], ◌≤◌, length, map, Bor}
use Rattle.cstn_element.specs.Elements.{read_by, data_reading}
use Rattle.cstn_element.specs.DataElementSeen.{datum_seen}
use Rattle.cstn_element.specs.Reads.{ReadsFurther}
use Rattle.cstn_element.proofs.node_and_edge_data.read_data.Given as goal

abbrev pub invariant-loop-start : goal.invariant-loop-start
invariant-loop-start l = record {
  same : (others : List (List ℕ)) → length others ≡ 2
      → ReadsFurther (read_by (data_reading (map (λ (u : Bor (List ℕ)). u.now) l.used)) []) (read_by (data_reading (map (λ (u : Bor (List ℕ)). u.now) l.used)) (map datum_seen l.found.items)) (l.name ∷ others) l.fn.scanner l.scanner;
  less : length l.scanner ≤ length l.fn.scanner;
}

abbrev pub decreases-loop-start : goal.decreases-loop-start
decreases-loop-start l = length l.scanner
