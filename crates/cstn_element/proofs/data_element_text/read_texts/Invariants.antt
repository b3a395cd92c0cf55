use Rattle.std.proofs.Common.{ℕ, List, ◌∷◌, [], ◌≤◌, length}
use Rattle.cstn_element.specs.Elements.{read_by, texts_reading}
use Rattle.cstn_element.specs.Reads.{ReadsFurther}
use Rattle.cstn_element.proofs.data_element_text.read_texts.Given as goal

abbrev pub invariant-loop-found : goal.invariant-loop-found
invariant-loop-found l = record {
  same : (others : List (List ℕ)) → ReadsFurther (read_by texts_reading []) (read_by texts_reading l.found.items) (l.name ∷ others) l.fn.scanner l.scanner;
  less : length l.scanner ≤ length l.fn.scanner;
}

abbrev pub decreases-loop-found : goal.decreases-loop-found
decreases-loop-found l = length l.scanner
