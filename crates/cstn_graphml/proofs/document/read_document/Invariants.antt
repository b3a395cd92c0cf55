use Rattle.std.proofs.Common.{[], None, length}
use Rattle.std.specs.Prelude.{option_map}
use Rattle.cstn_element.specs.Elements.{read_by}
use Rattle.cstn_graphml.specs.Kept.{kept_document_reading}
use Rattle.cstn_graphml.specs.DrawnGraphSeen.{graph_seen}
use Rattle.cstn_element.specs.Reads.{ReadsFurther}
use Rattle.cstn_graphml.proofs.document.read_document.Given as goal

abbrev pub invariant-loop-name : goal.invariant-loop-name
invariant-loop-name l = record {
  same : ReadsFurther (read_by kept_document_reading None) (read_by kept_document_reading (option_map graph_seen l.seen)) [] l.fn.scanner l.scanner;
}

abbrev pub decreases-loop-name : goal.decreases-loop-name
decreases-loop-name l = length l.scanner
