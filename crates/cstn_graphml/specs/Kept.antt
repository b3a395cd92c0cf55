-- What the program keeps of a graph while it reads: of the constraints the first ones, up to one past the limit of a network.
use Rattle.std.specs.Prelude.{take, Option, None, option_map, Result, Ok}
use Rattle.cstn_element.specs.Results.{Refusal, ◌>>=◌}
use Rattle.cstn_element.specs.Contents.{Content}
use Rattle.cstn_element.specs.Elements.{Reading, read_by}
use Rattle.cstn_graphml.specs.DrawnGraph.{DrawnGraph, empty_graph}
use Rattle.cstn_graphml.specs.Document.{graph_reading, root_reading, document_reading}

-- the graph with the first 16,385 of its constraints, which are one more than a network holds
abbrev pub kept : DrawnGraph → DrawnGraph
kept graph = record graph { constraints = take 16385 graph.constraints }

-- what is kept of the state that a step made, where the step wasn't refused
abbrev pub kept_by : {S : Type 0} → (S → S) → Result S Refusal → Result S Refusal
kept_by keep made = made >>= λ s. Ok (keep s)

-- the reading in which this much is kept of each state that an element made
abbrev pub keeping : {S A : Type 0} → (S → S) → Reading S A → Reading S A
keeping keep r = record { ends = r.ends; runs = r.runs; elements = λ s tag inside. kept_by keep (r.elements s tag inside) }

abbrev pub kept_graph_reading : Reading DrawnGraph DrawnGraph
kept_graph_reading = keeping kept graph_reading

abbrev pub kept_root_reading : Reading (Option DrawnGraph) DrawnGraph
kept_root_reading = keeping (option_map kept) root_reading

abbrev pub kept_document_reading : Reading (Option DrawnGraph) DrawnGraph
kept_document_reading = keeping (option_map kept) document_reading

-- what is kept of the graph, the root and the document with this content
abbrev pub in_kept_graph : Content → Result DrawnGraph Refusal
in_kept_graph inside = read_by kept_graph_reading empty_graph inside

abbrev pub in_kept_root : Content → Result DrawnGraph Refusal
in_kept_root inside = read_by kept_root_reading None inside

abbrev pub in_kept_document : Content → Result DrawnGraph Refusal
in_kept_document whole = read_by kept_document_reading None whole
