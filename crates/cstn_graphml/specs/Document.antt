-- What a document means: its labelled network with names, or the first refusal.
use Rattle.std.specs.Prelude.{ℕ, Bool, true, false, List, [], ◌∷◌, Option, Some, None, Result, Ok, Err, if◌then◌else◌, codes}
use Rattle.std.specs.Str.{is_utf8}
use Rattle.std.specs.Str.Lossy.{utf8_valid_len}
use Rattle.cstn_label.specs.Labels.{Label}
use Rattle.cstn_markup.specs.Bytes.{is_same}
use Rattle.cstn_markup.specs.Tokens.{tokens}
use Rattle.cstn_element.specs.Results.{Refusal, ◌>>=◌, or_refused, demand}
use Rattle.cstn_element.specs.Results.Refusal.{not_utf8, shape, no_deadline}
use Rattle.cstn_element.specs.Contents.{Tag, Content, content_of}
use Rattle.cstn_element.specs.Elements.{Reading, read_by, blank, passed, datum, has_key, data_of}
use Rattle.cstn_graphml.specs.DrawnGraph.{Observation, DrawnGraph, DrawnConstraint, empty_graph}
use Rattle.cstn_graphml.specs.Judged.{judged_node, judged_edge, judged_deadline}

pub data Part : Type 0 where
  a_datum : Part
  a_node : Part
  an_edge : Part
  another : Part

abbrev pub part_of : List ℕ → Part
part_of name =
    if is_same name (codes "data") then a_datum else
    if is_same name (codes "node") then a_node else
    if is_same name (codes "edge") then an_edge else another

-- the graph, once an element in it was read
abbrev pub graph_child : Part → DrawnGraph → Tag → Content → Result DrawnGraph Refusal
graph_child a_datum graph tag inside = datum (codes "Deadline" ∷ []) (has_key graph.own) tag inside >>= judged_deadline graph
graph_child a_node graph tag inside = data_of (codes "Obs" ∷ (codes "Reaction" ∷ (codes "Label" ∷ []))) inside >>= judged_node tag graph
graph_child an_edge graph tag inside = data_of (codes "Type" ∷ (codes "LabeledValues" ∷ [])) inside >>= judged_edge tag graph
graph_child another graph tag inside = passed inside >>= λ same. Ok graph

-- how the graph is read: the state is what was read of it so far
abbrev pub graph_reading : Reading DrawnGraph DrawnGraph
graph_reading = record {
  ends = λ graph at. Ok graph;
  runs = λ graph at raw. blank at raw >>= λ same. Ok graph;
  elements = λ graph tag inside. graph_child (part_of tag.name) graph tag inside;
}

abbrev pub in_graph : DrawnGraph → Content → Result DrawnGraph Refusal
in_graph graph inside = read_by graph_reading graph inside

-- the graph of the root, if any, once an element in the root was read: a second graph is refused
abbrev pub root_child : Bool → Option DrawnGraph → Tag → Content → Result (Option DrawnGraph) Refusal
root_child true (Some graph) tag inside = Err (shape tag.at)
root_child true None tag inside = in_graph empty_graph inside >>= λ graph. Ok (Some graph)
root_child false seen tag inside = passed inside >>= λ same. Ok seen

-- how the root is read: the state is its graph, once that was read, and the end is refused without one
abbrev pub root_reading : Reading (Option DrawnGraph) DrawnGraph
root_reading = record {
  ends = λ seen at. or_refused seen (shape at);
  runs = λ seen at raw. blank at raw >>= λ same. Ok seen;
  elements = λ seen tag inside. root_child (is_same tag.name (codes "graph")) seen tag inside;
}

abbrev pub in_root : Content → Result DrawnGraph Refusal
in_root inside = read_by root_reading None inside

-- the graph of the document, once an element of it was read: that is the root, and a second one is refused
abbrev pub document_child : Option DrawnGraph → Tag → Content → Result (Option DrawnGraph) Refusal
document_child (Some graph) tag inside = Err (shape tag.at)
document_child None tag inside = demand (is_same tag.name (codes "graphml")) (shape tag.at) >>= λ same. in_root inside >>= λ graph. Ok (Some graph)

-- how the document is read: the state is the graph of its root, once that was read, and the end is refused without one
abbrev pub document_reading : Reading (Option DrawnGraph) DrawnGraph
document_reading = record {
  ends = λ seen at. or_refused seen (shape at);
  runs = λ seen at raw. blank at raw >>= λ same. Ok seen;
  elements = document_child;
}

abbrev pub in_document : Content → Result DrawnGraph Refusal
in_document whole = read_by document_reading None whole

-- What a document says: the deadline in ticks, the names, observations and labels of the time-points by number, and the
-- constraints by id.
pub record Parts : Type 0 where
  pub deadline : ℕ
  pub names : List (List ℕ)
  pub observes : List (Option Observation)
  pub labels : List Label
  pub constraints : List DrawnConstraint

-- the deadline handed in, else the document's
abbrev pub first_of_two : Option ℕ → Option ℕ → Option ℕ
first_of_two (Some n) m = Some n
first_of_two None m = m

-- what the origin observes: nothing where its node wasn't read
abbrev pub or_nothing : Option (Option Observation) → Option Observation
or_nothing (Some observed) = observed
or_nothing None = None

-- the parts of a graph, with this deadline
abbrev pub parts_of : ℕ → DrawnGraph → Parts
parts_of deadline graph = record {
  deadline = deadline;
  names = graph.names;
  observes = or_nothing graph.origin ∷ graph.observes;
  labels = graph.origin_label ∷ graph.labels;
  constraints = graph.constraints;
}

abbrev pub drawn_parts : Option ℕ → DrawnGraph → Result Parts Refusal
drawn_parts word graph = or_refused (first_of_two word graph.deadline) no_deadline >>= λ deadline. Ok (parts_of deadline graph)

-- the bytes are UTF-8, or refused at the first byte of the first wrong sequence
abbrev pub is_text : List ℕ → Result (Unit {0}) Refusal
is_text bytes = demand (is_utf8 bytes) (not_utf8 (utf8_valid_len bytes))

-- The document of the bytes with the deadline handed in or none: its parts, or its refusal.
abbrev pub document : List ℕ → Option ℕ → Result Parts Refusal
document bytes word = is_text bytes >>= λ same. in_document (content_of (tokens bytes)) >>= drawn_parts word
