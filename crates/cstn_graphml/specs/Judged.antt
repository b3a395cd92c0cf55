-- Nodes, edges and deadlines, which are checked and put in the graph when they end.
use Rattle.std.specs.Prelude.{ℕ, ◌&&◌, not, Bool, true, false, nat_lt, nat_le, List, [], ◌∷◌, length, Option, Some, None, is_some, Result, Ok, Err, codes}
use Rattle.cstn_label.specs.Labels.{Label, empty}
use Rattle.cstn_element.specs.Results.{Refusal, ◌>>=◌, or_refused, demand}
use Rattle.cstn_element.specs.Results.Refusal.{shape, name_twice, unknown_node, bad_value, label_text, contingent, edge_type}
use Rattle.cstn_element.specs.NumberTexts.{deadline_of, reaction_in}
use Rattle.cstn_element.specs.EdgeTypes.{edge_type_of}
use Rattle.cstn_element.specs.declared.edge_types.EdgeType.{EdgeType}
use Rattle.cstn_element.specs.declared.edge_types.EdgeType.TheVariants.{Kept, PassedOver, Contingent}
use Rattle.cstn_element.specs.ObservedLetters.{observed_in}
use Rattle.cstn_element.specs.LabelTexts.{label_of_text}
use Rattle.cstn_element.specs.ValueTexts.{Pair, values_of}
use Rattle.cstn_element.specs.Contents.{Tag}
use Rattle.cstn_element.specs.Elements.{attribute, Datum, datum_of}
use Rattle.cstn_graphml.specs.DrawnGraph.{DrawnGraph, DrawnConstraint, observation, node_of, with_node, with_drawn_constraint, with_deadline}

-- the proposition that a node observes by its data element, if any
abbrev pub prop_in_datum : Option Datum → Result (Option ℕ) Refusal
prop_in_datum None = Ok None
prop_in_datum (Some d) = or_refused (observed_in d.value) (label_text d.at)

-- the reaction of a node in ticks, 1 where none is written
abbrev pub reacting : Option Datum → Result ℕ Refusal
reacting None = Ok 1
reacting (Some d) = or_refused (reaction_in d.value) (bad_value d.at)

-- the label of a node, and the empty one where none is written
abbrev pub labelled : Option Datum → Result Label Refusal
labelled None = Ok empty
labelled (Some d) = or_refused (label_of_text d.value) (label_text d.at)

-- the graph with a node whose data were read, or the refusal of the node
abbrev pub judged_node : Tag → DrawnGraph → List Datum → Result DrawnGraph Refusal
judged_node tag graph found =
    or_refused (attribute (codes "id") tag) (shape tag.at) >>= λ id.
    demand (nat_lt 0 (length id) && nat_le (length id) 64) (bad_value tag.at) >>= λ sized.
    demand (not (is_some (node_of id graph))) (name_twice tag.at) >>= λ fresh.
    prop_in_datum (datum_of (codes "Obs") found) >>= λ prop.
    reacting (datum_of (codes "Reaction") found) >>= λ ticks.
    labelled (datum_of (codes "Label") found) >>= λ label.
    Ok (with_node id (observation prop ticks) label graph)

-- whether an edge of this type is kept; a contingent one is refused at the place of the type
abbrev pub is_kept_as : ℕ → EdgeType → Result Bool Refusal
is_kept_as at Kept = Ok true
is_kept_as at PassedOver = Ok false
is_kept_as at Contingent = Err (contingent at)

-- whether an edge is kept
abbrev pub is_edge_kept : Option Datum → Result Bool Refusal
is_edge_kept None = Ok true
is_edge_kept (Some d) = or_refused (edge_type_of d.value) (edge_type d.at) >>= is_kept_as d.at

-- the constraint of a pair with this label, between these time-points
abbrev pub drawn_between : ℕ → ℕ → Pair → Label → DrawnConstraint
drawn_between from to p label = record { from = from; to = to; most = p.most; label = label }

-- the graph with the constraint of a pair; refused where its label text isn't of the form
abbrev pub with_pair : ℕ → ℕ → ℕ → Pair → DrawnGraph → Result DrawnGraph Refusal
with_pair at from to p graph = or_refused p.label (label_text at) >>= λ label. Ok (with_drawn_constraint (drawn_between from to p label) graph)

-- the graph with a constraint for each pair
unfoldable pub with_pairs : ℕ → ℕ → ℕ → List Pair → DrawnGraph → Result DrawnGraph Refusal
with_pairs at from to [] graph = Ok graph
with_pairs at from to (p ∷ pairs) graph = with_pair at from to p graph >>= with_pairs at from to pairs

-- the graph with the constraints of an edge
abbrev pub with_values : ℕ → ℕ → Option Datum → DrawnGraph → Result DrawnGraph Refusal
with_values from to None graph = Ok graph
with_values from to (Some d) graph = or_refused (values_of d.value) (bad_value d.at) >>= λ pairs. with_pairs d.at from to pairs graph

-- the graph with the constraints of an edge that is kept
abbrev pub with_kept : ℕ → List ℕ → List ℕ → DrawnGraph → List Datum → Result DrawnGraph Refusal
with_kept at source target graph found =
    or_refused (node_of source graph) (unknown_node at) >>= λ from.
    or_refused (node_of target graph) (unknown_node at) >>= λ to.
    with_values from to (datum_of (codes "LabeledValues") found) graph

-- the graph with the constraints of an edge, where that is kept
abbrev pub with_edge : Bool → ℕ → List ℕ → List ℕ → DrawnGraph → List Datum → Result DrawnGraph Refusal
with_edge false at source target graph found = Ok graph
with_edge true at source target graph found = with_kept at source target graph found

-- the graph with the constraints of an edge whose data were read, or the refusal of the edge
abbrev pub judged_edge : Tag → DrawnGraph → List Datum → Result DrawnGraph Refusal
judged_edge tag graph found =
    or_refused (attribute (codes "source") tag) (shape tag.at) >>= λ source.
    or_refused (attribute (codes "target") tag) (shape tag.at) >>= λ target.
    is_edge_kept (datum_of (codes "Type") found) >>= λ keeps.
    with_edge keeps tag.at source target graph found

-- the graph with the deadline of a data element of its own, or the refusal of the value; None is one whose key isn't used
abbrev pub judged_deadline : DrawnGraph → Option Datum → Result DrawnGraph Refusal
judged_deadline graph None = Ok graph
judged_deadline graph (Some d) = or_refused (deadline_of d.value) (bad_value d.at) >>= λ n. Ok (with_deadline d n graph)
