-- The canonical document of a labelled network.
use Rattle.std.specs.Prelude.{ℕ, zero, suc, Bool, ◌&&◌, ◌||◌, ◌==◌, nat_le, List, [], ◌∷◌, ◌++◌, slice_index_or, map, flat_map, Option, Some, None, if◌then◌else◌, codes, ℤ}
use Rattle.cstn_label.specs.declared.marks.Mark.{Mark}
use Rattle.cstn_label.specs.declared.marks.Mark.TheVariants.{Absent, Yes, No, Unknown}
use Rattle.cstn_label.specs.Labels.{Label}
use Rattle.cstn_label.specs.Letters.{letter_of}
use Rattle.cstn_net.specs.Networks.{Network, Constraint, count}
use Rattle.cstn_lift.specs.Labelled.{Labelled, label_in}
use Rattle.cstn_graphml.specs.DrawnGraph.{Observation}
use Rattle.cstn_text.specs.Numbers.{printed_number, printed_value}

-- a byte that is written by its number: from 01 to 1F hexadecimal, and 7F
abbrev pub is_numbered : ℕ → Bool
is_numbered b = nat_le 1 b && nat_le b 31 || b == 127

-- the bytes that stand for a byte of a name
abbrev pub escaped_byte : ℕ → List ℕ
escaped_byte b =
    if b == 38 then codes "&amp;"
    else if b == 60 then codes "&lt;"
    else if b == 62 then codes "&gt;"
    else if b == 34 then codes "&quot;"
    else if is_numbered b then codes "&#" ++ printed_number b ++ codes ";"
    else b ∷ []

-- a name is escaped byte by byte
abbrev pub escaped_name : List ℕ → List ℕ
escaped_name name = flat_map escaped_byte name

-- a literal: its letter, after the two bytes of U+00AC where it is negated; a label of a document has no unknown mark
abbrev pub literal_text : ℕ → Mark → List ℕ
literal_text letter Absent = []
literal_text letter Yes = letter ∷ []
literal_text letter No = 194 ∷ 172 ∷ letter ∷ []
literal_text letter Unknown = []

-- the literals of the propositions below n, in ascending order
unfoldable pub literals_below : Label → ℕ → List ℕ
literals_below a zero = []
literals_below a (suc n) = literals_below a n ++ literal_text (letter_of n) (a n)

-- the bytes of the literals, or the three bytes of U+22A1 where there are none
abbrev pub or_empty : List ℕ → List ℕ
or_empty [] = 226 ∷ 138 ∷ 161 ∷ []
or_empty (b ∷ bytes) = b ∷ bytes

-- the text of a label in the document
abbrev pub document_label : Label → List ℕ
document_label a = or_empty (literals_below a 52)

-- the first four lines
abbrev pub head : ℕ → List ℕ
head deadline =
    codes "<?xml version=\"1.0\" encoding=\"UTF-8\"?>\n<graphml>\n<graph edgedefault=\"directed\">\n<data key=\"Deadline\">"
    ++ printed_number deadline ++ codes "</data>\n"

-- what a time-point observes, with the reaction of the proposition
abbrev pub observation_by : (ℕ → ℕ) → Option ℕ → Option Observation
observation_by reaction (Some p) = Some (record { prop = p; reaction = reaction p })
observation_by reaction None = None

-- what each time-point observes, and its reaction
abbrev pub timed_observations : Network → List (Option Observation)
timed_observations net = map (observation_by net.reaction) net.observes

-- the data element of a reaction, and nothing for a reaction of 1 tick
abbrev pub reaction_data : ℕ → List ℕ
reaction_data ticks = if ticks == 1 then [] else codes "<data key=\"Reaction\">" ++ printed_number ticks ++ codes "</data>"

-- the data elements of what a time-point observes
abbrev pub observation_data : Option Observation → List ℕ
observation_data None = []
observation_data (Some o) = codes "<data key=\"Obs\">" ++ letter_of o.prop ∷ codes "</data>" ++ reaction_data o.reaction

-- the data element of a label by its literals, and nothing where there are none
abbrev pub label_data : List ℕ → List ℕ
label_data [] = []
label_data (b ∷ bytes) = codes "<data key=\"Label\">" ++ (b ∷ bytes) ++ codes "</data>"

-- the data of a time-point
abbrev pub node_data : Option Observation → Label → List ℕ
node_data observed label = observation_data observed ++ label_data (literals_below label 52)

-- what follows the name in the line of a time-point, by its data
abbrev pub node_end : List ℕ → List ℕ
node_end [] = codes "\"/>\n"
node_end (b ∷ bytes) = codes "\">" ++ (b ∷ bytes) ++ codes "</node>\n"

-- the line of a time-point
abbrev pub node_line : List ℕ → Option Observation → Label → List ℕ
node_line name observed label = codes "<node id=\"" ++ escaped_name name ++ node_end (node_data observed label)

-- the lines of the first n time-points
unfoldable pub nodes_below : List (List ℕ) → List (Option Observation) → List Label → ℕ → List ℕ
nodes_below names observes labels zero = []
nodes_below names observes labels (suc n) =
    nodes_below names observes labels n ++ node_line (slice_index_or names n []) (slice_index_or observes n None) (label_in labels n)

-- the lines of all time-points
abbrev pub nodes : List (List ℕ) → Labelled → List ℕ
nodes names m = nodes_below names (timed_observations m.base) m.labels (count m.base)

-- the start tag of a constraint's edge
abbrev pub edge_tag : List ℕ → List ℕ → List ℕ
edge_tag source target = codes "<edge source=\"" ++ escaped_name source ++ codes "\" target=\"" ++ escaped_name target ++ codes "\">"

-- what follows the start tag in the line of a constraint
abbrev pub edge_data : ℤ → Label → List ℕ
edge_data most label =
    codes "<data key=\"Type\">requirement</data><data key=\"LabeledValues\">{(" ++ printed_value most ++ codes ", "
    ++ document_label label ++ codes ")}</data></edge>\n"

-- the line of a constraint
abbrev pub edge_line : List (List ℕ) → Constraint → List ℕ
edge_line names c = edge_tag (slice_index_or names c.from []) (slice_index_or names c.to []) ++ edge_data c.most c.label

-- the lines of constraints
abbrev pub edges : List (List ℕ) → List Constraint → List ℕ
edges names constraints = flat_map (edge_line names) constraints

-- the last two lines
abbrev pub tail : List ℕ
tail = codes "</graph>\n</graphml>\n"

-- the canonical document: the deadline, the time-points by number, and the constraints by id
abbrev pub canonical : Labelled → List (List ℕ) → List ℕ
canonical m names =
    head m.base.deadline ++ nodes names m ++ edges names m.base.constraints ++ tail
