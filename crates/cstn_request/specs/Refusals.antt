-- What is said of a document that is refused.
use Rattle.std.specs.Prelude.{ℕ, List, [], ◌∷◌, ◌++◌, slice_index_or, codes, decimal}
use Rattle.cstn_label.specs.Letters.{letter_of}
use Rattle.cstn_net.specs.declared.errors.NetError.{NetError}
use Rattle.cstn_net.specs.declared.errors.NetError.TheVariants.{TooManyNodes, NoOrigin, TooManyConstraints, DeadlineRange, ValueRange, NotObserved, TwoObservers, NotPlain, ReactionRange, Memory}
use Rattle.cstn_text.specs.PrintedNames.{printed_name}
use Rattle.cstn_element.specs.Results.{Refusal}
use Rattle.cstn_element.specs.Results.Refusal.{not_utf8, shape, name_twice, unknown_node, bad_value, label_text, contingent, edge_type, no_deadline}
use Rattle.cstn_lift.specs.declared.errors.LiftError.{LiftError}
use Rattle.cstn_lift.specs.declared.errors.LiftError.TheVariants.{OriginLabel, NotPlain as NotPlainLabel, NotObserved as NotObservedLabel, Circle, Never, TooManyConstraints as TooManyLowered, Memory as NoMemory}

-- a refusal at a place of the document
abbrev pub at_place : ℕ → ℕ → List ℕ
at_place kind at = codes "document X" ++ decimal kind ++ codes " at " ++ decimal at

-- a refusal by the grammar
abbrev pub refusal_text : Refusal → List ℕ
refusal_text (not_utf8 at) = at_place 1 at
refusal_text (shape at) = at_place 2 at
refusal_text (name_twice at) = at_place 3 at
refusal_text (unknown_node at) = at_place 4 at
refusal_text (bad_value at) = at_place 5 at
refusal_text (label_text at) = at_place 6 at
refusal_text (contingent at) = at_place 7 at
refusal_text (edge_type at) = at_place 8 at
refusal_text no_deadline = codes "document X9"

-- why a network is refused, with a number
abbrev pub with_number : ℕ → ℕ → List ℕ
with_number kind n = codes "N" ++ decimal kind ++ codes " " ++ decimal n

-- the name of a time-point in its printed form
abbrev pub printed : List (List ℕ) → ℕ → List ℕ
printed names x = printed_name (slice_index_or names x [])

-- why a network is refused, under the names of its time-points
abbrev pub network_fault : List (List ℕ) → NetError → List ℕ
network_fault names TooManyNodes = codes "N1"
network_fault names NoOrigin = codes "N2"
network_fault names TooManyConstraints = codes "N3"
network_fault names (DeadlineRange deadline) = with_number 4 deadline
network_fault names (ValueRange constraint) = with_number 5 constraint
network_fault names (NotObserved prop) = codes "N6 " ++ letter_of prop.index ∷ []
network_fault names (TwoObservers prop first second) =
    codes "N7 " ++ letter_of prop.index ∷ 32 ∷ printed names first.0 ++ 32 ∷ printed names second.0
network_fault names (NotPlain constraint) = with_number 8 constraint
network_fault names (ReactionRange node) = codes "N9 " ++ printed names node.0
network_fault names (Memory e) = []

-- why the labels of time-points are refused, under the names of these
abbrev pub label_fault : List (List ℕ) → LiftError → List ℕ
label_fault names OriginLabel = codes "L1"
label_fault names (NotPlainLabel node) = codes "L2 " ++ printed names node.0
label_fault names (NotObservedLabel node prop) = codes "L3 " ++ printed names node.0 ++ 32 ∷ letter_of prop.index ∷ []
label_fault names (Circle node) = codes "L4 " ++ printed names node.0
label_fault names (Never node) = codes "L5 " ++ printed names node.0
label_fault names TooManyLowered = codes "L6"
label_fault names (NoMemory e) = []

-- a refusal of the document's network, under the names of its time-points
abbrev pub fault_text : List (List ℕ) → NetError → List ℕ
fault_text names error = codes "document X10 " ++ network_fault names error

-- a refusal of the labels of the document's time-points, under their names
abbrev pub label_fault_text : List (List ℕ) → LiftError → List ℕ
label_fault_text names error = codes "document X12 " ++ label_fault names error
