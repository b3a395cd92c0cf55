-- The types of edges.
use Rattle.std.specs.Prelude.{ℕ, Bool, ◌||◌, List, [], Option, Some, None, if◌then◌else◌, codes}
use Rattle.cstn_markup.specs.Bytes.{is_same}
use Rattle.cstn_element.specs.declared.edge_types.EdgeType.{EdgeType}
use Rattle.cstn_element.specs.declared.edge_types.EdgeType.TheVariants.{Kept, PassedOver, Contingent}

abbrev pub is_kept_type : List ℕ → Bool
is_kept_type bytes = is_same bytes [] || is_same bytes (codes "requirement") || is_same bytes (codes "normal") || is_same bytes (codes "constraint")

abbrev pub is_passed_type : List ℕ → Bool
is_passed_type bytes = is_same bytes (codes "derived") || is_same bytes (codes "internal")

-- what becomes of an edge whose type is this word; None where the word is no type
abbrev pub edge_type_of : List ℕ → Option EdgeType
edge_type_of bytes =
    if is_kept_type bytes then Some Kept else
    if is_passed_type bytes then Some PassedOver else
    if is_same bytes (codes "contingent") then Some Contingent else None
