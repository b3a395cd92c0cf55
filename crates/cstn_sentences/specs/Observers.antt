-- The table of observers, while it is filled.
use Rattle.std.specs.Prelude.{ℕ, List, Option, Some, None, is_some, slice_index_or, slice_set, if◌then◌else◌}
use Rattle.cstn_graphml.specs.DrawnGraph.{Observation}

-- the table with what a time-point observes, unless an earlier one does
abbrev pub with_observer : ℕ → Option Observation → List (Option (ℕ × ℕ)) → List (Option (ℕ × ℕ))
with_observer x None table = table
with_observer x (Some o) table = if is_some (slice_index_or table o.prop None) then table else slice_set table o.prop (Some (x, o.reaction))
