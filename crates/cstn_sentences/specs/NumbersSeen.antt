-- The numbers of time-points.
use Rattle.std.specs.Prelude.{ℕ, Option}
use Rattle.std.specs.Option.{option_map}
use Rattle.cstn_label.specs.declared.nodes.NodeId.{NodeId}

-- the number of a time-point, if there is one
abbrev pub number_seen : Option NodeId → Option ℕ
number_seen x = option_map (λ y. y.0) x
