-- Labelled networks with other constraints.
use Rattle.cstn_net.specs.Networks.{Network}
use Rattle.cstn_lift.specs.Labelled.{Labelled}

-- the labels on the time-points of another network, which has the same
abbrev pub with_base : Labelled → Network → Labelled
with_base m net = record m { base = net }
