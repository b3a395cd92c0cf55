-- Labelled networks with a further time-point, and what has happened in them.
use Rattle.std.specs.Prelude.{[], ◌∷◌, ◌++◌, None}
use Rattle.cstn_label.specs.Labels.{empty}
use Rattle.cstn_net.specs.Networks.{Network}
use Rattle.cstn_lift.specs.Labelled.{Labelled}
use Rattle.cstn_history.specs.Read.{HistoryParts}

-- the network with a further time-point behind its last one, which observes nothing
abbrev pub with_point : Network → Network
with_point net = record net { observes = net.observes ++ None ∷ [] }

-- the labelled network with a further time-point behind its last one, which observes nothing and has no label
abbrev pub stepped : Labelled → Labelled
stepped m = record {
  base = with_point m.base;
  labels = m.labels ++ empty ∷ [];
}

-- what has happened, with a place for a further time-point, which isn't done
abbrev pub with_place : HistoryParts → HistoryParts
with_place h = record h { done = h.done ++ None ∷ []; ready = h.ready ++ 0 ∷ [] }
