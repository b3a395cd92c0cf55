-- Searches by a test that says yes, no, or nothing where a log is full: constraints are left out in turn, and a span is halved.
use Rattle.std.specs.Prelude.{ℕ, zero, suc, ◌+◌, ◌-◌, ◌/◌, Bool, true, false, nat_lt, List, [], ◌∷◌, Option, None, Some, option_map, option_and_then, if◌then◌else◌}
use Rattle.cstn_net.specs.Networks.{Network}
use Rattle.cstn_check.specs.Givers.{ids_of, network_without}
use Rattle.cstn_check.specs.declared.halving.Span.{Span}

-- ---- constraints that are left out

-- the network by what was said without the constraint of the id: it stays after a yes, and is left out after a no
abbrev pub narrowed : Option Bool → ℕ → Network → Option Network
narrowed None id net = None
narrowed (Some true) id net = Some net
narrowed (Some false) id net = Some (network_without id net)

-- the network that is left once the constraint of each of these ids was tried in turn; none where a try says nothing
abbrev pub left_by : (Network → Option Bool) → List ℕ → Network → Option Network
left_by says [] net = Some net
left_by says (id ∷ ids) net = option_and_then (left_by says ids) (narrowed (says (network_without id net)) id net)

-- the network that is left once each constraint was tried, in ascending order of the ids
abbrev pub left_over : (Network → Option Bool) → Network → Option Network
left_over says net = left_by says (ids_of net) net

-- the ids of the constraints that are left
abbrev pub ids_left : (Network → Option Bool) → Network → Option (List ℕ)
ids_left says net = option_map ids_of (left_over says net)

-- ---- a span that is halved

-- the moment half-way, rounded up
abbrev pub middle : Span → ℕ
middle s = (s.low + s.high + 1) / 2

-- what is left to be tried once the middle was: from it on after a yes, and before it after a no
abbrev pub halved : Span → Option Bool → Option Span
halved s None = None
halved s (Some true) = Some (record { low = middle s; high = s.high })
halved s (Some false) = Some (record { low = s.low; high = middle s - 1 })

-- the moment that is left once the middle was tried n times, or as often as more than one was left; none where a try says nothing
unfoldable pub halving : (ℕ → Option Bool) → ℕ → Span → Option ℕ
halving says zero s = Some s.low
halving says (suc n) s = if nat_lt s.low s.high then option_and_then (halving says n) (halved s (says (middle s))) else Some s.low
