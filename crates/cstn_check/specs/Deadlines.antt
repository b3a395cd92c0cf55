-- The log of a network at a lower deadline.
use Rattle.std.specs.Prelude.{Bool, cond, ◌+◌, pos, int_lt, List, [], ◌∷◌}
use Rattle.std.specs.List.{list_any}
use Rattle.cstn_label.specs.Bounds.{Bound}
use Rattle.cstn_net.specs.Networks.{Network, limit}
use Rattle.cstn_rules.specs.Derivations.{Entry}

-- the bound is later than the limit of its time-point
abbrev pub is_late : Network → Bound → Bool
is_late net b = int_lt (pos (limit net b.node)) b.least

-- some entry is later than the limit of its time-point
abbrev pub is_any_late : Network → List Entry → Bool
is_any_late net list = list_any (λ e. is_late net e.bound) list

-- the entry with the limit + 1 of its time-point as its least value
abbrev pub past_limit : Network → Entry → Entry
past_limit net e = record { bound = record { node = e.bound.node; least = pos (limit net e.bound.node + 1); label = e.bound.label }; why = e.why }

-- the entries up to the first late one, which is cut to the limit + 1
abbrev pub upto_late : Network → List Entry → List Entry
upto_late net [] = []
upto_late net (e ∷ es) = cond (is_late net e.bound) (past_limit net e ∷ []) (e ∷ upto_late net es)
