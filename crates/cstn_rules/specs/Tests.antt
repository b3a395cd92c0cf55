-- The rules as functions of their premises, and the refutation of a network as a test.
use Rattle.std.specs.Prelude.{ℕ, Bool, cond, ◌&&◌, ◌==◌, Option, Some, None, slice_index_or, pos, int_lt, nat_lt}
use Rattle.cstn_label.specs.Marks.{is_absent, is_plain}
use Rattle.cstn_label.specs.Labels.{joined}
use Rattle.cstn_label.specs.Bounds.{Bound}
use Rattle.cstn_net.specs.Networks.{Network, Constraint, count, limit}
use Rattle.cstn_rules.specs.Rules.{finished, carried, awaited}

-- the bound refutes the network
abbrev pub refutes : Network → Bound → Bool
refutes net b = nat_lt b.node (count net) && (is_plain b.label && int_lt (pos (limit net b.node)) b.least)

-- what chain gives, if anything
abbrev pub chain_of : Network → Constraint → Bound → Option Bound
chain_of net c b = cond ((b.node == c.to) && (is_plain b.label && is_plain (joined b.label c.label)))
    (Some (finished net (carried c b))) None

-- what wait gives where `seen` is at the observer of p
abbrev pub wait_for : Network → Option ℕ → Bound → Bound → Option Bound
wait_for net None seen b = None
wait_for net (Some p) seen b = cond (is_absent (b.label p)) None (Some (finished net (awaited net p seen b)))

-- what wait gives, if anything
abbrev pub wait_of : Network → Bound → Bound → Option Bound
wait_of net seen b = wait_for net (slice_index_or net.observes seen.node None) seen b
