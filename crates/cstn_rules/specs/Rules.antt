-- The rules: how bounds follow from constraints and bounds.
use Rattle.std.specs.Prelude.{ℕ, ◌≡◌, ◌+◌, ◌<◌, Option, None, Some, slice_index_or, pos, ◌+ℤ◌, ◌-ℤ◌, ◌≤ℤ◌, ◌<ℤ◌}
use Rattle.std.specs.Int.{int_min}
use Rattle.cstn_label.specs.Labels.{Label, IsMarked, IsPlain, joined, empty, without}
use Rattle.cstn_label.specs.Bounds.{Bound}
use Rattle.cstn_net.specs.Networks.{Network, Constraint, Observes, count, limit}

-- the label without its mark on what is observed, if anything is
abbrev pub without_own : Option ℕ → Label → Label
without_own None a = a
without_own (Some p) a = without a p

-- a conclusion at an observer loses its mark on what that observes, and a least value above the limit + 1 is cut to that
abbrev pub finished : Network → Bound → Bound
finished net b = record {
  node = b.node;
  least = int_min b.least (pos (limit net b.node + 1));
  label = without_own (slice_index_or net.observes b.node None) b.label;
}

-- base: each time-point is executed at 0 or later
abbrev pub base : ℕ → Bound
base x = record { node = x; least = pos 0; label = empty }

-- the bound is the base of a time-point of the network
pub record IsBase (net : Network) (r : Bound) : Type 0 where
  pub node : r.node < count net
  pub gives : r ≡ base r.node

-- a constraint carries a bound of its `to` over to its `from`
abbrev pub carried : Constraint → Bound → Bound
carried c b = record { node = c.from; least = b.least -ℤ c.most; label = joined b.label c.label }

-- while p isn't known, a time-point waits until p is known, or until the least value of the bound that marks p, if that is less
abbrev pub awaited : Network → ℕ → Bound → Bound → Bound
awaited net p seen b = record {
  node = b.node;
  least = int_min (seen.least +ℤ pos (net.reaction p)) b.least;
  label = joined seen.label (without b.label p);
}

-- chain: the conclusion from a bound at the constraint's `to`, where the two labels are plain together
pub record IsChain (net : Network) (c : Constraint) (b r : Bound) : Type 0 where
  pub at : b.node ≡ c.to
  pub plain : IsPlain b.label
  pub together : IsPlain (joined b.label c.label)
  pub gives : r ≡ finished net (carried c b)

-- wait: the conclusion from a bound at the observer of p, and one that marks p
pub record IsWait (net : Network) (p : ℕ) (seen b r : Bound) : Type 0 where
  pub observes : Observes net seen.node p
  pub marked : IsMarked b.label p
  pub gives : r ≡ finished net (awaited net p seen b)

-- a bound refutes the network where its label is plain and its least value is above its time-point's limit
pub record Refutes (net : Network) (b : Bound) : Type 0 where
  pub node : b.node < count net
  pub plain : IsPlain b.label
  pub above : pos (limit net b.node) <ℤ b.least

-- the bound is at a time-point of the network, with a least value from 0 to the limit + 1
pub record IsBoundOf (net : Network) (b : Bound) : Type 0 where
  pub node : b.node < count net
  pub low : pos 0 ≤ℤ b.least
  pub high : b.least ≤ℤ pos (limit net b.node + 1)
