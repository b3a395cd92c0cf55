-- Lists of bounds in which each follows from earlier ones.
use Rattle.std.specs.Prelude.{ℕ, ◌≡◌, ◌-◌, ◌<◌, List, Some, length, slice_get}
use Rattle.std.specs.List.{Contains}
use Rattle.cstn_label.specs.Bounds.{Bound}
use Rattle.cstn_net.specs.Networks.{Network, Constraint}
use Rattle.cstn_rules.specs.declared.entries.Why.{Why}
use Rattle.cstn_rules.specs.declared.entries.Why.TheVariants.{Base, Chain, Wait}
use Rattle.cstn_rules.specs.Rules.{IsBase, IsChain, IsWait, Refutes}

-- a bound with the rule that gave it
pub record Entry : Type 0 where
  pub bound : Bound
  pub why : Why

-- the bound stands at the place i, which is before the place k
pub record IsEarlier (steps : List Entry) (k i : ℕ) (b : Bound) : Type 0 where
  pub before : i < k
  pub entry : Entry
  pub there : slice_get steps i ≡ Some entry
  pub bound : entry.bound ≡ b

-- the bound is what the rule gives from bounds before the place k
abbrev pub Follows : Network → List Entry → ℕ → Why → Bound → Type 0
Follows net steps k Base r = IsBase net r
Follows net steps k (Chain id i) r =
    (c : Constraint) × (b : Bound) × Contains net.constraints c × (c.id ≡ id) × IsEarlier steps k i b × IsChain net c b r
Follows net steps k (Wait i j) r =
    (p : ℕ) × (seen : Bound) × (b : Bound) × IsEarlier steps k i seen × IsEarlier steps k j b × IsWait net p seen b r

-- a derivation is a list in which each bound follows from earlier ones by its rule
abbrev pub IsDerivation : Network → List Entry → Type 0
IsDerivation net steps = (k : ℕ) (e : Entry) → slice_get steps k ≡ Some e → Follows net steps k e.why e.bound

-- a refutation is a derivation whose last bound refutes the network
pub record IsRefutation (net : Network) (steps : List Entry) : Type 0 where
  pub derivation : IsDerivation net steps
  pub last : Entry
  pub is_last : slice_get steps (length steps - 1) ≡ Some last
  pub refutes : Refutes net last.bound
