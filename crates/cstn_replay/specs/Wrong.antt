-- Wrong steps.
use Rattle.std.specs.Prelude.{ℕ, ◌≡◌, ◌+◌, ◌<◌, List, Some, length, slice_get}
use Rattle.cstn_net.specs.Networks.{Network}
use Rattle.cstn_rules.specs.Derivations.{Entry, Follows, IsDerivation, IsRefutation}

-- the step at the place k, if there is one, follows by its rule
abbrev pub FollowsByItsRule : Network → List Entry → ℕ → Type 0
FollowsByItsRule net steps k = (e : Entry) → slice_get steps k ≡ Some e → Follows net steps k e.why e.bound

-- each step before the place k follows by its rule
abbrev pub AreRightBefore : Network → List Entry → ℕ → Type 0
AreRightBefore net steps k = (i : ℕ) → i < k → FollowsByItsRule net steps i

-- the first step that doesn't follow by its rule
pub record IsFirstWrong (net : Network) (steps : List Entry) (k : ℕ) : Type 0 where
  pub inside : k < length steps
  pub wrong : FollowsByItsRule net steps k → ⊥
  pub before : AreRightBefore net steps k

-- all steps follow, and the last of them, at the place k, doesn't refute the network
pub record EndsInVain (net : Network) (steps : List Entry) (k : ℕ) : Type 0 where
  pub last : k + 1 ≡ length steps
  pub derivation : IsDerivation net steps
  pub vain : IsRefutation net steps → ⊥
