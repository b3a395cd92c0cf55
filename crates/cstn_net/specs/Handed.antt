-- Builders that were handed a network.
use Rattle.std.specs.Prelude.{ℕ, ◌≡◌, map}
use Rattle.cstn_net.specs.Networks.{Network}
use Rattle.cstn_net.specs.Read.{observed, reaction_of, the_constraint}
use Rattle.cstn_net.specs.Drafts.{BuilderParts, constraints_from}

-- the builder was handed this network
pub record IsHanded (b : BuilderParts) (net : Network) : Type 0 where
  pub deadline : b.deadline ≡ net.deadline
  pub observes : map observed b.points ≡ net.observes
  pub reaction : (p : ℕ) → reaction_of b.points p ≡ net.reaction p
  pub constraints : map the_constraint (constraints_from 0 b.drafts) ≡ net.constraints
