-- What a verdict leaves.
use Rattle.std.specs.Prelude.{◌≡◌, ◌<◌, Bool, not}
use Rattle.std.specs.List.{All}
use Rattle.cstn_net.specs.Networks.{Network, count}
use Rattle.cstn_rules.specs.Derivations.{IsRefutation}
use Rattle.cstn_log.specs.Cuts.{last_with_ancestors}
use Rattle.cstn_refute.specs.Refutations.{RefutationParts, FitsText, the_steps}
use Rattle.cstn_check.specs.Growth.{is_refuted, log_of, load_of}

-- no entry of its log refutes the network: a well-formed one is consistent exactly then
abbrev pub is_consistent : Network → Bool
is_consistent net = not (is_refuted net (log_of net))

-- the refutation that a check of the network leaves
pub record IsRefutationOf (net : Network) (r : RefutationParts) : Type 0 where
  pub part : the_steps r ≡ last_with_ancestors (log_of net)
  pub load : r.load ≡ load_of net
  pub refutes : IsRefutation net (the_steps r)
  pub named : All (λ e. e.bound.node.0 < count net) r.steps
  pub text : FitsText r
