use Rattle.std.proofs.Common.{◌-◌, length}
use Rattle.cstn_label.specs.Read.{the_bound}
use Rattle.cstn_net.specs.Links.{ends}
use Rattle.cstn_closed.specs.Closed.{the_listed_bounds}
use Rattle.cstn_closed.proofs.InstanceLemmas.{IsChainedAt}
use Rattle.cstn_closed.proofs.WalkLemmas.{IsWalked}
use Rattle.cstn_closed.proofs.instances.uncovered_chain.Given as goal

abbrev pub invariant-loop-place : goal.invariant-loop-place
invariant-loop-place l = IsWalked (IsChainedAt l.net (the_listed_bounds l.closed) (the_bound l.b)) (ends l.net.constraints) l.b.node.0 l.place

abbrev pub decreases-loop-place : goal.decreases-loop-place
decreases-loop-place l = length l.net.constraints - l.place
