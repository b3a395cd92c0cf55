use Rattle.std.proofs.Common.{◌≡◌, ◌++◌}
use Rattle.cstn_net.specs.Read.{the_network}
use Rattle.cstn_lift.specs.Read.{the_labelled}
use Rattle.cstn_save.specs.Canonical.{timed_observations, nodes_below}
use Rattle.cstn_save.proofs.document.push_nodes.Given as goal

abbrev pub invariant-loop-x : goal.invariant-loop-x
invariant-loop-x l = l.text.items ≡ l.fn.text.items ++ nodes_below l.names (timed_observations (the_network l.net.base)) (the_labelled l.net).labels l.x
