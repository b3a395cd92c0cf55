use Rattle.std.proofs.Common.{◌≡◌, ◌+◌, ◌<◌, ◌^◌, length}
use Rattle.cstn_graphml.specs.Networks.{with_points}
use Rattle.cstn_graphml.proofs.networks.put_points.Given as goal

abbrev pub invariant-loop-observed : goal.invariant-loop-observed
invariant-loop-observed l = record {
  put : with_points l.observes l.fn.builder ≡ with_points l.rest l.builder;
  room : length l.builder.points + length l.rest < 2 ^ 32;
}

abbrev pub decreases-loop-observed : goal.decreases-loop-observed
decreases-loop-observed l = length l.rest
