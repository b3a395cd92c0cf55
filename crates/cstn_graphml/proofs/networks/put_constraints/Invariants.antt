use Rattle.std.proofs.Common.{◌≡◌, ◌+◌, ◌<◌, ◌^◌, length}
use Rattle.std.specs.List.{All}
use Rattle.cstn_graphml.specs.Networks.{with_drafts}
use Rattle.cstn_graphml.proofs.networks.put_constraints.Given as goal

abbrev pub invariant-loop-c : goal.invariant-loop-c
invariant-loop-c l = record {
  put : with_drafts l.constraints l.fn.builder ≡ with_drafts l.rest l.builder;
  room : length l.builder.drafts + length l.rest < 2 ^ 32;
  among : All (λ c. (c.from < length l.builder.points) × (c.to < length l.builder.points)) l.rest;
}

abbrev pub decreases-loop-c : goal.decreases-loop-c
decreases-loop-c l = length l.rest
