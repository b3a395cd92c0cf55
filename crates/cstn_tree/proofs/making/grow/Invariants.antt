use Rattle.std.proofs.Common.{◌≡◌}
use Rattle.cstn_net.specs.Read.{the_network}
use Rattle.cstn_plan.specs.Plans.{the_bounds}
use Rattle.cstn_tree.specs.Making.{IsMaking}
use Rattle.cstn_tree.proofs.making.grow.Given as goal

abbrev pub invariant-loop : goal.invariant-loop
invariant-loop l = record {
  making : IsMaking (the_network l.initial.exec.net) (the_bounds l.initial.exec.bounds) l.exec.run l.making;
  same : l.exec ≡ record l.initial.exec { run = l.exec.run; named = l.exec.named };
}
