use Rattle.std.proofs.Common.{◌≡◌, length, map, take}
use Rattle.cstn_net.specs.Read.{the_network}
use Rattle.cstn_rules.specs.Read.{the_entry}
use Rattle.cstn_check.specs.Needs.{AreMarked}
use Rattle.cstn_check.proofs.needs.marks_of_steps.Given as goal

abbrev pub invariant-loop-k : goal.invariant-loop-k
invariant-loop-k l = record {
  end : l.k-end ≡ length l.steps;
  size : length l.marks.items ≡ length l.net.constraints;
  marked : AreMarked (the_network l.net) l.marks.items (map the_entry (take l.k l.steps));
}
