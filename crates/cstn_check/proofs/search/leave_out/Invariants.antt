use Rattle.std.proofs.Common.{◌≡◌, drop}
use Rattle.cstn_net.specs.Read.{the_network}
use Rattle.cstn_check.specs.Givers.{ids_of, IsPart}
use Rattle.cstn_check.specs.Needs.{IfNo, Stands}
use Rattle.cstn_check.specs.Search.{left_by, left_over}
use Rattle.cstn_check.proofs.search.leave_out.Given as goal

abbrev pub invariant-loop-k : goal.invariant-loop-k
invariant-loop-k g l = record {
  ids : l.ids.items ≡ ids_of (the_network l.fn.net);
  part : IsPart (the_network l.fn.net) (the_network l.left.net);
  reached : left_by (g.T.Trial.says l.trial) (drop l.k (ids_of (the_network l.fn.net))) (the_network l.left.net) ≡ left_over (g.T.Trial.says l.trial) (the_network l.fn.net);
  stands : IfNo l.left.last (Stands (g.T.Trial.says l.trial) (the_network l.left.net));
}
