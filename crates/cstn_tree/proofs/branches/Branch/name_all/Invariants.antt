use Rattle.std.proofs.Common.{◌≡◌, drop}
use Rattle.cstn_net.specs.Networks.{count}
use Rattle.cstn_net.specs.Read.{the_network}
use Rattle.cstn_tree.specs.Good.{placed_with}
use Rattle.cstn_tree.specs.Branches.{IsBranchOf, the_branch}
use Rattle.cstn_outline.specs.Read.{node_numbers}
use Rattle.cstn_tree.proofs.BranchLemmas.{may_name}
use Rattle.cstn_tree.proofs.branches.Branch.name_all.Given as goal

abbrev pub invariant-loop-x : goal.invariant-loop-x
invariant-loop-x l = record {
  fits : may_name (the_network l.net) (the_branch l.self).placed l.t (node_numbers (drop l.x-index l.named)) ≡ may_name (the_network l.net) (the_branch l.initial.self).placed l.t (node_numbers l.named);
  placed : placed_with (the_branch l.self).placed l.t (node_numbers (drop l.x-index l.named)) ≡ placed_with (the_branch l.initial.self).placed l.t (node_numbers l.named);
  asked : l.self.asked ≡ l.initial.self.asked;
  from : l.self.from ≡ l.initial.self.from;
  branch : IsBranchOf (count (the_network l.net)) l.self;
}
