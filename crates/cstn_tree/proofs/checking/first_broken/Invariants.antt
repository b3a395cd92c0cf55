use Rattle.std.proofs.Common.{◌≡◌, ◌+◌, ◌∷◌, [], map, drop}
use Rattle.cstn_net.specs.Networks.{count}
use Rattle.cstn_net.specs.Read.{the_network}
use Rattle.cstn_tree.specs.Good.{branch_begun}
use Rattle.cstn_tree.specs.Walks.{first_broken_in}
use Rattle.cstn_outline.specs.Read.{the_tree_line}
use Rattle.cstn_tree.specs.Branches.{the_branches, IsWalkOf}
use Rattle.cstn_tree.proofs.checking.first_broken.Given as goal

abbrev pub invariant-loop-k : goal.invariant-loop-k
invariant-loop-k l = record {
  first : first_broken_in (the_network l.net) (the_branches l.walk) (map the_tree_line (drop l.k l.lines)) (l.k + 2) ≡ first_broken_in (the_network l.net) (branch_begun ∷ []) (map the_tree_line l.lines) 2;
  walk : IsWalkOf (count (the_network l.net)) l.walk;
}
