use Rattle.cstn_tree.proofs.OneTree.{one_tree, some_tree}
use Rattle.cstn_tree.proofs.SameTree.{the_tree_is_one, consistent_tree, tree_consistent}
use Rattle.cstn_tree.proofs.laws.networks_have_one_tree.Goals as goal

pub returns : goal.returns
returns c = record {
  one = one_tree;
  some = λ net bounds table. some_tree net bounds table (c.due_is_exact.ensures.waits net bounds);
  same = the_tree_is_one;
  consistent = λ net wf. (consistent_tree c.due_is_exact.ensures.waits net wf, λ has. tree_consistent net has.0 has.1);
}
