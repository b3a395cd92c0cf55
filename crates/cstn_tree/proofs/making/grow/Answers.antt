use Rattle.std.proofs.Common.{List, [], map, refl, sym, subst}
use Rattle.cstn_net.specs.Read.{the_network}
use Rattle.cstn_plan.specs.Plans.{the_bounds}
use Rattle.cstn_exec.specs.Read.{ExecParts}
use Rattle.cstn_tree.specs.Made.{IsGrownTree, IsTreeOf}
use Rattle.cstn_outline.specs.Read.{the_tree_line, the_tree}
use Rattle.cstn_outline.specs.Trees.{TreeLine}
use Rattle.cstn_tree.proofs.MakeLemmas.{grown_end}
use Rattle.cstn_tree.proofs.MakingLemmas.{making_first}
use Rattle.cstn_tree.proofs.making.grow.Goals as goal

pub loop-init : goal.loop-init
loop-init c = record {
  making = making_first (the_network c.args.exec.now.net) (the_bounds c.args.exec.now.bounds) c.args.exec.now.run _ c.requires.started c.new.ensures.items c.new-2.ensures.items;
  same = refl;
}

pub new-requires-in-Ok-false : goal.new-requires-in-Ok-false
new-requires-in-Ok-false c = record {
  whole =
      (grown_end (the_network c.loop.exec.net) (the_bounds c.loop.exec.bounds) (map the_tree_line c.step.new.self.lines.items)
      (c.in-Ok-false.ensures.ends c.in-Ok-false.field-0-test)).0;
}

pub returns-in-Ok-false-clause-tree : goal.returns-in-Ok-false-clause-tree
returns-in-Ok-false-clause-tree c =
    subst (λ (ls : List TreeLine). IsTreeOf (the_network c.args.exec.now.net) (the_bounds c.args.exec.now.bounds) (the_tree ls)) (sym c.new-in-Ok-false.ensures.lines)
    (grown_end (the_network c.args.exec.now.net) (the_bounds c.args.exec.now.bounds) (map the_tree_line c.step.new.self.lines.items)
    (subst (λ (e : ExecParts). IsGrownTree (the_network e.net) (the_bounds e.bounds) (map the_tree_line c.step.new.self.lines.items) []) c.loop.invariant.same
    (c.in-Ok-false.ensures.ends c.in-Ok-false.field-0-test))).1
