use Rattle.std.proofs.Common.{List, get_or, sym, ap, ◌∙◌}
use Rattle.std.proofs.lemmas.Bool.{false≢true}
use Rattle.std.proofs.lemmas.List.{take_all}
use Rattle.cstn_label.specs.declared.nodes.NodeId.{NodeId}
use Rattle.cstn_tree.specs.declared.starts.End.{End}
use Rattle.cstn_outline.specs.Trees.{is_named}
use Rattle.cstn_tree.specs.Good.{is_met_so_far}
use Rattle.cstn_tree.specs.Branches.{the_branch}
use Rattle.cstn_outline.specs.Read.{node_numbers}
use Rattle.cstn_tree.specs.Starts.{AllPass}
use Rattle.cstn_tree.proofs.StartLemmas.{not_met, all_met, named_more, named_here}
use Rattle.cstn_tree.proofs.branches.Branch.meets.Goals as goal

pub loop-x-init : goal.loop-x-init
loop-x-init c = λ y there. absurd (false≢true there)

pub returns-then-not-meets_both : goal.returns-then-not-meets_both
returns-then-not-meets_both c =
    let b = the_branch c.args.self.now in
    let named = c.args.named.now in
    let f = c.meets_both.ensures.broken c.if-not-meets_both.true in
    sym (not_met b.placed b.asked (node_numbers named) c.args.net.now.constraints f.0 (get_or named c.loop-x.x-index (record { 0 = 0 })).0
    (named_here named c.loop-x.x-index (record { 0 = 0 }) c.loop-x-test.true) f.1)

pub loop-x-preserved : goal.loop-x-preserved
loop-x-preserved c =
    let b = the_branch c.args.self.now in
    named_more (λ y. (end : End) → AllPass (is_met_so_far b.placed b.asked) end c.args.net.now.constraints y) c.args.named.now c.loop-x.x-index (record { 0 = 0 }) c.loop-x-test.true
    c.loop-x.invariant (c.meets_both.ensures.kept c.if-not-meets_both.false)

pub returns : goal.returns
returns c =
    let b = the_branch c.args.self.now in
    let named = c.args.named.now in
    sym (all_met b.placed b.asked (node_numbers named) c.args.net.now.constraints (λ end y there.
    c.loop-x.invariant y (ap (λ (xs : List NodeId). is_named y (node_numbers xs)) (take_all c.loop-x.x-index named c.loop-x-test.false) ∙ there) end))
