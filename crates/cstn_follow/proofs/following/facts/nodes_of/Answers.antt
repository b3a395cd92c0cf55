use Rattle.std.proofs.Common.{[], ◌++◌, ap, ◌∙◌}
use Rattle.std.specs.List.{cons_option}
use Rattle.cstn_follow.specs.FactLines.{node_named}
use Rattle.cstn_follow.proofs.Recording.{nodes_turn}
use Rattle.cstn_follow.proofs.following.facts.nodes_of.Goals as goal

pub loop-name-preserved : goal.loop-name-preserved
loop-name-preserved c =
    let nodes = c.loop-name.nodes.items in
    nodes_turn (node_named c.args.names.now) c.args.given.now nodes c.push_some.new.nodes.items c.loop-name.name-index c.name-item.result
    c.loop-name-test.true c.name-item.is c.loop-name.invariant
    (c.in_ok-push_some.ensures ∙ ap (λ o. nodes ++ cons_option o []) (c.node_named.ensures ∙ ap (node_named c.args.names.now) c.as_str.ensures.text))
