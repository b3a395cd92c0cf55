use Rattle.std.proofs.Common.{ap, ◌∙◌, None}
use Rattle.std.specs.Prelude.{slice_index_or}
use Rattle.cstn_net.specs.Read.{NetworkParts, the_network}
use Rattle.cstn_lift.specs.Read.{the_labelled}
use Rattle.cstn_save.specs.Canonical.{timed_observations}
use Rattle.cstn_save.proofs.DocumentLemmas.{nodes_none, nodes_more}
use Rattle.cstn_save.proofs.document.push_nodes.Goals as goal

pub loop-x-init : goal.loop-x-init
loop-x-init c = nodes_none c.args.names.now (timed_observations (the_network c.args.net.now.base)) (the_labelled c.args.net.now).labels c.args.text.now.items

pub loop-x-preserved : goal.loop-x-preserved
loop-x-preserved c =
    nodes_more c.args.names.now (timed_observations (the_network c.args.net.now.base)) (the_labelled c.args.net.now).labels c.loop-x.x c.name.result.now _ _ c.args.text.now.items c.loop-x.text.items _
    c.name.ensures.name (c.observation.ensures ∙ ap (λ (n : NetworkParts). slice_index_or (timed_observations (the_network n)) c.loop-x.x None) c.base-base.ensures.base) c.label.ensures.label c.loop-x.invariant c.in_ok-push_node.ensures
