use Rattle.std.proofs.Common.{List, map, refl, ap, ◌∙◌}
use Rattle.cstn_label.specs.declared.nodes.NodeId.{NodeId}
use Rattle.cstn_tree.proofs.MakingLemmas.{making_moved}
use Rattle.cstn_tree.proofs.making.Making.name.Goals as goal

pub returns-clause-making : goal.returns-clause-making
returns-clause-making c =
    let names = c.new.ensures.nodes ∙ ap (λ (l : List NodeId). map (λ (x : NodeId). x.0) l) c.in_ok-nodes.ensures.items ∙ c.named.ensures.named in
    making_moved c.args.exec.now c.args.self.now _ c.args.t c.new.result c.requires.moved names refl
    c.in_ok-push.ensures.items
