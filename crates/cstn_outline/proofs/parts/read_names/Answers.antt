use Rattle.std.proofs.Common.{List, Some, ◌<◌, length, ap, sym, subst, ◌∙◌}
use Rattle.std.specs.List.{All}
use Rattle.std.proofs.lemmas.List.Elements.{All-push}
use Rattle.cstn_label.specs.declared.nodes.NodeId.{NodeId}
use Rattle.cstn_outline.specs.Read.{node_numbers}
use Rattle.cstn_outline.specs.Texts.{tree_names_read}
use Rattle.cstn_outline.proofs.PartLemmas.{after_names, names_on_read, names_wrong, names_last, names_last_wrong}
use Rattle.cstn_outline.proofs.TreeLemmas.{numbers_all}
use Rattle.cstn_outline.proofs.parts.read_names.Goals as goal

pub returns-in_default-read_node-clause-read : goal.returns-in_default-read_node-clause-read
returns-in_default-read_node-clause-read c =
    sym (names_wrong c.args.names.now c.loop-name.nodes.items c.loop-name.left.now c.in-Some.name.now c.in-Some.rest.now c.in-Some.ensures.parts
    (sym c.in_default-read_node.ensures.node)) ∙ c.loop-name.invariant.read

pub loop-name-preserved : goal.loop-name-preserved
loop-name-preserved c = record {
  read =
      ap (λ (xs : List NodeId). after_names xs (tree_names_read c.args.names.now c.in-Some.rest.now)) c.in_ok-push.ensures.items
      ∙ sym (names_on_read c.args.names.now c.loop-name.nodes.items c.loop-name.left.now c.in-Some.name.now c.in-Some.rest.now c.in-Some-read_node.x c.in-Some.ensures.parts
      (sym c.in-Some-read_node.ensures.node)) ∙ c.loop-name.invariant.read;
  inside = subst (λ (xs : List NodeId). All (λ x. x.0 < length c.args.names.now) xs) (sym c.in_ok-push.ensures.items)
      (All-push (λ (x : NodeId). x.0 < length c.args.names.now) c.loop-name.nodes.items c.in-Some-read_node.x c.loop-name.invariant.inside c.in-Some-read_node.ensures.inside);
}

pub loop-name-smaller : goal.loop-name-smaller
loop-name-smaller c = c.in-Some.ensures.shorter

pub returns-in_default-read_node-2-clause-read : goal.returns-in_default-read_node-2-clause-read
returns-in_default-read_node-2-clause-read c =
    sym (names_last_wrong c.args.names.now c.loop-name.nodes.items c.loop-name.left.now c.in_default.ensures.whole (sym c.in_default-read_node-2.ensures.node))
    ∙ c.loop-name.invariant.read

pub returns-clause-read : goal.returns-clause-read
returns-clause-read c =
    ap (λ (xs : List NodeId). Some (node_numbers xs)) c.in_ok-push-2.ensures.items
    ∙ sym (names_last c.args.names.now c.loop-name.nodes.items c.loop-name.left.now c.in-Some-read_node-2.x c.in_default.ensures.whole (sym c.in-Some-read_node-2.ensures.node))
    ∙ c.loop-name.invariant.read

pub returns-clause-inside : goal.returns-clause-inside
returns-clause-inside c =
    numbers_all (length c.args.names.now) c.push-2.new.self.items (subst (λ (xs : List NodeId). All (λ x. x.0 < length c.args.names.now) xs) (sym c.in_ok-push-2.ensures.items)
    (All-push (λ (x : NodeId). x.0 < length c.args.names.now) c.loop-name.nodes.items c.in-Some-read_node-2.x c.loop-name.invariant.inside c.in-Some-read_node-2.ensures.inside))
