use Rattle.std.proofs.Common.{◌∷◌, ◌++◌, ap, ◌∙◌}
use Rattle.std.specs.Prelude.{slice_index_or}
use Rattle.std.proofs.lemmas.List.{get_or_default}
use Rattle.cstn_label.specs.declared.nodes.NodeId.{NodeId}
use Rattle.cstn_text.specs.PrintedNames.{printed_name}
use Rattle.cstn_follow.specs.Following.{name_of_point}
use Rattle.cstn_follow.proofs.Listed.{names_turn}
use Rattle.cstn_follow.proofs.lists.put_names.Goals as goal

pub loop-x-preserved : goal.loop-x-preserved
loop-x-preserved c =
    let nodes = c.args.nodes.now in
    let i = c.loop-x.x-index in
    let origin : NodeId = record { 0 = 0 } in
    let x = slice_index_or nodes i origin in
    names_turn (λ n. 32 ∷ printed_name (name_of_point c.args.names.now n)) nodes c.args.text.now.items c.loop-x.text.items c.put_name.new.text.items i x
    c.loop-x-test.true (get_or_default nodes i origin x c.loop-x-test.true) c.loop-x.invariant
    (c.in_ok-put_name.ensures ∙ ap (λ name. c.loop-x.text.items ++ 32 ∷ printed_name name) c.name_of_point.ensures)
