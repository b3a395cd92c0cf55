use Rattle.std.proofs.Common.{rules, w32}
use Rattle.std.specs.Prelude.{FitsSigned}
use Rattle.std.proofs.lemmas.Int.{to_z-of_z}
use Rattle.cstn_net.specs.Read.{the_constraint}
use Rattle.cstn_save.proofs.DocumentLemmas.{edge_put}
use Rattle.cstn_save.proofs.document.push_edge.Goals as goal

pub returns : goal.returns
returns c =
    let fits : FitsSigned w32 c.args.c.now.most = search rules in
    edge_put c.args.names.now (the_constraint c.args.c.now) c.name.result.now c.name-2.result.now c.args.text.now.items _ _
    c.name.ensures.name c.name-2.ensures.name c.in_ok-push_edge_tag.ensures (simp to_z-of_z at c.in_ok-push_edge_data.ensures)
