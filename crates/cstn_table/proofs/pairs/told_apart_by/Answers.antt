use Rattle.std.proofs.Common.{◌≡◌, ◌+◌, ◌*◌, arith, sym, ap, ◌∙◌, get_or}
use Rattle.cstn_net.specs.Networks.{count}
use Rattle.cstn_net.specs.Read.{the_network}
use Rattle.cstn_table.specs.Tables.{row_at}
use Rattle.cstn_table.proofs.RaiseLemmas.{row_small}
use Rattle.cstn_table.proofs.pairs.told_apart_by.Goals as goal

pub overflow_add-result : goal.overflow_add-result
overflow_add-result c =
    let net = the_network c.args.net.now in
    let small = row_small net c.count.ensures.well_formed c.args.moments.now c.requires.low c.args.row c.args.x.0 c.requires.row c.requires.x in
    let at : get_or c.args.moments.now c.place.result 0 ≡ row_at (count net) c.args.moments.now c.args.row c.args.x.0 =
    ap (λ k. get_or c.args.moments.now k 0) (c.place.ensures ∙ ap (λ n. c.args.row * n + c.args.x.0) c.count.ensures.count) in
    let soon = c.count.ensures.well_formed.soon c.args.x.0 c.in-Some.p.index (record { what = sym c.in-Some.ensures.observes }) in
    let reaction = c.reaction.ensures.reaction in
    omega arith
