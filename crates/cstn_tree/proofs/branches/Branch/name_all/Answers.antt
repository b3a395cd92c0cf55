use Rattle.std.proofs.Common.{◌≤◌, ◌<◌, length, get_or, sym, arith, refl, ◌∙◌}
use Rattle.cstn_net.specs.Networks.{count, limit}
use Rattle.cstn_net.specs.Read.{the_network}
use Rattle.cstn_tree.proofs.BranchLemmas.{fits_next, placed_more, branch_with, placed_done}
use Rattle.cstn_tree.proofs.branches.Branch.name_all.Goals as goal

pub loop-x-preserved : goal.loop-x-preserved
loop-x-preserved c =
    let net = the_network c.args.net.now in
    let x = (get_or c.args.named.now c.loop-x.x-index (record { 0 = 0 })).0 in
    let inside = c.requires.inside c.loop-x.x-index (record { 0 = 0 }) c.loop-x-test.true in
    let wide = c.loop-x.invariant.branch.wide in
    let within : c.index.result < length c.loop-x.self.moments.items = let at = c.index.ensures.index in omega arith in
    let soon : c.args.t ≤ limit net x = let last = c.limit.ensures.limit in let upto = c.if-t-limit.false in omega arith in
    record {
      fits = fits_next net c.loop-x.self.moments.items c.args.t c.args.named.now c.loop-x.x-index (record { 0 = 0 }) c.loop-x-test.true c.index.result c.index.ensures.index
          within (sym c.is_named.ensures ∙ c.if-is_named.false) soon ∙ c.loop-x.invariant.fits;
      placed = placed_more net c.loop-x.self.moments.items c.args.t c.args.named.now c.loop-x.x-index (record { 0 = 0 }) c.loop-x-test.true c.index.result c.index.ensures.index
          within ∙ c.loop-x.invariant.placed;
      asked = c.loop-x.invariant.asked;
      from = c.loop-x.invariant.from;
      branch = branch_with (count net) c.loop-x.self _ c.index.result c.args.t c.loop-x.invariant.branch (let most = c.limit.ensures.in_time in let upto = c.if-t-limit.false in omega arith) refl;
    }

pub returns-clause-placed : goal.returns-clause-placed
returns-clause-placed c = λ h.
    placed_done c.loop-x.self.moments.items c.args.t c.args.named.now c.loop-x.x-index c.loop-x-test.false ∙ c.loop-x.invariant.placed
