use Rattle.std.proofs.Common.{arith, sym}
use Rattle.cstn_net.specs.Read.{the_network}
use Rattle.cstn_exec.proofs.Knowing.{observed_from}
use Rattle.cstn_exec.proofs.executive.Executive.ready_at.Goals as goal

pub overflow_add-result : goal.overflow_add-result
overflow_add-result c =
    let at = observed_from (the_network c.args.self.now.net) c.is_right.ensures.well_formed.network c.args.self.now.run
    c.args.p.index c.in-Some.m (sym c.in-Some.ensures.observed) in
    let soon = c.is_right.ensures.well_formed.soon at.0 c.args.p.index at.1 in
    let early = c.in-Some.ensures.in_time in
    let is = c.reaction.ensures in
    omega arith
