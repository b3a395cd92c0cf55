use Rattle.std.proofs.Common.{◌+◌, arith, sym, ◌∙◌}
use Rattle.cstn_net.specs.Read.{the_network}
use Rattle.cstn_exec.proofs.Searching.{awaited_is, awaited_nowhere}
use Rattle.cstn_exec.proofs.executive.Executive.awaited.Goals as goal

pub returns-then-is_awaited : goal.returns-then-is_awaited
returns-then-is_awaited c =
    sym (awaited_is (the_network c.args.self.now.net) c.args.self.now.run (c.args.t + 1) c.loop-index.index (omega arith)
    (sym c.is_awaited.ensures ∙ c.if-is_awaited.true) c.loop-index.invariant)

pub returns : goal.returns
returns c =
    sym (awaited_nowhere (the_network c.args.self.now.net) c.args.self.now.run (c.args.t + 1)
    (λ q below. c.loop-index.invariant q (omega arith)))
