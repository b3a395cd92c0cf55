use Rattle.std.proofs.Common.{[], ◌∷◌, ◌++◌, subst, ap, ◌∙◌, ◌+◌}
use Rattle.cstn_net.specs.Networks.{IsWellFormed}
use Rattle.cstn_net.specs.Read.{NetworkParts, the_network}
use Rattle.cstn_plan.specs.Plans.{the_bounds}
use Rattle.cstn_exec.specs.Runs.{Run}
use Rattle.cstn_exec.specs.Read.{ExecParts, IsRunOf}
use Rattle.cstn_tree.proofs.MakingLemmas.{making_ask}
use Rattle.cstn_tree.proofs.making.Making.ask.Goals as goal

pub see-requires : goal.see-requires
see-requires c =
    let net = the_network c.args.exec.now.net in
    let bounds = the_bounds c.args.exec.now.bounds in
    let run = c.args.exec.now.run in
    let wf = subst (λ (n : NetworkParts). IsWellFormed (the_network n)) c.network.ensures.network c.count.ensures.well_formed in
    let waits = c.requires.waits in
    let first = c.refusals_are_right.ensures.awaiting net bounds run waits.0 c.args.prop.index wf waits.2 in
    record { accepted = c.refusals_are_right.ensures.outcome net run (waits.0 + 1) c.args.prop.index first.awaited }

pub returns-clause-making : goal.returns-clause-making
returns-clause-making c =
    let net = the_network c.args.exec.now.net in
    let bounds = the_bounds c.args.exec.now.bounds in
    let run = c.args.exec.now.run in
    let wf = subst (λ (n : NetworkParts). IsWellFormed (the_network n)) c.network.ensures.network c.count.ensures.well_formed in
    let waits = c.requires.waits in
    let first = c.refusals_are_right.ensures.awaiting net bounds run waits.0 c.args.prop.index wf waits.2 in
    let free = c.refusals_are_right.ensures.outcome net run (waits.0 + 1) c.args.prop.index first.awaited in
    let same = c.in_ok-before.ensures.same in
    making_ask net bounds run c.see.new.exec.run c.args.self.now _ c.args.prop waits.0 waits.1 waits.2 free
    (subst (IsRunOf net) same c.in_ok-before.ensures.run) c.requires.making
    (c.in_ok-push.ensures.items ∙ ap (λ (r : Run). c.args.self.now.asks.items ++ record { before = r; prop = c.args.prop } ∷ []) same)
    c.in_ok-push-2.ensures.items (ap (λ (e : ExecParts). e.run) c.see.ensures.handed)
