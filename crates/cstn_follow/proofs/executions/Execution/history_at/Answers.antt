use Rattle.std.proofs.Common.{sym, subst}
use Rattle.cstn_lift.specs.Read.{the_labelled}
use Rattle.cstn_history.specs.Read.{HistoryParts, IsKeptFor}
use Rattle.cstn_follow.specs.Executions.{ExecutionParts}
use Rattle.cstn_follow.proofs.executions.Execution.history_at.Goals as goal

pub returns-clause-kept : goal.returns-clause-kept
returns-clause-kept c =
    let w = c.self.inside in
    let was = subst (λ (h : HistoryParts). IsKeptFor (the_labelled w.network) h) (sym c.in_ok-later.ensures.equal) c.self.invariant.kept in
    subst (λ (e : ExecutionParts). IsKeptFor (the_labelled e.network) c.pass.new.self) c.self.view_is (c.pass.ensures.kept (the_labelled w.network) was)
