use Rattle.std.proofs.Common.{◌≡◌, None, Some, subst}
use Rattle.std.specs.Prelude.{IfOk, IsErrOf}
use Rattle.cstn_follow.specs.Following.{verdict_left}
use Rattle.cstn_history.specs.Read.{the_history}
use Rattle.cstn_history.specs.declared.errors.RestError.TheVariants.{TooManyConstraints}
use Rattle.cstn_lift.specs.Lowered.{lowered}
use Rattle.cstn_lift.specs.Read.{the_labelled}
use Rattle.cstn_follow.specs.Executions.{ExecutionParts, execution_left}
use Rattle.cstn_follow.specs.Findings.{IsFindingOn, verdict_of}
use Rattle.cstn_follow.proofs.executions.Execution.finding_after.Goals as goal

pub returns-clause-finding : goal.returns-clause-finding
returns-clause-finding c = subst (λ (e : ExecutionParts). IfOk c.finding_left.result
    (IsFindingOn c.args.cap.entries (lowered (execution_left (record e { history = c.args.later.now }))))) c.self.view_is c.finding_left.ensures.finding

pub returns-clause-verdict : goal.returns-clause-verdict
returns-clause-verdict c = subst (λ (e : ExecutionParts). IfOk c.finding_left.result (λ f. verdict_left (the_labelled e.network)
    (the_history c.args.later.now) e.fresh c.args.cap.entries ≡ Some (verdict_of f))) c.self.view_is c.finding_left.ensures.verdict

pub returns-clause-many : goal.returns-clause-many
returns-clause-many c = subst (λ (e : ExecutionParts). IsErrOf c.finding_left.result TooManyConstraints
    → verdict_left (the_labelled e.network) (the_history c.args.later.now) e.fresh c.args.cap.entries ≡ None) c.self.view_is c.finding_left.ensures.many
