use Rattle.std.proofs.Common.{◌≡◌, subst}
use Rattle.std.specs.Prelude.{IfOk, IfErr}
use Rattle.cstn_lift.specs.Read.{the_labelled}
use Rattle.cstn_history.specs.Handed.{IsRestRefusal}
use Rattle.cstn_follow.specs.Executions.{ExecutionParts, execution_left}
use Rattle.cstn_follow.proofs.executions.Execution.rest.Goals as goal

pub returns-clause-rest : goal.returns-clause-rest
returns-clause-rest c = subst (λ (e : ExecutionParts). IfOk c.rest.result (λ l. the_labelled l ≡ execution_left e)) c.self.view_is c.rest.ensures.rest

pub returns-clause-refused : goal.returns-clause-refused
returns-clause-refused c = subst (λ (e : ExecutionParts). IfErr c.rest.result (IsRestRefusal (execution_left e))) c.self.view_is c.rest.ensures.refused
