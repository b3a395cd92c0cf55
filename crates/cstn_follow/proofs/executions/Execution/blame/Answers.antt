use Rattle.std.proofs.Common.{ℕ, sym, subst}
use Rattle.std.specs.Prelude.{IfOk}
use Rattle.std.specs.List.{Contains}
use Rattle.cstn_check.specs.Givers.{but, is_of}
use Rattle.cstn_follow.specs.Blame.{network_alone}
use Rattle.cstn_history.specs.Continuations.{Can}
use Rattle.cstn_history.specs.Handed.{HasFewConstraints}
use Rattle.cstn_history.specs.Read.{the_history}
use Rattle.cstn_lift.specs.Read.{the_labelled}
use Rattle.cstn_follow.specs.Executions.{ExecutionParts, execution_left}
use Rattle.cstn_follow.proofs.executions.Execution.blame.Goals as goal

pub blame-requires-clause-room : goal.blame-requires-clause-room
blame-requires-clause-room c = subst (λ (e : ExecutionParts). HasFewConstraints (execution_left e)) (sym c.self.view_is) c.requires.room

pub returns-clause-needed : goal.returns-clause-needed
returns-clause-needed c = subst (λ (e : ExecutionParts). IfOk c.blame.result (λ ids. (id : ℕ) → Contains ids.items id
    → Can (network_alone (the_labelled e.network) (but id (is_of ids.items))) (the_history e.history))) c.self.view_is c.blame.ensures.needed
