use Rattle.std.proofs.Common.{◌≡◌, subst}
use Rattle.std.specs.Prelude.{IfOk}
use Rattle.cstn_lift.specs.Read.{the_labelled}
use Rattle.cstn_history.specs.Histories.{History}
use Rattle.cstn_follow.specs.Following.{verdict_left}
use Rattle.cstn_follow.specs.Pauses.{said_of}
use Rattle.cstn_follow.proofs.executions.Execution.said_at.Goals as goal

pub returns : goal.returns
returns c =
    let a = c.args.self.now in
    record {
      said = subst (λ (h : History). IfOk c.said_after.result (λ o. o ≡ said_of (verdict_left (the_labelled a.network) h a.fresh c.args.cap.entries)))
          c.in_ok-later.ensures.later c.said_after.ensures.said;
    }
