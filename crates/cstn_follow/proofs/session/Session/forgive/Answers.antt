use Rattle.std.proofs.Common.{length, arith, subst, ap}
use Rattle.cstn_lift.specs.Read.{the_labelled}
use Rattle.cstn_history.specs.Read.{the_history}
use Rattle.cstn_follow.specs.Sessions.{IsSession}
use Rattle.cstn_follow.proofs.Forgave.{few_broken}
use Rattle.cstn_follow.proofs.Found.{followed_session}
use Rattle.cstn_follow.proofs.session.Session.forgive.Goals as goal

pub overflow_cast-len : goal.overflow_cast-len
overflow_cast-len c =
    let w = c.self.inside in
    let s = c.args.self.now in
    let good : IsSession s = subst IsSession c.self.view_is (followed_session w.execution w.cap.entries w.edits w.finding c.self.invariant) in
    let few = few_broken (the_labelled s.network) (the_history s.history) good.execution.labelled in
    let long = ap length c.in_ok-ids.ensures.broken in
    omega (arith, few, long, c.len.ensures)
