use Rattle.std.proofs.Common.{◌≡◌, subst, ap, ◌∙◌}
use Rattle.std.proofs.lemmas.Result.{IfOk-weaker}
use Rattle.cstn_net.specs.Networks.{IsWellFormed}
use Rattle.cstn_net.specs.Read.{the_network}
use Rattle.cstn_rules.specs.Closed.{IsClosed}
use Rattle.cstn_plan.specs.Asked.{AllSound}
use Rattle.cstn_plan.specs.Plans.{the_bounds}
use Rattle.cstn_lift.specs.Lowered.{lowered}
use Rattle.cstn_lift.specs.Read.{the_labelled}
use Rattle.cstn_history.specs.Rest.{rest}
use Rattle.cstn_history.specs.Read.{the_history}
use Rattle.cstn_next.specs.Next.{IsPlannedBy}
use Rattle.cstn_next.proofs.Told.{told_next, told_named, told_awaited, told_ascending, told_done}
use Rattle.cstn_next.proofs.moments.next.Goals as goal

pub returns : goal.returns
returns c =
    let m = the_labelled c.args.network.now in
    let h = the_history c.args.history.now in
    let bounds = the_bounds c.args.plan.now.bounds in
    let fresh = c.requires.planned.0 in
    let net : the_network c.network.result.now ≡ lowered (rest m h fresh) = ap the_network c.network.ensures.network ∙ c.requires.planned.2 in
    let plan : IsPlannedBy m h fresh bounds = record {
      labelled = c.base.ensures.labelled;
      history = c.requires.kept.history;
      left = c.requires.planned.1;
      well_formed = subst IsWellFormed net c.network.ensures.well_formed;
      closed = subst (λ n. IsClosed n bounds) net c.network.ensures.closed;
      sound = subst (λ n. AllSound n bounds) net c.network.ensures.sound;
    } in
    let told = c.told.ensures.told in
    record {
      next = IfOk-weaker c.told.result _ _ (told_next m h fresh bounds plan) told;
      named = IfOk-weaker c.told.result _ _ (told_named m h fresh bounds plan) told;
      awaited = IfOk-weaker c.told.result _ _ (told_awaited m h fresh bounds plan) told;
      ascending = IfOk-weaker c.told.result _ _ (told_ascending m h bounds) told;
      done = IfOk-weaker c.told.result _ _ (told_done m h fresh bounds plan) told;
      told = told;
    }
