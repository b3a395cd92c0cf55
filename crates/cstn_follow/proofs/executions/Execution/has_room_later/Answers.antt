use Rattle.std.proofs.Common.{◌≡◌, true, false, sym, subst}
use Rattle.std.specs.Prelude.{max}
use Rattle.cstn_lift.specs.Read.{the_labelled}
use Rattle.cstn_history.specs.Facts.{at_now}
use Rattle.cstn_history.specs.Histories.{History}
use Rattle.cstn_history.specs.Read.{the_history}
use Rattle.cstn_follow.specs.Executions.{ExecutionParts}
use Rattle.cstn_follow.specs.Following.{is_within_limits}
use Rattle.cstn_follow.proofs.Edited.{fits_within}
use Rattle.cstn_follow.proofs.Found.{refused_within}
use Rattle.cstn_follow.proofs.executions.Execution.has_room_later.Goals as goal

pub returns-in-Ok : goal.returns-in-Ok
returns-in-Ok c =
    let w = c.self.inside in
    let a = c.args.self.now in
    let later = the_history c.in_ok-later.later in
    record {
      room = sym (subst (λ (e : ExecutionParts). is_within_limits (the_labelled e.network) (at_now (the_history a.history) (max a.history.time 1)) e.fresh ≡ true)
          c.self.view_is (subst (λ (g : History). is_within_limits (the_labelled w.network) g w.fresh ≡ true) c.in_ok-later.ensures.later
          (fits_within (the_labelled w.network) later w.fresh c.self.invariant.few c.in-Ok.ensures.few)));
    }

pub returns-in-Err-TooManyConstraints : goal.returns-in-Err-TooManyConstraints
returns-in-Err-TooManyConstraints c =
    let w = c.self.inside in
    let a = c.args.self.now in
    let later = the_history c.in_ok-later.later in
    let e = c.in-Err-TooManyConstraints in
    record {
      room = sym (subst (λ (e : ExecutionParts). is_within_limits (the_labelled e.network) (at_now (the_history a.history) (max a.history.time 1)) e.fresh ≡ false)
          c.self.view_is (subst (λ (g : History). is_within_limits (the_labelled w.network) g w.fresh ≡ false) c.in_ok-later.ensures.later
          (refused_within (the_labelled w.network) later w.fresh e.field-0 e.ensures.refused e.field-0-is)));
    }
