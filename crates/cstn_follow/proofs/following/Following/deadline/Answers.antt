use Rattle.std.proofs.Common.{◌≡◌, length, refl, sym, subst, ap, ◌∙◌}
use Rattle.std.specs.Prelude.{IfOk, OnErr}
use Rattle.std.proofs.lemmas.Result.{IfOk-weaker, on_err_weaker}
use Rattle.cstn_follow.specs.Following.{says}
use Rattle.cstn_follow.specs.PlanLines.{on_deadline}
use Rattle.cstn_follow.specs.Read.{FollowingParts, following_of, the_following}
use Rattle.cstn_follow.specs.Replans.{edited_now, with_due}
use Rattle.cstn_follow.specs.Sessions.{SessionParts}
use Rattle.cstn_follow.specs.Told.{IsSaidOfReplan}
use Rattle.cstn_follow.proofs.Lines.{deadline_said, replan_keeps, unmade_same}
use Rattle.cstn_follow.proofs.following.Following.deadline.Goals as goal

pub invariant_of-self : goal.invariant_of-self
invariant_of-self c =
    let s = c.self.inside.session in
    let e = with_due (edited_now s) c.args.deadline in
    record {
      named = c.self.invariant.named
          ∙ ap length (sym (replan_keeps e s c.deadline-made.new.self c.deadline-made.result c.deadline-made.ensures.due refl));
      few_lines = c.self.invariant.few_lines;
    }

pub returns-clause-says : goal.returns-clause-says
returns-clause-says c =
    let w = c.self.inside in
    let next = c.deadline-made.new.self in
    subst (λ (v : FollowingParts). IfOk c.answer_replanned.result (λ text. on_deadline (the_following v) c.args.deadline
    ≡ says text.items (the_following (following_of next w.names w.lines)))) c.self.view_is
    (IfOk-weaker c.answer_replanned.result _ _
    (λ text said. deadline_said w.names w.lines c.args.deadline w.session next c.deadline-made.result text.items c.deadline-made.ensures.due
    (subst (λ t. IsSaidOfReplan t c.deadline-made.result text.items) c.in_ok-text.ensures.line said)) c.answer_replanned.ensures.said)

pub returns-clause-same : goal.returns-clause-same
returns-clause-same c =
    let w = c.self.inside in
    let next = c.deadline-made.new.self in
    subst (λ (v : FollowingParts). OnErr c.answer_replanned.result (following_of next w.names w.lines ≡ v)) c.self.view_is
    (on_err_weaker c.answer_replanned.result
    (λ refused. ap (λ (s : SessionParts). following_of s w.names w.lines)
    (unmade_same (with_due (edited_now w.session) c.args.deadline) w.session next c.deadline-made.result c.deadline-made.ensures.due refused))
    c.answer_replanned.ensures.refused)
