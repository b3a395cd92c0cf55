use Rattle.std.proofs.Common.{◌≡◌, length, sym, subst, ap, ◌∙◌}
use Rattle.std.specs.Prelude.{Ok, IfOk, OnErr}
use Rattle.std.proofs.lemmas.Result.{IfOk-weaker, on_err_weaker}
use Rattle.cstn_lift.specs.Read.{the_labelled}
use Rattle.cstn_change.specs.Changes.{HasTimePointEnds}
use Rattle.cstn_change.specs.ChangeLines.{accepted_text}
use Rattle.cstn_change.specs.Read.{the_change}
use Rattle.cstn_reply.specs.Texts.{line}
use Rattle.cstn_follow.specs.Following.{says}
use Rattle.cstn_follow.specs.PlanLines.{on_edit}
use Rattle.cstn_follow.specs.Read.{FollowingParts, following_of, the_following}
use Rattle.cstn_follow.specs.Sessions.{SessionParts}
use Rattle.cstn_follow.specs.Told.{IsSaidOfEdit}
use Rattle.cstn_follow.proofs.Lines.{change_said, change_keeps, unchanged_same}
use Rattle.cstn_follow.proofs.following.Following.edit.Goals as goal

pub edit-made-requires : goal.edit-made-requires
edit-made-requires c = record {
  between = subst (λ (v : FollowingParts). HasTimePointEnds (the_labelled v.network).base (the_change c.args.change)) (sym c.self.view_is) c.requires.between;
}

pub invariant_of-self : goal.invariant_of-self
invariant_of-self c =
    let s = c.self.inside.session in
    record {
      named = c.self.invariant.named ∙ ap length (sym (change_keeps (the_change c.args.change) s c.edit-made.new.self c.edit-made.result c.edit-made.ensures.edited));
      few_lines = c.self.invariant.few_lines;
    }

pub returns-clause-says : goal.returns-clause-says
returns-clause-says c =
    let w = c.self.inside in
    let next = c.edit-made.new.self in
    let change = the_change c.args.change in
    let accepted = c.in_ok-text.ensures.line ∙ ap (λ n. line (accepted_text n change)) c.fresh.ensures.fresh in
    subst (λ (v : FollowingParts). IfOk c.answer_edited.result (λ text. on_edit (the_following v) (Ok change)
    ≡ says text.items (the_following (following_of next w.names w.lines)))) c.self.view_is
    (IfOk-weaker c.answer_edited.result _ _
    (λ text said. change_said w.names w.lines change w.session next c.edit-made.result text.items c.edit-made.ensures.edited
    (subst (λ t. IsSaidOfEdit t c.edit-made.result text.items) accepted said)) c.answer_edited.ensures.said)

pub returns-clause-same : goal.returns-clause-same
returns-clause-same c =
    let w = c.self.inside in
    let next = c.edit-made.new.self in
    subst (λ (v : FollowingParts). OnErr c.answer_edited.result (following_of next w.names w.lines ≡ v)) c.self.view_is
    (on_err_weaker c.answer_edited.result
    (λ refused. ap (λ (s : SessionParts). following_of s w.names w.lines)
    (unchanged_same (the_change c.args.change) w.session next c.edit-made.result c.edit-made.ensures.edited refused)) c.answer_edited.ensures.refused)
