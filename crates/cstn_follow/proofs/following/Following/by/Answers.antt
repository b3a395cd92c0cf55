use Rattle.std.proofs.Common.{◌≡◌, ◌<◌, inl, inr, sym, subst, ap, ◌∙◌}
use Rattle.std.specs.Prelude.{IfOk}
use Rattle.std.specs.Option.{option_map}
use Rattle.std.proofs.lemmas.Result.{IfOk-weaker}
use Rattle.cstn_label.specs.declared.nodes.NodeId.{NodeId}
use Rattle.cstn_net.specs.Networks.{count}
use Rattle.cstn_lift.specs.Read.{the_labelled}
use Rattle.cstn_history.specs.Read.{the_fact_refusal}
use Rattle.cstn_text.specs.Names.{number_of}
use Rattle.cstn_reply.specs.Texts.{full_line}
use Rattle.cstn_follow.specs.Answers.{IsRightLatest, TellsLatest}
use Rattle.cstn_follow.specs.Following.{says}
use Rattle.cstn_follow.specs.Questions.{tells_verdict}
use Rattle.cstn_follow.specs.Read.{FollowingParts, IsFollowing, following_of, the_following}
use Rattle.cstn_follow.specs.Searches.{on_by}
use Rattle.cstn_follow.specs.declared.answers.Latest.{Latest}
use Rattle.cstn_follow.proofs.AskedBy.{named_said, refusal_said, many_said, until_said, tried_said, stuck_said, full_said}
use Rattle.cstn_follow.proofs.Lines.{verdict_is}
use Rattle.cstn_follow.proofs.following.Following.by.Goals as goal

pub returns-in-Until : goal.returns-in-Until
returns-in-Until c =
    let w = c.self.inside in
    let s = the_following (following_of w.session w.names w.lines) in
    let x = c.in-Some.x in
    let good = subst (λ (v : FollowingParts). IsFollowing v) (sym c.self.view_is) c.is_in_order.ensures.following in
    let inside = subst (λ (v : FollowingParts). x.0 < count (the_labelled v.network).base) (sym c.self.view_is) (rw c.in-Some.is at c.node.ensures.inside) in
    let is = ap (λ (v : FollowingParts). number_of v.names c.args.name.now) c.self.view_is ∙ sym c.node.ensures.node
    ∙ ap (option_map (λ (y : NodeId). y.0)) c.in-Some.is in
    let right = subst (λ (l : Latest). IsRightLatest s.network s.history x l) c.in-Until.is c.in_ok-moment.ensures.right in
    let told = subst (λ (l : Latest). TellsLatest w.session x l) c.in-Until.is c.in_ok-moment.ensures.told in
    let can = verdict_is w.names w.lines w.session _ good.session told.1.1 in
    record {
      says = subst (λ (v : FollowingParts). IfOk c.by_line.result (λ text. on_by (the_following v) c.args.name.now ≡ says text.items (the_following v))) c.self.view_is
          (IfOk-weaker c.by_line.result _ _
          (λ text said. named_said s c.args.name.now text.items x.0 is
          (until_said s x.0 inside text.items right.0 told.0 told.1.0 c.in-Until.moment can told.2 said)) c.by_line.ensures.line);
    }

pub returns-in-Refused : goal.returns-in-Refused
returns-in-Refused c =
    let w = c.self.inside in
    let s = the_following (following_of w.session w.names w.lines) in
    let x = c.in-Some.x in
    let good = subst (λ (v : FollowingParts). IsFollowing v) (sym c.self.view_is) c.is_in_order.ensures.following in
    let inside = subst (λ (v : FollowingParts). x.0 < count (the_labelled v.network).base) (sym c.self.view_is) (rw c.in-Some.is at c.node.ensures.inside) in
    let is = ap (λ (v : FollowingParts). number_of v.names c.args.name.now) c.self.view_is ∙ sym c.node.ensures.node
    ∙ ap (option_map (λ (y : NodeId). y.0)) c.in-Some.is in
    let right = subst (λ (l : Latest). IsRightLatest s.network s.history x l) c.in-Refused.is c.in_ok-moment.ensures.right in
    let told = subst (λ (l : Latest). TellsLatest w.session x l) c.in-Refused.is c.in_ok-moment.ensures.told in
    record {
      says = subst (λ (v : FollowingParts). IfOk c.refused_fact.result (λ text. on_by (the_following v) c.args.name.now ≡ says text.items (the_following v))) c.self.view_is
          (IfOk-weaker c.refused_fact.result _ _
          (λ text said. named_said s c.args.name.now text.items x.0 is
          (refusal_said s x.0 inside text.items (the_fact_refusal c.in-Refused.error) right said)) c.refused_fact.ensures.line);
    }

pub returns-in-TooManyConstraints : goal.returns-in-TooManyConstraints
returns-in-TooManyConstraints c =
    let w = c.self.inside in
    let s = the_following (following_of w.session w.names w.lines) in
    let x = c.in-Some.x in
    let good = subst (λ (v : FollowingParts). IsFollowing v) (sym c.self.view_is) c.is_in_order.ensures.following in
    let inside = subst (λ (v : FollowingParts). x.0 < count (the_labelled v.network).base) (sym c.self.view_is) (rw c.in-Some.is at c.node.ensures.inside) in
    let is = ap (λ (v : FollowingParts). number_of v.names c.args.name.now) c.self.view_is ∙ sym c.node.ensures.node
    ∙ ap (option_map (λ (y : NodeId). y.0)) c.in-Some.is in
    let right = subst (λ (l : Latest). IsRightLatest s.network s.history x l) c.in-TooManyConstraints.is c.in_ok-moment.ensures.right in
    let told = subst (λ (l : Latest). TellsLatest w.session x l) c.in-TooManyConstraints.is c.in_ok-moment.ensures.told in
    record {
      says = subst (λ (v : FollowingParts). IfOk c.too_many.result (λ text. on_by (the_following v) c.args.name.now ≡ says text.items (the_following v))) c.self.view_is
          (IfOk-weaker c.too_many.result _ _
          (λ text said. named_said s c.args.name.now text.items x.0 is
          (many_said s x.0 inside text.items right told said)) c.too_many.ensures.line);
    }

pub returns-in-Impossible : goal.returns-in-Impossible
returns-in-Impossible c =
    let w = c.self.inside in
    let s = the_following (following_of w.session w.names w.lines) in
    let x = c.in-Some.x in
    let good = subst (λ (v : FollowingParts). IsFollowing v) (sym c.self.view_is) c.is_in_order.ensures.following in
    let inside = subst (λ (v : FollowingParts). x.0 < count (the_labelled v.network).base) (sym c.self.view_is) (rw c.in-Some.is at c.node.ensures.inside) in
    let is = ap (λ (v : FollowingParts). number_of v.names c.args.name.now) c.self.view_is ∙ sym c.node.ensures.node
    ∙ ap (option_map (λ (y : NodeId). y.0)) c.in-Some.is in
    let right = subst (λ (l : Latest). IsRightLatest s.network s.history x l) c.in-Impossible.is c.in_ok-moment.ensures.right in
    let told = subst (λ (l : Latest). TellsLatest w.session x l) c.in-Impossible.is c.in_ok-moment.ensures.told in
    let stuck = verdict_is w.names w.lines w.session _ good.session told.1.1 in
    record {
      says = subst (λ (v : FollowingParts). IfOk c.verdict_line.result (λ text. on_by (the_following v) c.args.name.now ≡ says text.items (the_following v))) c.self.view_is
          (IfOk-weaker c.verdict_line.result _ _
          (λ text told_now. let said = subst (λ (v : FollowingParts). tells_verdict (the_following v) ≡ says text.items (the_following v)) (sym c.self.view_is) told_now in
          named_said s c.args.name.now text.items x.0 is
          (stuck_said s x.0 inside text.items right.0 told.0 told.1.0 stuck said)) c.verdict_line.ensures.says);
    }

pub returns-in-Unknown : goal.returns-in-Unknown
returns-in-Unknown c =
    let w = c.self.inside in
    let s = the_following (following_of w.session w.names w.lines) in
    let x = c.in-Some.x in
    let good = subst (λ (v : FollowingParts). IsFollowing v) (sym c.self.view_is) c.is_in_order.ensures.following in
    let inside = subst (λ (v : FollowingParts). x.0 < count (the_labelled v.network).base) (sym c.self.view_is) (rw c.in-Some.is at c.node.ensures.inside) in
    let is = ap (λ (v : FollowingParts). number_of v.names c.args.name.now) c.self.view_is ∙ sym c.node.ensures.node
    ∙ ap (option_map (λ (y : NodeId). y.0)) c.in-Some.is in
    let right = subst (λ (l : Latest). IsRightLatest s.network s.history x l) c.in-Unknown.is c.in_ok-moment.ensures.right in
    let told = subst (λ (l : Latest). TellsLatest w.session x l) c.in-Unknown.is c.in_ok-moment.ensures.told in
    record {
      says = subst (λ (v : FollowingParts). IfOk c.full_line.result (λ text. on_by (the_following v) c.args.name.now ≡ says text.items (the_following v))) c.self.view_is
          (IfOk-weaker c.full_line.result _ _
          (λ text said. named_said s c.args.name.now text.items x.0 is
          (elim told.1 [
            | inl full ↦ full_said s x.0 inside text.items right told.0 (verdict_is w.names w.lines w.session _ good.session full) (said ∙ ap (λ (v : FollowingParts). full_line v.cap) (sym c.self.view_is))
            | inr tried ↦ tried_said s x.0 inside text.items right told.0 tried.0.0 (verdict_is w.names w.lines w.session _ good.session tried.0.1) tried.1 (said ∙ ap (λ (v : FollowingParts). full_line v.cap) (sym c.self.view_is))
          ])) c.full_line.ensures.line);
    }
