use Rattle.std.proofs.Common.{◌≡◌, Some, None, inl, inr, sym, subst, ap, ◌∙◌}
use Rattle.std.specs.Prelude.{IfOk, codes, ◌++◌}
use Rattle.std.proofs.lemmas.Result.{IfOk-weaker}
use Rattle.cstn_reply.specs.Texts.{line, full_line}
use Rattle.cstn_follow.specs.Answers.{TellsBlame}
use Rattle.cstn_follow.specs.Following.{says}
use Rattle.cstn_follow.specs.Questions.{tells_verdict}
use Rattle.cstn_follow.specs.Read.{FollowingParts, IsFollowing, following_of, the_following}
use Rattle.cstn_follow.specs.Searches.{ids_text, on_blame}
use Rattle.cstn_follow.specs.declared.answers.ToBlame.{ToBlame}
use Rattle.cstn_follow.proofs.Asked.{blame_told, blame_other, blame_full}
use Rattle.cstn_follow.proofs.Lines.{verdict_is}
use Rattle.cstn_follow.proofs.following.Following.blame.Goals as goal

pub returns-in-Constraints : goal.returns-in-Constraints
returns-in-Constraints c =
    let w = c.self.inside in
    let s = the_following (following_of w.session w.names w.lines) in
    let good = subst (λ (v : FollowingParts). IsFollowing v) (sym c.self.view_is) c.is_in_order.ensures.following in
    let told = subst (λ (b : ToBlame). TellsBlame w.session b) c.in-Constraints.is c.in_ok-ids.ensures.told in
    let stuck = verdict_is w.names w.lines w.session _ good.session told.0.1 in
    record {
      says = subst (λ (v : FollowingParts). IfOk c.blame_line.result (λ text. on_blame (the_following v) ≡ says text.items (the_following v))) c.self.view_is
          (IfOk-weaker c.blame_line.result _ _
          (λ text said. blame_told s text.items told.0.0 (Some c.in-Constraints.ids.items) stuck told.1
          (said ∙ ap (λ ids. line (codes "blame" ++ ids_text ids)) c.deref.ensures.value)) c.blame_line.ensures.line);
    }

pub returns-in-Nothing : goal.returns-in-Nothing
returns-in-Nothing c =
    let w = c.self.inside in
    let s = the_following (following_of w.session w.names w.lines) in
    let good = subst (λ (v : FollowingParts). IsFollowing v) (sym c.self.view_is) c.is_in_order.ensures.following in
    let told = subst (λ (b : ToBlame). TellsBlame w.session b) c.in-Nothing.is c.in_ok-ids.ensures.told in
    let can = verdict_is w.names w.lines w.session _ good.session told.1 in
    record {
      says = IfOk-weaker c.verdict_line.result _ _
          (λ text said. subst (λ (v : FollowingParts). on_blame (the_following v) ≡ says text.items (the_following v)) c.self.view_is
          (blame_other s text.items told.0 can
          (subst (λ (v : FollowingParts). tells_verdict (the_following v) ≡ says text.items (the_following v)) (sym c.self.view_is) said)))
          c.verdict_line.ensures.says;
    }

pub returns-in-Unknown : goal.returns-in-Unknown
returns-in-Unknown c =
    let w = c.self.inside in
    let s = the_following (following_of w.session w.names w.lines) in
    let good = subst (λ (v : FollowingParts). IsFollowing v) (sym c.self.view_is) c.is_in_order.ensures.following in
    let told = subst (λ (b : ToBlame). TellsBlame w.session b) c.in-Unknown.is c.in_ok-ids.ensures.told in
    record {
      says = subst (λ (v : FollowingParts). IfOk c.full_line.result (λ text. on_blame (the_following v) ≡ says text.items (the_following v))) c.self.view_is
          (IfOk-weaker c.full_line.result _ _
          (λ text is. let said = is ∙ ap (λ (v : FollowingParts). full_line v.cap) (sym c.self.view_is) in
          elim told [
            | inl full ↦ blame_full s text.items (verdict_is w.names w.lines w.session _ good.session full) said
            | inr tried ↦ blame_told s text.items tried.0.0 None (verdict_is w.names w.lines w.session _ good.session tried.0.1) tried.1 said
          ]) c.full_line.ensures.line);
    }
