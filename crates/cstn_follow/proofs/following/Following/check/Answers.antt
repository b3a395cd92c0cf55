use Rattle.std.proofs.Common.{ℕ, ◌<◌, length, ◌≡◌, refl, sym, subst, ap, ◌∙◌}
use Rattle.std.specs.Prelude.{IfOk}
use Rattle.std.specs.List.{All}
use Rattle.std.proofs.lemmas.Result.{IfOk-weaker}
use Rattle.cstn_lift.specs.Lowered.{lowered}
use Rattle.cstn_refute.specs.Refutations.{the_steps}
use Rattle.cstn_follow.specs.Following.{says, left_now, names_left}
use Rattle.cstn_follow.specs.Questions.{tells_verdict, on_check}
use Rattle.cstn_follow.specs.Read.{FollowingParts, IsFollowing, following_of, the_following}
use Rattle.cstn_follow.proofs.Asked.{names_long, check_said, no_load, other_said}
use Rattle.cstn_follow.proofs.Lines.{verdict_is}
use Rattle.cstn_follow.proofs.following.Following.check.Goals as goal

pub refuted-requires : goal.refuted-requires
refuted-requires c =
    let w = c.self.inside in
    let r = c.in-Some.refutation.now in
    let long = ap length (c.in_ok-names.ensures.names ∙ ap (λ (v : FollowingParts). names_left (the_following v)) (sym c.self.view_is))
    ∙ names_long (the_following (following_of w.session w.names w.lines)) in
    record { named = subst (λ (n : ℕ). All (λ e. e.bound.node.0 < n) r.steps) (sym long) c.in-Some.ensures.refuted.2 }

pub returns : goal.returns
returns c =
    let w = c.self.inside in
    let f = following_of w.session w.names w.lines in
    let s = the_following f in
    let r = c.in-Some.refutation.now in
    let good = subst (λ (v : FollowingParts). IsFollowing v) (sym c.self.view_is) c.is_in_order.ensures.following in
    let refuted = c.in-Some.ensures.refuted in
    let stuck = verdict_is w.names w.lines w.session _ good.session refuted.0 in
    let named = c.in_ok-names.ensures.names ∙ ap (λ (v : FollowingParts). names_left (the_following v)) (sym c.self.view_is) in
    record {
      says = subst (λ (v : FollowingParts). IfOk c.refuted.result (λ text. on_check (the_following v) ≡ says text.items (the_following v))) c.self.view_is
          (IfOk-weaker c.refuted.result _ _
          (λ text said. check_said s r.load r.load c.in_ok-names.names (the_steps r) text.items stuck named (no_load s.cap r.load (lowered (left_now s)) stuck)
          refuted.1 said) c.refuted.ensures);
    }

pub returns-in_default : goal.returns-in_default
returns-in_default c =
    let w = c.self.inside in
    let good = subst (λ (v : FollowingParts). IsFollowing v) (sym c.self.view_is) c.is_in_order.ensures.following in
    let f = following_of w.session w.names w.lines in
    let never = rw c.in_default.is at c.refutation.ensures.none in
    record {
      says = IfOk-weaker c.verdict_line.result _ _
          (λ text said. subst (λ (v : FollowingParts). on_check (the_following v) ≡ says text.items (the_following v)) c.self.view_is
          (other_said (the_following f) text.items w.session.verdict (verdict_is w.names w.lines w.session _ good.session refl)
          (λ load is. never (load, is))
          (subst (λ (v : FollowingParts). tells_verdict (the_following v) ≡ says text.items (the_following v)) (sym c.self.view_is) said)))
          c.verdict_line.ensures.says;
    }
