use Rattle.std.proofs.Common.{◌≡◌, Some, None, sym, subst, ap, ◌∙◌}
use Rattle.cstn_follow.specs.Answers.{CanAskWaits}
use Rattle.cstn_follow.specs.Further.{line_now}
use Rattle.cstn_follow.specs.Read.{FollowingParts, following_of, session_of, the_following}
use Rattle.cstn_follow.specs.Searches.{by_line}
use Rattle.cstn_follow.proofs.AskedLines.{line_is}
use Rattle.cstn_follow.proofs.following.Following.wait_line.Goals as goal

pub wait_found-requires-clause-asks : goal.wait_found-requires-clause-asks
wait_found-requires-clause-asks c = subst (λ (f : FollowingParts). CanAskWaits (session_of f)) (sym c.self.view_is) c.requires.waits

pub returns-in_ok-by_line-in-Some : goal.returns-in_ok-by_line-in-Some
returns-in_ok-by_line-in-Some c =
    let w = c.self.inside in
    let x = c.args.x.0 in
    let moment = c.in-Some.moment in
    let here = line_is (the_following (following_of w.session w.names w.lines)) x (Some moment) (sym c.is_undone.ensures ∙ c.if-not-is_undone.false)
    (sym c.in_ok-moment.ensures.found ∙ c.in-Some.is) in
    record {
      line = ap (λ t. Some t) c.in_ok-by_line-in-Some.ensures.line
          ∙ sym (subst (λ (f : FollowingParts). line_now (the_following f) x ≡ Some (by_line w.names moment x)) c.self.view_is here);
    }

pub returns-in-None : goal.returns-in-None
returns-in-None c =
    let w = c.self.inside in
    let x = c.args.x.0 in
    let here = line_is (the_following (following_of w.session w.names w.lines)) x None (sym c.is_undone.ensures ∙ c.if-not-is_undone.false)
    (sym c.in_ok-moment.ensures.found ∙ c.in-None.is) in
    record { line = sym (subst (λ (f : FollowingParts). line_now (the_following f) x ≡ None) c.self.view_is here) }
