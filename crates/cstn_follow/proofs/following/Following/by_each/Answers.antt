use Rattle.std.proofs.Common.{◌≡◌, true, false, sym, subst, ap, ◌∙◌}
use Rattle.std.specs.Prelude.{◌&&◌}
use Rattle.std.proofs.lemmas.Result.{IfOk-weaker}
use Rattle.cstn_lift.specs.Labelled.{Labelled}
use Rattle.cstn_lift.specs.Lowered.{lowered}
use Rattle.cstn_lift.specs.Read.{the_labelled}
use Rattle.cstn_history.specs.Read.{the_history}
use Rattle.cstn_follow.specs.Answers.{HasRoomLeftToWait}
use Rattle.cstn_follow.specs.Following.{left_now, verdict_line}
use Rattle.cstn_follow.specs.Further.{each_after}
use Rattle.cstn_follow.specs.Read.{FollowingParts, session_of, the_following}
use Rattle.cstn_follow.specs.Searches.{has_place_for_one}
use Rattle.cstn_follow.proofs.AskedLines.{verdict_same, each_is}
use Rattle.cstn_follow.proofs.Found.{room_to_wait}
use Rattle.cstn_follow.proofs.following.Following.by_each.Goals as goal

pub returns-then-not-has_room : goal.returns-then-not-has_room
returns-then-not-has_room c =
    let place = subst (λ (f : FollowingParts). (has_place_for_one (left_now (the_following f)).base && has_place_for_one (lowered (left_now (the_following f)))) ≡ false) c.self.view_is
    (subst (λ (l : Labelled). (has_place_for_one l.base && has_place_for_one (lowered l)) ≡ false) c.in_ok-rest.ensures.rest (sym c.has_room-2.ensures ∙ c.if-not-has_room.true)) in
    record { says = IfOk-weaker c.too_many.result _ _ (λ text is. is ∙ sym (each_is (the_following c.args.self.now) false place)) c.too_many.ensures.line }

pub each_possible-requires : goal.each_possible-requires
each_possible-requires c =
    let a = c.args.self.now in
    let s = c.self.inside.session in
    let room = room_to_wait (the_labelled s.network) (the_history s.history) s.fresh _ c.in_ok-rest.ensures.rest (sym c.has_room-2.ensures ∙ c.if-not-has_room.false) in
    record {
      waits = (
        (_, verdict_same a c.is_in_order.ensures.following ∙ sym c.verdict.ensures.verdict ∙ c.in-Yes.is),
        subst (λ (f : FollowingParts). HasRoomLeftToWait (session_of f)) c.self.view_is room,
      );
    }

pub returns-in-Yes : goal.returns-in-Yes
returns-in-Yes c =
    let s = the_following c.args.self.now in
    let place = subst (λ (f : FollowingParts). (has_place_for_one (left_now (the_following f)).base && has_place_for_one (lowered (left_now (the_following f)))) ≡ true) c.self.view_is
    (subst (λ (l : Labelled). (has_place_for_one l.base && has_place_for_one (lowered l)) ≡ true) c.in_ok-rest.ensures.rest (sym c.has_room-2.ensures ∙ c.if-not-has_room.false)) in
    record {
      says = IfOk-weaker c.each_possible.result _ _
          (λ text is. is ∙ sym (each_is s true place ∙ ap (each_after s.names s.network s.history s.fresh s.cap) (sym c.verdict.ensures.verdict ∙ c.in-Yes.is)))
          c.each_possible.ensures.lines;
    }

pub returns-in-No : goal.returns-in-No
returns-in-No c =
    let s = the_following c.args.self.now in
    let place = subst (λ (f : FollowingParts). (has_place_for_one (left_now (the_following f)).base && has_place_for_one (lowered (left_now (the_following f)))) ≡ true) c.self.view_is
    (subst (λ (l : Labelled). (has_place_for_one l.base && has_place_for_one (lowered l)) ≡ true) c.in_ok-rest.ensures.rest (sym c.has_room-2.ensures ∙ c.if-not-has_room.false)) in
    let v_is = sym c.verdict.ensures.verdict ∙ c.in-No.is in
    record {
      says = IfOk-weaker c.line_now.result _ _
          (λ text is. is ∙ ap (verdict_line s.cap) v_is ∙ sym (each_is s true place ∙ ap (each_after s.names s.network s.history s.fresh s.cap) v_is))
          c.line_now.ensures.line;
    }

pub returns-in-Full : goal.returns-in-Full
returns-in-Full c =
    let s = the_following c.args.self.now in
    let place = subst (λ (f : FollowingParts). (has_place_for_one (left_now (the_following f)).base && has_place_for_one (lowered (left_now (the_following f)))) ≡ true) c.self.view_is
    (subst (λ (l : Labelled). (has_place_for_one l.base && has_place_for_one (lowered l)) ≡ true) c.in_ok-rest.ensures.rest (sym c.has_room-2.ensures ∙ c.if-not-has_room.false)) in
    let v_is = sym c.verdict.ensures.verdict ∙ c.in-Full.is in
    record {
      says = IfOk-weaker c.line_now-in-Full.result _ _
          (λ text is. is ∙ ap (verdict_line s.cap) v_is ∙ sym (each_is s true place ∙ ap (each_after s.names s.network s.history s.fresh s.cap) v_is))
          c.line_now-in-Full.ensures.line;
    }
