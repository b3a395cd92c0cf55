use Rattle.std.proofs.Common.{sym, ◌∙◌}
use Rattle.cstn_lift.specs.Read.{the_labelled}
use Rattle.cstn_history.specs.Read.{the_history}
use Rattle.cstn_follow.proofs.Found.{room_to_wait}
use Rattle.cstn_follow.proofs.session.Session.latest.Goals as goal

pub latest_left-requires-clause-room : goal.latest_left-requires-clause-room
latest_left-requires-clause-room c =
    let s = c.args.self.now in
    room_to_wait (the_labelled s.network) (the_history s.history) s.fresh _ c.in_ok-rest.ensures.rest (sym c.has_room-2.ensures ∙ c.if-not-has_room.false)
