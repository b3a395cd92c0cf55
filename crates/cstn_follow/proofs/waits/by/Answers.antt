use Rattle.std.proofs.Common.{ℕ, ◌≡◌, ◌<◌, length, arith, rules, sym, subst, ap, ◌∙◌}
use Rattle.std.specs.Prelude.{slice_index_or}
use Rattle.cstn_net.specs.Limits.{most_constraints}
use Rattle.cstn_net.specs.Read.{NetworkParts}
use Rattle.cstn_lift.specs.Labelled.{Labelled}
use Rattle.cstn_lift.specs.Lowered.{lowered}
use Rattle.cstn_lift.specs.Read.{the_labelled}
use Rattle.cstn_lift.specs.WellFormed.{IsLabelled}
use Rattle.cstn_history.specs.Histories.{IsTimelyHistory}
use Rattle.cstn_history.specs.Rest.{rest, number_left}
use Rattle.cstn_history.specs.Read.{the_history}
use Rattle.cstn_follow.specs.Waiting.{HasRoomToWait, TakesWaiting}
use Rattle.cstn_follow.proofs.Numbers.{numbers_long, number_at, room_said, no_room_said, search_is}
use Rattle.cstn_follow.proofs.waits.by.Goals as goal

pub returns-then-not-has_room-clause-many : goal.returns-then-not-has_room-clause-many
returns-then-not-has_room-clause-many c is room =
    let n = the_labelled c.in-Ok.remaining in
    let rest_is = c.in-Ok.ensures.rest in
    no_room_said n c.has_room.result c.has_room.ensures c.if-not-has_room.true
    (subst (λ (l : Labelled). length l.base.constraints < most_constraints) (sym rest_is) room.base)
    (subst (λ (l : Labelled). length (lowered l).constraints < most_constraints) (sym rest_is) room.lowered)

pub index-requires-2 : goal.index-requires-2
index-requires-2 c =
    let m = the_labelled c.args.network.now in
    let h = the_history c.args.history.now in
    let long = numbers_long m h c.in-Ok-numbers_left.numbers.items c.in-Ok-numbers_left.ensures.numbers in
    let inside = c.requires.inside in
    let place = c.index.ensures.index in
    omega arith

pub halve-requires-clause-may : goal.halve-requires-clause-may
halve-requires-clause-may c =
    let m = the_labelled c.args.network.now in
    let h = the_history c.args.history.now in
    let x = c.args.x.0 in
    let fresh = c.args.fresh in
    let n = the_labelled c.in-Ok.remaining in
    let rest_is = c.in-Ok.ensures.rest in
    let good = c.base.ensures.labelled in
    let timely : IsTimelyHistory m h = record { history = c.requires.kept.history; in_time = c.requires.kept.in_time } in
    let said = room_said n c.has_room.result c.has_room.ensures c.if-not-has_room.false in
    let low = subst (λ (l : Labelled). length (lowered l).constraints < most_constraints) rest_is said.1 in
    let room : HasRoomToWait m h fresh = record { base = subst (λ (l : Labelled). length l.base.constraints < most_constraints) rest_is said.0; lowered = low } in
    let d = c.index-2.result.now in
    let number_is : d ≡ number_left m h x = c.index-2.ensures ∙ ap (λ (i : ℕ). slice_index_or c.in-Ok-numbers_left.numbers.items i d) c.index.ensures.index
    ∙ number_at m h c.in-Ok-numbers_left.numbers.items c.in-Ok-numbers_left.ensures.numbers x d c.requires.inside in
    let takes : TakesWaiting (rest m h fresh) fresh (number_left m h x) = record {
      labelled = subst IsLabelled rest_is c.in-Ok.ensures.labelled;
      inside = c.waiting_is_found.ensures.numbers m h fresh x good timely.history c.requires.inside c.requires.left;
      below = c.waiting_is_found.ensures.ids m h fresh good timely c.requires.above room;
      base = room.base;
      lowered = room.lowered;
    } in
    (c.requires.room, subst (λ (l : Labelled). TakesWaiting l fresh d) (sym rest_is) (subst (TakesWaiting (rest m h fresh) fresh) (sym number_is) takes))

pub returns-in-Ok-Some : goal.returns-in-Ok-Some
returns-in-Ok-Some c =
    let m = the_labelled c.args.network.now in
    let h = the_history c.args.history.now in
    let x = c.args.x.0 in
    let fresh = c.args.fresh in
    let n = the_labelled c.in-Ok.remaining in
    let rest_is = c.in-Ok.ensures.rest in
    let said = room_said n c.has_room.result c.has_room.ensures c.if-not-has_room.false in
    let low = subst (λ (l : Labelled). length (lowered l).constraints < most_constraints) rest_is said.1 in
    let room : HasRoomToWait m h fresh = record { base = subst (λ (l : Labelled). length l.base.constraints < most_constraints) rest_is said.0; lowered = low } in
    let d = c.index-2.result.now in
    let number_is : d ≡ number_left m h x = c.index-2.ensures ∙ ap (λ (i : ℕ). slice_index_or c.in-Ok-numbers_left.numbers.items i d) c.index.ensures.index
    ∙ number_at m h c.in-Ok-numbers_left.numbers.items c.in-Ok-numbers_left.ensures.numbers x d c.requires.inside in
    let last = c.deadline.ensures.deadline ∙ ap (λ (b : NetworkParts). b.deadline) c.base-2.ensures.base in
    let found = search_is m h fresh x c.args.cap.entries d c.now.result c.deadline.result n rest_is number_is c.now.ensures.now last in
    let until = sym (c.in-Ok-Some.ensures ∙ found) ∙ c.in-Ok-Some.field-0-is in
    let timely : IsTimelyHistory m h = record { history = c.requires.kept.history; in_time = c.requires.kept.in_time } in
    let is = c.waiting_is_found.ensures.found m h fresh x c.args.cap.entries c.in-Ok-Some.moment c.base.ensures.labelled timely c.requires.above room c.requires.inside
    c.requires.coming c.requires.left c.requires.can until in
    record { waits = is.0; last = is.1; until = until; few = λ ok. room; many = search rules; full = search rules }

pub returns-in-Ok-None-clause-full : goal.returns-in-Ok-None-clause-full
returns-in-Ok-None-clause-full c is =
    let m = the_labelled c.args.network.now in
    let h = the_history c.args.history.now in
    let x = c.args.x.0 in
    let fresh = c.args.fresh in
    let n = the_labelled c.in-Ok.remaining in
    let rest_is = c.in-Ok.ensures.rest in
    let said = room_said n c.has_room.result c.has_room.ensures c.if-not-has_room.false in
    let low = subst (λ (l : Labelled). length (lowered l).constraints < most_constraints) rest_is said.1 in
    let room : HasRoomToWait m h fresh = record { base = subst (λ (l : Labelled). length l.base.constraints < most_constraints) rest_is said.0; lowered = low } in
    let d = c.index-2.result.now in
    let number_is : d ≡ number_left m h x = c.index-2.ensures ∙ ap (λ (i : ℕ). slice_index_or c.in-Ok-numbers_left.numbers.items i d) c.index.ensures.index
    ∙ number_at m h c.in-Ok-numbers_left.numbers.items c.in-Ok-numbers_left.ensures.numbers x d c.requires.inside in
    let last = c.deadline.ensures.deadline ∙ ap (λ (b : NetworkParts). b.deadline) c.base-2.ensures.base in
    let found = search_is m h fresh x c.args.cap.entries d c.now.result c.deadline.result n rest_is number_is c.now.ensures.now last in
    (room, sym (c.in-Ok-None.ensures ∙ found) ∙ c.in-Ok-None.field-0-is)
