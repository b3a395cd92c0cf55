use Rattle.std.proofs.Common.{Some}
use Rattle.cstn_follow.specs.Asking.{the_spoken}
use Rattle.cstn_follow.specs.Read.{the_following}
use Rattle.cstn_follow.proofs.Answering.{heard_first, heard_said, other_ends}
use Rattle.cstn_follow.proofs.following.Following.hear.Goals as goal

pub returns-in-Some-clause-first : goal.returns-in-Some-clause-first
returns-in-Some-clause-first c =
    heard_first c.args.self.now c.count_line.new.self c.answer.new.self (Some (the_spoken c.in-Some.line)) c.answer.result c.is_in_order.ensures.following
    c.count_line.ensures.counted c.answer.ensures.same c.answer.ensures.heard

pub returns-in-Some-clause-said : goal.returns-in-Some-clause-said
returns-in-Some-clause-said c =
    heard_said c.args.self.now c.count_line.new.self c.answer.new.self (Some (the_spoken c.in-Some.line)) c.answer.result c.is_in_order.ensures.following
    c.count_line.ensures.counted c.answer.ensures.heard

pub returns-in_ok-other-in-None-clause-said : goal.returns-in_ok-other-in-None-clause-said
returns-in_ok-other-in-None-clause-said c =
    let s = the_following c.count_line.new.self in
    other_ends s s c.in_ok-other-in-None.field-0.items c.in_ok-other-in-None.ensures.says
