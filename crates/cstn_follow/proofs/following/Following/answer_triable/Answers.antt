use Rattle.cstn_follow.specs.Asking.{the_spoken}
use Rattle.cstn_follow.specs.Read.{the_following}
use Rattle.cstn_follow.specs.Trials.{of_spoken, on_triable}
use Rattle.cstn_follow.proofs.Trying.{triable_kept, cap_ends, kept_first, kept_said}
use Rattle.cstn_follow.proofs.following.Following.answer_triable.Goals as goal

pub returns-in-Line-clause-first : goal.returns-in-Line-clause-first
returns-in-Line-clause-first c =
    let line = of_spoken (the_spoken c.in-Line.line) in
    kept_first c.args.self.now c.answer.new.self (on_triable (the_following c.args.self.now) line) c.answer.result
    (triable_kept c.args.self.now c.is_in_order.ensures.following line) c.answer.ensures.same c.answer.ensures.heard

pub returns-in-Line-clause-said : goal.returns-in-Line-clause-said
returns-in-Line-clause-said c =
    let line = of_spoken (the_spoken c.in-Line.line) in
    kept_said c.args.self.now c.answer.new.self (on_triable (the_following c.args.self.now) line) c.answer.result
    (triable_kept c.args.self.now c.is_in_order.ensures.following line) c.answer.ensures.heard

pub returns-in_ok-set_cap-in-Cap-clause-said : goal.returns-in_ok-set_cap-in-Cap-clause-said
returns-in_ok-set_cap-in-Cap-clause-said c =
    cap_ends (the_following c.args.self.now) (the_following c.set_cap.new.self) c.in-Cap.cap.entries c.in_ok-set_cap-in-Cap.field-0.items
    c.in_ok-set_cap-in-Cap.ensures.says
