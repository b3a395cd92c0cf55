use Rattle.std.proofs.Common.{◌≡◌, subst, ap, ◌∙◌}
use Rattle.std.specs.Prelude.{IfOk, slice_get}
use Rattle.std.proofs.lemmas.Result.{on_err_weaker}
use Rattle.cstn_follow.specs.MarkedRead.{MarkedParts, the_marked, marked_parts, the_marked_heard}
use Rattle.cstn_follow.specs.Read.{FollowingParts, the_following, IsSaidFor}
use Rattle.cstn_follow.specs.Trials.{the_triable, on_triable}
use Rattle.cstn_follow.proofs.Marking.{marks_stay, said_with_marks}
use Rattle.cstn_follow.proofs.marked.Marked.answer_line.Goals as goal

pub invariant_of-self : goal.invariant_of-self
invariant_of-self c =
    marks_stay c.self.inside.following c.answer_triable.new.self c.self.inside.marks.items c.answer_triable.ensures.first c.self.invariant

pub returns-clause-heard : goal.returns-clause-heard
returns-clause-heard c =
    let items = c.self.inside.marks.items in
    let new = c.answer_triable.new.self in
    let line = the_triable c.args.line in
    subst (λ (t : MarkedParts). IfOk c.answer_triable.result (λ h. record { heard = on_triable (the_marked t).now line; marks = (the_marked t).marks }
    ≡ the_marked_heard (marked_parts new items) h)) c.self.view_is
    (said_with_marks (on_triable (the_following c.self.inside.following) line) new items c.answer_triable.result c.answer_triable.ensures.heard)

pub returns-clause-same : goal.returns-clause-same
returns-clause-same c =
    on_err_weaker c.answer_triable.result (λ same. ap (λ (f : FollowingParts). marked_parts f c.self.inside.marks.items) same ∙ c.self.view_is)
    c.answer_triable.ensures.same

pub returns-clause-first : goal.returns-clause-first
returns-clause-first c = c.answer_triable.ensures.first ∙ ap (λ (t : MarkedParts). slice_get t.now.names 0) c.self.view_is

pub returns-clause-said : goal.returns-clause-said
returns-clause-said c =
    subst (λ (t : MarkedParts). IfOk c.answer_triable.result (IsSaidFor t.now.names)) c.self.view_is c.answer_triable.ensures.said
