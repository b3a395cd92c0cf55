use Rattle.std.proofs.Common.{◌≡◌, arith, sym, subst}
use Rattle.std.specs.Prelude.{codes}
use Rattle.std.proofs.lemmas.Result.{IfOk-weaker}
use Rattle.cstn_reply.specs.Written.{EndsLine}
use Rattle.cstn_follow.specs.Following.{says}
use Rattle.cstn_follow.specs.Marks.{on_mark}
use Rattle.cstn_follow.specs.MarkedRead.{MarkedParts, the_marked}
use Rattle.cstn_follow.specs.Read.{the_following}
use Rattle.cstn_follow.proofs.Further.{ends}
use Rattle.cstn_follow.proofs.Marking.{at_marks, mark_said, marks_pushed, number_ends}
use Rattle.cstn_follow.proofs.marked.Marked.mark.Goals as goal

pub returns-then-count-ge-MAX_MARKS-clause-ends : goal.returns-then-count-ge-MAX_MARKS-clause-ends
returns-then-count-ge-MAX_MARKS-clause-ends c =
    IfOk-weaker c.word_line.result _ _ (λ text is. subst EndsLine (sym is) (ends (codes "refused M1"))) c.word_line.ensures.line

pub invariant_of-self-2 : goal.invariant_of-self-2
invariant_of-self-2 c =
    let w = c.self.inside in
    marks_pushed w.following c.in_ok-copy.copy w.marks.items c.push.new.self.items c.in_ok-copy.ensures.same
    (omega (arith, c.if-count-ge-MAX_MARKS.false, c.len-count.ensures)) c.in_ok-push.ensures.items c.self.invariant

pub returns-clause-says : goal.returns-clause-says
returns-clause-says c =
    let w = c.self.inside in
    let after = c.push.new.self.items in
    subst (λ (t : MarkedParts). on_mark (the_marked t).now (the_marked t).marks
    ≡ record { heard = says c.in_ok-text.text.items (the_following w.following); marks = at_marks after }) c.self.view_is
    (mark_said w.following c.in_ok-copy.copy w.marks.items after _ c.in_ok-text.text.items c.in_ok-copy.ensures.same
    (omega (arith, c.if-count-ge-MAX_MARKS.false, c.len-count.ensures)) (omega (arith, c.len-count.ensures)) c.in_ok-text.ensures.line c.in_ok-push.ensures.items)

pub returns-clause-ends : goal.returns-clause-ends
returns-clause-ends c = number_ends c.in_ok-text.text.items (codes "mark ") _ c.in_ok-text.ensures.line
