use Rattle.std.proofs.Common.{◌≡◌, arith, sym, subst, ap, ◌∙◌}
use Rattle.std.specs.Prelude.{slice_get, codes}
use Rattle.std.proofs.lemmas.Result.{IfOk-weaker}
use Rattle.cstn_reply.specs.Written.{EndsLine}
use Rattle.cstn_follow.proofs.Further.{ends}
use Rattle.cstn_follow.specs.Following.{says}
use Rattle.cstn_follow.specs.Marks.{on_back}
use Rattle.cstn_follow.specs.MarkedRead.{MarkedParts, the_marked}
use Rattle.cstn_follow.specs.Read.{the_following}
use Rattle.cstn_follow.proofs.Marking.{at_marks, back_said, back_first, marks_popped, number_ends}
use Rattle.cstn_follow.proofs.marked.Marked.back.Goals as goal

pub invariant_of-self : goal.invariant_of-self
invariant_of-self c =
    let w = c.self.inside in
    marks_popped w.following c.in-Some-pop.mark c.count_on_from.new.self w.marks.items c.pop.new.self.items c.in-Some-pop.ensures.items
    c.count_on_from.ensures.recounted c.self.invariant

pub returns-clause-says : goal.returns-clause-says
returns-clause-says c =
    let w = c.self.inside in
    let next = c.count_on_from.new.self in
    let before = c.pop.new.self.items in
    subst (λ (t : MarkedParts). on_back (the_marked t).now (the_marked t).marks
    ≡ record { heard = says c.in_ok-text.text.items (the_following next); marks = at_marks before }) c.self.view_is
    (back_said w.following c.in-Some-pop.mark next w.marks.items before _ c.in_ok-text.text.items c.in-Some-pop.ensures.items
    c.count_on_from.ensures.recounted (omega (arith, c.in-Some.ensures, c.len.ensures, c.pop.ensures.len, c.in-Some-pop.ensures.cases)) c.in_ok-text.ensures.line)

pub returns-clause-first : goal.returns-clause-first
returns-clause-first c =
    let w = c.self.inside in
    back_first w.following c.in-Some-pop.mark c.count_on_from.new.self w.marks.items c.pop.new.self.items c.in-Some-pop.ensures.items
    c.count_on_from.ensures.recounted c.self.invariant ∙ ap (λ (t : MarkedParts). slice_get t.now.names 0) c.self.view_is

pub returns-in_default-clause-ends : goal.returns-in_default-clause-ends
returns-in_default-clause-ends c =
    IfOk-weaker c.word_line.result _ _ (λ text is. subst EndsLine (sym is) (ends (codes "refused M2"))) c.word_line.ensures.line

pub returns-clause-ends : goal.returns-clause-ends
returns-clause-ends c = number_ends c.in_ok-text.text.items (codes "back ") _ c.in_ok-text.ensures.line
