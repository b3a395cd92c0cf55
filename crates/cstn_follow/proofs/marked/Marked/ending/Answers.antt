use Rattle.std.proofs.Common.{ap, sym, ◌∙◌}
use Rattle.cstn_follow.specs.Marks.{marked_ending}
use Rattle.cstn_follow.specs.MarkedRead.{MarkedParts, the_marked}
use Rattle.cstn_follow.proofs.marked.Marked.ending.Goals as goal

pub returns : goal.returns
returns c = record { ending = ap (λ (t : MarkedParts). marked_ending (the_marked t)) (sym c.self.view_is) ∙ c.ending.ensures.ending }
