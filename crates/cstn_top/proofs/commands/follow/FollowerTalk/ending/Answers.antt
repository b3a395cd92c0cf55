use Rattle.std.proofs.Common.{ap, sym, ◌∙◌}
use Rattle.cstn_follow.specs.Marks.{marked_ending}
use Rattle.cstn_follow.specs.MarkedRead.{MarkedParts, the_marked}
use Rattle.cstn_top.proofs.commands.follow.FollowerTalk.ending.Goals as goal

pub returns : goal.returns
returns c = ap (λ (f : MarkedParts). marked_ending (the_marked f)) (sym c.self.view_is) ∙ c.ending.ensures.ending
