use Rattle.cstn_net.specs.Limits.{most_deadline}
use Rattle.cstn_follow.proofs.DeadlineFound.{right_least}
use Rattle.cstn_follow.proofs.Roomy.{deadline_fits}
use Rattle.cstn_follow.proofs.laws.least_deadlines_are_found.Goals as goal

pub returns : goal.returns
returns c = λ m h fresh cap v good timely above is.
    right_least m h fresh cap good timely above (deadline_fits m most_deadline h fresh cap v good.base.in_time is)
