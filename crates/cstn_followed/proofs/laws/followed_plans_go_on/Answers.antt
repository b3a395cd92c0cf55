use Rattle.cstn_followed.proofs.GoingOn.{plans_go_on}
use Rattle.cstn_followed.proofs.laws.followed_plans_go_on.Goals as goal

pub returns : goal.returns
returns c = plans_go_on
