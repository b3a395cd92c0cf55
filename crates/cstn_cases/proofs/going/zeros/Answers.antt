use Rattle.cstn_facts.proofs.Places.{get_or_repeated}
use Rattle.cstn_net.specs.Limits.{most_time_points}
use Rattle.cstn_cases.proofs.going.zeros.Goals as goal

pub returns : goal.returns
returns c k = get_or_repeated most_time_points k 0
