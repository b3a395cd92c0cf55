use Rattle.cstn_facts.proofs.Places.{get_or_repeated}
use Rattle.cstn_net.specs.Limits.{most_time_points}
use Rattle.cstn_exec.proofs.executive.asked.zeros.Goals as goal

pub returns : goal.returns
returns c x = get_or_repeated most_time_points x 0
