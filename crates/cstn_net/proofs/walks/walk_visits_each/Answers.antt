use Rattle.cstn_net.proofs.LinkLemmas.{walk_begins, visited, walk_on}
use Rattle.cstn_net.proofs.walks.walk_visits_each.Goals as goal

pub returns : goal.returns
returns c = record { begins = walk_begins; visited = visited; goes_on = walk_on }
