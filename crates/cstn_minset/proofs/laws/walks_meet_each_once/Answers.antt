use Rattle.cstn_minset.specs.Sets.{IsAt}
use Rattle.cstn_minset.proofs.LawLemmas.{walk_meets, walk_there, walk_ascends, walk_within}
use Rattle.cstn_minset.proofs.laws.walks_meet_each_once.Goals as goal
use Rattle.std.proofs.Common.{◌^◌, arith}
use Rattle.cstn_minset.proofs.WalkLemmas.{walk_exists, at_or_not, one_walk}

pub returns-clause-each : goal.returns-clause-each
returns-clause-each c nodes node slot birth b table ids minimal walk placed at = walk_meets table (IsAt node) nodes 0 ids slot birth b minimal walk placed at (omega arith)

pub returns-clause-there : goal.returns-clause-there
returns-clause-there c node k id table ids walk is = (let found = walk_there table (IsAt node) 0 ids k id walk is in (found.0, found.1, found.2))

pub returns-clause-ascending : goal.returns-clause-ascending
returns-clause-ascending c node j k earlier later table ids walk is next less = walk_ascends table (IsAt node) 0 ids j k earlier later walk is next less

pub returns-clause-within : goal.returns-clause-within
returns-clause-within c node table ids walk = walk_within table (IsAt node) 0 ids walk

pub returns-clause-exists : goal.returns-clause-exists
returns-clause-exists c nodes node table minimal = walk_exists table (IsAt node) (at_or_not node) (2 ^ 64) (λ s e is. (minimal.in_range s e is).1)

pub returns-clause-one : goal.returns-clause-one
returns-clause-one c nodes node table ids others minimal walk other = one_walk nodes table (IsAt node) minimal 0 ids others walk other
