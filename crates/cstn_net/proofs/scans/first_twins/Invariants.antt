use Rattle.std.proofs.Common.{map}
use Rattle.cstn_net.specs.Read.{observed}
use Rattle.cstn_net.specs.Drafts.{HasTwins}
use Rattle.cstn_net.proofs.scans.first_twins.Given as goal

abbrev pub invariant-loop-i : goal.invariant-loop-i
invariant-loop-i l = HasTwins (map observed l.points) l.i → ⊥
