use Rattle.std.proofs.Common.{take}
use Rattle.std.specs.List.{All}
use Rattle.cstn_net.specs.Drafts.{HasReaction}
use Rattle.cstn_net.proofs.scans.first_untimely.Given as goal

abbrev pub invariant-loop-i : goal.invariant-loop-i
invariant-loop-i l = All HasReaction (take l.i l.points)
