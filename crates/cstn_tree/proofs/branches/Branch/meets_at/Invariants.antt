use Rattle.std.proofs.Common.{length}
use Rattle.cstn_tree.specs.Good.{is_met_so_far}
use Rattle.cstn_tree.specs.Branches.{the_branch}
use Rattle.cstn_tree.proofs.StartLemmas.{IsWalked, places_left}
use Rattle.cstn_tree.proofs.branches.Branch.meets_at.Given as goal

abbrev pub invariant-loop-at : goal.invariant-loop-at
invariant-loop-at l = IsWalked (is_met_so_far (the_branch l.self).placed (the_branch l.self).asked) l.end l.net.constraints l.fn.x.0 l.at

abbrev pub decreases-loop-at : goal.decreases-loop-at
decreases-loop-at l = places_left (length l.net.constraints) l.at
