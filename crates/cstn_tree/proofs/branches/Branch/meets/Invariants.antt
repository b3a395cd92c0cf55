use Rattle.std.proofs.Common.{ℕ, ◌≡◌, true, take}
use Rattle.cstn_tree.specs.declared.starts.End.{End}
use Rattle.cstn_outline.specs.Trees.{is_named}
use Rattle.cstn_tree.specs.Good.{is_met_so_far}
use Rattle.cstn_tree.specs.Branches.{the_branch}
use Rattle.cstn_outline.specs.Read.{node_numbers}
use Rattle.cstn_tree.specs.Starts.{AllPass}
use Rattle.cstn_tree.proofs.branches.Branch.meets.Given as goal

abbrev pub invariant-loop-x : goal.invariant-loop-x
invariant-loop-x l = (y : ℕ) → is_named y (node_numbers (take l.x-index l.named)) ≡ true → (end : End) → AllPass (is_met_so_far (the_branch l.self).placed (the_branch l.self).asked) end l.net.constraints y
