use Rattle.std.proofs.Common.{[]}
use Rattle.cstn_tree.proofs.BreakLemmas.{first_breaks, branch_lines}
use Rattle.cstn_tree.proofs.laws.the_first_that_breaks_is_found.Goals as goal

pub returns : goal.returns
returns c = record { first = first_breaks; lines = λ tree. branch_lines [] tree }
