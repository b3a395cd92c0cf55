use Rattle.std.proofs.Common.{ℕ, List, ◌<◌, length, sym, subst}
use Rattle.std.specs.List.{All}
use Rattle.cstn_outline.specs.declared.trees.Line.{Line as ProgramLine}
use Rattle.cstn_outline.specs.Trees.{names_on}
use Rattle.cstn_outline.specs.Read.{the_tree_line}
use Rattle.cstn_outline.proofs.TreeLemmas.{all_numbers}
use Rattle.cstn_outline.proofs.printing.push_line.Goals as goal

pub push_names-requires : goal.push_names-requires
push_names-requires c =
    let n = length c.args.names.now in
    let here = subst (λ (l : ProgramLine). All (λ x. x < n) (names_on (the_tree_line l))) c.in-At.is c.requires.named in
    record { named = all_numbers n c.as_slice.result.now (subst (λ (xs : List ℕ). All (λ x. x < n) xs) (sym c.as_slice.ensures.nodes) here) }
