-- What the check of a tree tells.
use Rattle.std.proofs.Common.{ℕ, suc, ◌≡◌, ◌+◌, ◌<◌, List, [], ◌∷◌, Option, map, drop, drop-cons, add-one, get_or, length, refl, sym, ap, subst, ◌∙◌}
use Rattle.std.specs.Prelude.{◌↔◌}
use Rattle.std.specs.List.{All}
use Rattle.cstn_net.specs.Networks.{Network, IsWellFormed}
use Rattle.cstn_net.specs.Strategies.{IsStrategy}
use Rattle.cstn_tree.specs.declared.checking.TreeAnswer.{TreeAnswer}
use Rattle.cstn_tree.specs.declared.checking.TreeAnswer.TheVariants.{Accepted, Rejected}
use Rattle.cstn_outline.specs.declared.trees.Line.{Line as ProgramLine}
use Rattle.cstn_outline.specs.Trees.{Tree, TreeLine, lines_of_tree, names_on, table_of}
use Rattle.cstn_tree.specs.Good.{branch_begun, first_broken, IsUnbroken}
use Rattle.cstn_tree.specs.Walks.{first_broken_in}
use Rattle.cstn_outline.specs.Read.{the_tree_line, the_tree}
use Rattle.cstn_tree.specs.Branches.{the_answer}
use Rattle.cstn_tree.proofs.TreeLemmas.{walk_finds}
use Rattle.cstn_tree.proofs.Strategies.{good_is_strategy}

pub finds : (net : Network) (o : Option ℕ) (ls tree : List TreeLine) → o ≡ first_broken_in net (branch_begun ∷ []) ls 2 → ls ≡ tree →
    tree ≡ lines_of_tree (the_tree tree) → o ≡ first_broken net (the_tree tree)
finds net o ls tree e same whole =
    e ∙ ap (λ l. first_broken_in net (branch_begun ∷ []) l 2) (same ∙ whole) ∙ walk_finds net (the_tree tree)

-- an answer that names the first line that breaks, if any, accepts exactly where no line breaks
pub accepts : (net : Network) (tree : Tree) (a : TreeAnswer) → the_answer a ≡ first_broken net tree → (a ≡ Accepted) ↔ IsUnbroken net tree
accepts net tree Accepted e = ((λ h. sym e), (λ h. refl))
accepts net tree (Rejected line) e = ((λ h. let f : ⊥ = cc in absurd f), (λ h. let f : ⊥ = cc in absurd f))

pub accepted_strategy : (net : Network) (tree : Tree) (a : TreeAnswer) → IsWellFormed net → the_answer a ≡ first_broken net tree → a ≡ Accepted →
    IsStrategy net (table_of tree)
accepted_strategy net tree a wf e h = good_is_strategy net tree wf.network ((accepts net tree a e).0 h)

-- the lines from the place k on are the one at k and those from k + 1 on
pub lines_next : (lines : List ProgramLine) (k : ℕ) (l : ProgramLine) → k < length lines → l ≡ get_or lines k l →
    map the_tree_line (drop k lines) ≡ the_tree_line l ∷ map the_tree_line (drop (k + 1) lines)
lines_next lines k l inside at =
    ap (map the_tree_line) (drop-cons lines k l inside) ∙ ap (λ x. the_tree_line x ∷ map the_tree_line (drop (suc k) lines)) (sym at)
    ∙ ap (λ n. the_tree_line l ∷ map the_tree_line (drop n lines)) (sym (add-one k))
