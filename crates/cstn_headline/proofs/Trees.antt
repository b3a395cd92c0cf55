-- The texts of trees are accepted.
use Rattle.std.proofs.Common.{◌≡◌, ℕ, ◌≤◌, List, length, sym, ◌∙◌, ap, inl, inr, arith}
use Rattle.std.specs.Prelude.{None, codes}
use Rattle.cstn_net.specs.Networks.{Network}
use Rattle.cstn_text.specs.Limits.{most_text}
use Rattle.cstn_check.specs.Growth.{log_of, load_of, live_bounds}
use Rattle.cstn_tree.specs.Good.{first_broken}
use Rattle.cstn_outline.specs.Read.{the_tree}
use Rattle.cstn_outline.specs.Texts.{TreeTold, tells, tree_shown, tree_told as told_tree}
use Rattle.cstn_outline.specs.Trees.{lines_of_tree}
use Rattle.cstn_tree.specs.Unfolded.{IsTreeText}
use Rattle.cstn_tree.specs.Checked.{told_of_line, checked_lines, tree_checked}
use Rattle.cstn_outline.proofs.TreeLemmas.{tree_back}
use Rattle.cstn_reply.specs.Texts.{Said, say}
use Rattle.cstn_reply.specs.declared.output.Outcome.TheVariants.{Good}
use Rattle.cstn_top.specs.Answers.{IsByText}
use Rattle.cstn_headline.specs.Accepted.{IsAcceptance}

-- the text of a good tree is accepted
tree_accepted : (names : List (List ℕ)) (net : Network) (said : Said) → IsTreeText names (load_of net) (live_bounds (log_of net)) net said → tree_checked said.text names net ≡ say Good (codes "accepted")
tree_accepted names net said is =
    let text : said.text ≡ tree_shown names (load_of net) (lines_of_tree is.tree) = ap (λ (s : Said). s.text) is.said_is in
    let reads : told_tree names said.text ≡ tells (lines_of_tree is.tree) = ap (told_tree names) text ∙ is.back in
    let whole : first_broken net (the_tree (lines_of_tree is.tree)) ≡ None = ap (first_broken net) (tree_back is.tree) ∙ is.good in
    ap (λ (t : TreeTold). checked_lines t net) reads ∙ ap told_of_line whole

-- so is it where it is handed in again, if it isn't too long
pub tree_proof : (names : List (List ℕ)) (net : Network) (said : Said) → IsTreeText names (load_of net) (live_bounds (log_of net)) net said → length said.text ≤ most_text → IsAcceptance (IsByText (λ other. other ≡ tree_checked said.text names net) said.text)
tree_proof names net said is short other = (only, λ same. inr (short, same ∙ sym (tree_accepted names net said is)))
  where
    only : IsByText (λ other. other ≡ tree_checked said.text names net) said.text other → other ≡ say Good (codes "accepted")
    only (inl long) = absurd (let above = long.0 in omega (arith, above, short))
    only (inr same) = same.1 ∙ tree_accepted names net said is
