-- What is proved of `treecheck`.
use Rattle.std.proofs.Common.{◌≤◌, ◌<◌, ◌≡◌, ℕ, List, length, refl, ap, inl, inr}
use Rattle.std.specs.Prelude.{◌⊎◌, Option, None, Some}
use Rattle.cstn_net.specs.Networks.{Network}
use Rattle.cstn_reply.specs.Texts.{Said}
use Rattle.cstn_top.specs.Answers.{IsByText}
use Rattle.cstn_text.specs.Limits.{most_text}
use Rattle.cstn_top.proofs.Documents.{IsOfDocument}
use Rattle.cstn_tree.specs.Good.{first_broken}
use Rattle.cstn_outline.specs.Read.{the_tree}
use Rattle.cstn_tree.specs.Checked.{told_of_line, checked_lines, tree_checked}
use Rattle.cstn_tree.proofs.Strategies.{good_is_strategy}
use Rattle.cstn_outline.specs.Texts.{TreeTold as ToldTree, tells as tells_tree, wrong as wrong_tree, tree_told as told_tree}
use Rattle.cstn_reply.specs.declared.output.Outcome.TheVariants.{Good, Bad, Script}
use Rattle.cstn_headline.specs.Telling.{OutcomeTells}
use Rattle.cstn_headline.specs.commands.Treecheck.{IsGoodTree, IsBrokenTree, IsNoTree, treecheck_telling}
use Rattle.cstn_headline.proofs.Telling.{check_told, text_told}

long_off : (text : List ℕ) (told : ToldTree) → most_text < length text → IsNoTree text told
long_off text (tells_tree lines) long = long
long_off text (wrong_tree at) long = tt

pub treecheck_tells : (text : List ℕ) (said : Said) (names : List (List ℕ)) (net : Network) → IsOfDocument names net → IsByText (λ s. s ≡ tree_checked text names net) text said → OutcomeTells (treecheck_telling text names net) said.outcome
treecheck_tells text said names net of output = check_told _ _ _ said.outcome (by_said (text_told (λ s. s ≡ tree_checked text names net) text said output))
  where
    Cases : ToldTree → Type 0
    Cases told = ((said.outcome ≡ Good) × ((length text ≤ most_text) × IsGoodTree told net))
        ⊎ (((said.outcome ≡ Bad) × ((length text ≤ most_text) × IsBrokenTree told net)) ⊎ ((said.outcome ≡ Script) × IsNoTree text told))

    by_told : (told : ToldTree) → length text ≤ most_text → said ≡ checked_lines told net → Cases told
    by_told (tells_tree lines) short is = by_line (first_broken net (the_tree lines)) refl is
      where
        by_line : (o : Option ℕ) → first_broken net (the_tree lines) ≡ o → said ≡ told_of_line o → Cases (tells_tree lines)
        by_line None whole same = inl (ap (λ (s : Said). s.outcome) same, (short, (whole, good_is_strategy net (the_tree lines) of.good.network whole)))
        by_line (Some line) breaks same = inr (inl (ap (λ (s : Said). s.outcome) same, (short, (line, breaks))))
    by_told (wrong_tree at) short is = inr (inr (ap (λ (s : Said). s.outcome) is, tt))

    by_said : ((said.outcome ≡ Script) × (most_text < length text)) ⊎ ((length text ≤ most_text) × said ≡ tree_checked text names net) → Cases (told_tree names text)
    by_said (inl long) = inr (inr (long.0, long_off text (told_tree names text) long.1))
    by_said (inr is) = by_told (told_tree names text) is.0 is.1
