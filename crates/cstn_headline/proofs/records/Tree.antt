-- What is proved of `tree`.
use Rattle.std.proofs.Common.{◌≤◌, ◌≡◌, ◌∙◌, ℕ, List, [], ap, sym, subst, inl, inr}
use Rattle.std.specs.Prelude.{Option, None, Some}
use Rattle.cstn_net.specs.Limits.{most_load}
use Rattle.cstn_net.specs.Networks.{Network}
use Rattle.cstn_reply.specs.Texts.{Said}
use Rattle.cstn_top.specs.Plans.{Plan, says_such, unless_said}
use Rattle.cstn_check.specs.Decisions.{verdict, unless_yes}
use Rattle.cstn_top.proofs.Documents.{IsOfDocument}
use Rattle.cstn_check.specs.Growth.{load_of, log_of, live_bounds}
use Rattle.cstn_tree.specs.Unfolded.{IsTreeText, IsTreeUnless, IsUnfolded}
use Rattle.cstn_reply.specs.declared.output.Outcome.{Outcome}
use Rattle.cstn_reply.specs.declared.output.Outcome.TheVariants.{Good, Wide}
use Rattle.cstn_headline.specs.Telling.{OutcomeTells}
use Rattle.cstn_headline.specs.commands.Tree.{IsNarrow, IsMadeTree, tree_telling}
use Rattle.cstn_headline.proofs.Standing.{NoAccepted}
use Rattle.cstn_headline.proofs.Telling.{Judged, judged}
use Rattle.cstn_headline.proofs.Trees.{tree_proof}

-- the text of a tree that was made is accepted
made_tree : (names : List (List ℕ)) (net : Network) (said : Said) → IsTreeText names (load_of net) (live_bounds (log_of net)) net said → IsMadeTree names net said.text
made_tree names net said is = record {
  made = subst (IsTreeText names (load_of net) (live_bounds (log_of net)) net) (is.said_is ∙ sym (ap (λ (s : Said). record { outcome = Good; text = s.text }) is.said_is)) is;
  accepted = tree_proof names net said is;
}

pub tree_tells : NoAccepted → (cap : ℕ) → cap ≤ most_load → (said : Said) (names : List (List ℕ)) (net : Network) → IsOfDocument names net → IsUnfolded cap names net said → OutcomeTells (tree_telling cap said.text names net) said.outcome
tree_tells no_text cap capped said names net of output = by_width output
  where
    after_yes : Plan
    after_yes = says_such (IsTreeText names (load_of net) (live_bounds (log_of net)) net)

    as_outcome : (o : Outcome) → said.outcome ≡ o → OutcomeTells (tree_telling cap said.text names net) o → OutcomeTells (tree_telling cap said.text names net) said.outcome
    as_outcome o is told = subst (OutcomeTells (tree_telling cap said.text names net)) (sym is) told

    by_judged : IsNarrow net → Judged cap names net (after_yes.output [] said) said → OutcomeTells (tree_telling cap said.text names net) said.outcome
    by_judged narrow (inl is) =
        as_outcome Good (ap (λ (s : Said). s.outcome) is.1.said_is) (narrow, is.0, made_tree names net said is.1)
    by_judged narrow (inr (inl is)) = as_outcome _ is.0 (narrow, is.1.0, is.1.1)
    by_judged narrow (inr (inr is)) = as_outcome _ is.0 (narrow, is.1)

    by_unless : (o : Option Said) → IsTreeUnless names net o said → (unless_said o after_yes).output [] said
    by_unless None is = is
    by_unless (Some other) is = is

    by_width : IsUnfolded cap names net said → OutcomeTells (tree_telling cap said.text names net) said.outcome
    by_width (inl (many, is)) = as_outcome Wide (ap (λ (s : Said). s.outcome) is) many
    by_width (inr (narrow, is)) = by_judged narrow (judged no_text cap names net after_yes [] said of capped (by_unless (unless_yes cap names net (verdict cap net)) is))
