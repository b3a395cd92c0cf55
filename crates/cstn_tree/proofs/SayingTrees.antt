-- What is said of a yes as a tree.
use Rattle.std.proofs.Common.{◌≡◌, ℕ, ◌<◌, ◌≤◌, List, refl, sym, ◌∙◌, ap, subst, inl, inr}
use Rattle.std.specs.Prelude.{Option, None, Some, Result, Ok, Err, IfOk}
use Rattle.cstn_label.specs.Labels.{Scenario}
use Rattle.cstn_label.specs.Bounds.{Bound}
use Rattle.cstn_net.specs.Networks.{Network, count}
use Rattle.cstn_net.specs.Strategies.{IsLeast}
use Rattle.cstn_check.specs.Growth.{log_of, load_of, live_bounds}
use Rattle.cstn_check.specs.declared.verdicts.Verdict.TheVariants.{Yes}
use Rattle.cstn_tree.specs.Limits.{most_observed}
use Rattle.cstn_outline.specs.Trees.{Tree, TreeLine, lines_of_tree, table_of}
use Rattle.cstn_tree.specs.Good.{IsUnbroken}
use Rattle.cstn_tree.specs.Made.{IsTreeOf}
use Rattle.cstn_outline.specs.Texts.{tree_shown, tells, tree_told}
use Rattle.cstn_outline.specs.Read.{the_tree}
use Rattle.cstn_reply.specs.Texts.{Said}
use Rattle.cstn_reply.specs.Read.{the_said}
use Rattle.cstn_reply.specs.declared.output.Said.{Said as SaidText}
use Rattle.cstn_reply.specs.declared.output.Outcome.TheVariants.{Good}
use Rattle.cstn_check.specs.Decisions.{verdict, unless_yes}
use Rattle.cstn_tree.specs.Unfolded.{how_many_observed, wide, IsTreeText, IsTreeUnless, IsUnfolded}

-- no line of the tree breaks, and it has each time-point at its least moment
pub record IsMade (net : Network) (bounds : List Bound) (tree : Tree) : Type 0 where
  pub made : IsTreeOf net bounds tree
  pub good : IsUnbroken net tree
  pub least : (s : Scenario) (x : ℕ) → x < count net → IsLeast net s x (table_of tree s x)

-- the text of such a tree
pub tree_said : (names : List (List ℕ)) (load : ℕ) (bounds : List Bound) (net : Network) (lines : List TreeLine) (text : List ℕ) → lines ≡ lines_of_tree (the_tree lines) → IsMade net bounds (the_tree lines) → text ≡ tree_shown names load lines → tree_told names text ≡ tells lines → IsTreeText names load bounds net (record { outcome = Good; text = text })
tree_said names load bounds net lines text whole is shows back = record {
  tree = the_tree lines;
  made = is.made;
  good = is.good;
  least = is.least;
  back = subst (λ (ls : List TreeLine). tree_told names (tree_shown names load ls) ≡ tells ls) whole (subst (λ (t : List ℕ). tree_told names t ≡ tells lines) shows back);
  said_is = ap (λ (t : List ℕ). record { outcome = Good; text = t }) (shows ∙ ap (tree_shown names load) whole);
}

-- where more propositions are observed than a tree is made for, their number is said
pub wide_said : {E : Type 0} (cap : ℕ) (names : List (List ℕ)) (net : Network) (r : Result SaidText E) → most_observed < how_many_observed net → IfOk r (λ said. the_said said ≡ wide net) → IfOk r (λ said. IsUnfolded cap names net (the_said said))
wide_said cap names net (Err e) many is = tt
wide_said cap names net (Ok said) many is = inl (many, is)

-- after yes the tree is said
pub yes_said : {E : Type 0} (cap : ℕ) (names : List (List ℕ)) (net : Network) (load : ℕ) (r : Result SaidText E) → how_many_observed net ≤ most_observed → verdict cap net ≡ Yes (load_of net) → load ≡ load_of net → IfOk r (λ said. IsTreeText names load (live_bounds (log_of net)) net (the_said said)) → IfOk r (λ said. IsUnfolded cap names net (the_said said))
yes_said cap names net load (Err e) narrow decided same is = tt
yes_said cap names net load (Ok said) narrow decided same is =
    let unless : unless_yes cap names net (verdict cap net) ≡ None = ap (unless_yes cap names net) decided in
    inr (narrow, subst (λ (o : Option Said). IsTreeUnless names net o (the_said said)) (sym unless) (subst (λ (n : ℕ). IsTreeText names n (live_bounds (log_of net)) net (the_said said)) same is))

-- after no the refutation is said, and the cap where the log has more entries
pub other_said : (cap : ℕ) (names : List (List ℕ)) (net : Network) (said : Said) → how_many_observed net ≤ most_observed → unless_yes cap names net (verdict cap net) ≡ Some said → IsUnfolded cap names net said
other_said cap names net said narrow is = inr (narrow, subst (λ (o : Option Said). IsTreeUnless names net o said) (sym is) refl)
