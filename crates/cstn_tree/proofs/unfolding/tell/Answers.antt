use Rattle.std.proofs.Common.{◌≡◌, ◌∙◌, ℕ, List, Vec, Global, ap, subst}
use Rattle.std.specs.Prelude.{string_bytes}
use Rattle.cstn_label.specs.Bounds.{Bound}
use Rattle.cstn_net.specs.Read.{NetworkParts, the_network}
use Rattle.cstn_plan.specs.Plans.{the_bounds}
use Rattle.cstn_check.specs.Growth.{log_of, live_bounds}
use Rattle.cstn_exec.specs.Read.{ExecParts}
use Rattle.cstn_outline.specs.Read.{the_tree}
use Rattle.cstn_outline.specs.Texts.{tree_told}
use Rattle.cstn_tree.proofs.SayingTrees.{IsMade, tree_said}
use Rattle.cstn_tree.proofs.unfolding.tell.Goals as goal

pub returns : goal.returns
returns c = record {
  said =
      let bounds : List Bound = live_bounds (log_of (the_network c.args.check.net)) in
      let same_net : c.in_ok-exec.exec.net ≡ c.args.check.net = ap (λ (e : ExecParts). e.net) c.in_ok-exec.ensures.start ∙ c.into_plan.ensures.network in
      let same_bounds : the_bounds c.in_ok-exec.exec.bounds ≡ bounds = ap (λ (e : ExecParts). the_bounds e.bounds) c.in_ok-exec.ensures.start ∙ c.into_plan.ensures.live in
      let made : IsMade (the_network c.in_ok-exec.exec.net) (the_bounds c.in_ok-exec.exec.bounds) (the_tree c.in_ok-tree.tree) = record { made = c.in_ok-tree.ensures.tree; good = c.in_ok-tree.ensures.good; least = c.in_ok-tree.ensures.least } in
      let items : c.into_bytes.result.items ≡ string_bytes c.in_ok-text.text = ap (λ (v : Vec ℕ Global). v.items) c.into_bytes.ensures.value in
      tree_said c.args.names.now c.args.load bounds (the_network c.args.check.net) c.in_ok-tree.tree c.into_bytes.result.items c.lines.ensures.whole
      (subst (λ (n : NetworkParts). IsMade (the_network n) bounds (the_tree c.in_ok-tree.tree)) same_net
      (subst (λ (bs : List Bound). IsMade (the_network c.in_ok-exec.exec.net) bs (the_tree c.in_ok-tree.tree)) same_bounds made))
      (items ∙ c.in_ok-text.ensures.shown)
      (ap (tree_told c.args.names.now) items ∙ c.in_ok-text.ensures.back c.in_ok-tree.ensures.fits);
}
