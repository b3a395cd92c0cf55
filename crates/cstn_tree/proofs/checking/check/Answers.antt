use Rattle.std.proofs.Common.{◌∙◌}
use Rattle.cstn_net.specs.Read.{the_network}
use Rattle.cstn_outline.specs.Trees.{table_of}
use Rattle.cstn_outline.specs.Read.{the_tree}
use Rattle.cstn_tree.proofs.Checks.{finds, accepts, accepted_strategy}
use Rattle.cstn_tree.proofs.checking.check.Goals as goal

pub returns-clause-first : goal.returns-clause-first
returns-clause-first c =
    c.answer.ensures
    ∙ finds (the_network c.args.net.now) c.in_ok-broken.broken _ c.args.tree.now c.in_ok-broken.ensures.first c.lines.ensures.lines c.lines.ensures.whole

pub returns-clause-accepted : goal.returns-clause-accepted
returns-clause-accepted c =
    accepts (the_network c.args.net.now) (the_tree c.args.tree.now) c.answer.result (c.answer.ensures
    ∙ finds (the_network c.args.net.now) c.in_ok-broken.broken _ c.args.tree.now c.in_ok-broken.ensures.first c.lines.ensures.lines c.lines.ensures.whole)

pub returns-clause-strategy : goal.returns-clause-strategy
returns-clause-strategy c = accepted_strategy (the_network c.args.net.now) (the_tree c.args.tree.now) c.answer.result c.count.ensures.well_formed (c.answer.ensures
    ∙ finds (the_network c.args.net.now) c.in_ok-broken.broken _ c.args.tree.now c.in_ok-broken.ensures.first c.lines.ensures.lines c.lines.ensures.whole)

pub returns-clause-consistent : goal.returns-clause-consistent
returns-clause-consistent c = λ h. (
  table_of (the_tree c.args.tree.now),
  accepted_strategy (the_network c.args.net.now) (the_tree c.args.tree.now) c.answer.result c.count.ensures.well_formed (c.answer.ensures
      ∙ finds (the_network c.args.net.now) c.in_ok-broken.broken _ c.args.tree.now c.in_ok-broken.ensures.first c.lines.ensures.lines c.lines.ensures.whole) h,
)
