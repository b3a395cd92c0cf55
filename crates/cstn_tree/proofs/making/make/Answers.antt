use Rattle.std.proofs.Common.{ℕ, ◌<◌, subst}
use Rattle.std.specs.Prelude.{IfOk}
use Rattle.std.proofs.lemmas.Result.{IfOk-weaker}
use Rattle.cstn_label.specs.Labels.{Scenario}
use Rattle.cstn_net.specs.Networks.{count}
use Rattle.cstn_net.specs.Strategies.{IsLeast}
use Rattle.cstn_net.specs.Read.{the_network}
use Rattle.cstn_plan.specs.Plans.{the_bounds}
use Rattle.cstn_exec.specs.Read.{ExecParts}
use Rattle.cstn_outline.specs.Trees.{IsAmong, table_of}
use Rattle.cstn_tree.specs.Good.{IsUnbroken}
use Rattle.cstn_tree.specs.Made.{IsTreeOf}
use Rattle.cstn_outline.specs.Written.{TreeFitsText}
use Rattle.cstn_outline.specs.Read.{the_tree}
use Rattle.cstn_tree.proofs.MadeTrees.{made_good, made_least, made_among, made_fits}
use Rattle.cstn_tree.proofs.making.make.Goals as goal

pub returns-clause-good : goal.returns-clause-good
returns-clause-good c =
    let net = the_network c.args.exec.now.net in
    let bounds = the_bounds c.args.exec.now.bounds in
    IfOk-weaker c.grow-made.result (λ t. IsTreeOf net bounds (the_tree t)) (λ t. IsUnbroken net (the_tree t))
    (λ t made. made_good net bounds c.network.ensures.earliest.0 c.network.ensures.well_formed c.network.ensures.earliest.1 (the_tree t) made)
    (subst (λ (e : ExecParts). IfOk c.grow-made.result (λ t. IsTreeOf (the_network e.net) (the_bounds e.bounds) (the_tree t))) c.restart.ensures.started c.grow-made.ensures.tree)

pub returns-clause-least : goal.returns-clause-least
returns-clause-least c =
    let net = the_network c.args.exec.now.net in
    let bounds = the_bounds c.args.exec.now.bounds in
    IfOk-weaker c.grow-made.result (λ t. IsTreeOf net bounds (the_tree t)) (λ t. (s : Scenario) (x : ℕ) → x < count net → IsLeast net s x (table_of (the_tree t) s x))
    (λ t made. made_least net bounds c.network.ensures.earliest.0 c.network.ensures.well_formed c.network.ensures.earliest.1 (the_tree t) made)
    (subst (λ (e : ExecParts). IfOk c.grow-made.result (λ t. IsTreeOf (the_network e.net) (the_bounds e.bounds) (the_tree t))) c.restart.ensures.started c.grow-made.ensures.tree)

pub returns-clause-among : goal.returns-clause-among
returns-clause-among c =
    let net = the_network c.args.exec.now.net in
    let bounds = the_bounds c.args.exec.now.bounds in
    IfOk-weaker c.grow-made.result (λ t. IsTreeOf net bounds (the_tree t)) (λ t. IsAmong (count net) (the_tree t))
    (λ t made. made_among net bounds (the_tree t) made)
    (subst (λ (e : ExecParts). IfOk c.grow-made.result (λ t. IsTreeOf (the_network e.net) (the_bounds e.bounds) (the_tree t))) c.restart.ensures.started c.grow-made.ensures.tree)

pub returns-clause-fits : goal.returns-clause-fits
returns-clause-fits c =
    let net = the_network c.args.exec.now.net in
    let bounds = the_bounds c.args.exec.now.bounds in
    IfOk-weaker c.grow-made.result (λ t. IsTreeOf net bounds (the_tree t)) (λ t. TreeFitsText (the_tree t))
    (λ t made. made_fits net bounds c.network.ensures.earliest.0 c.network.ensures.well_formed c.network.ensures.earliest.1 (the_tree t) made)
    (subst (λ (e : ExecParts). IfOk c.grow-made.result (λ t. IsTreeOf (the_network e.net) (the_bounds e.bounds) (the_tree t))) c.restart.ensures.started c.grow-made.ensures.tree)
