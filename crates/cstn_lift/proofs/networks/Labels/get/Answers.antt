use Rattle.std.proofs.Common.{◌≡◌, ◌<◌, subst, sym, ap, arith, length, ◌∙◌}
use Rattle.cstn_label.specs.Read.{marks}
use Rattle.cstn_lift.specs.Labelled.{label_in}
use Rattle.std.proofs.lemmas.List.{length-map}
use Rattle.cstn_net.specs.Networks.{count}
use Rattle.cstn_net.specs.Read.{the_network}
use Rattle.cstn_lift.specs.Completion.{completed, completed_label}
use Rattle.cstn_lift.specs.Read.{the_labelled, with_labels}
use Rattle.cstn_lift.proofs.LabelLemmas.{label_there}
use Rattle.cstn_lift.proofs.LoweredLemmas.{completed_at}
use Rattle.cstn_lift.proofs.networks.Labels.get.Goals as goal

pub returns-clause-completed : goal.returns-clause-completed
returns-clause-completed c =
    let good = c.self.invariant.0 in
    let m = with_labels c.self.inside.handed c.self.inside.given.items in
    let same = c.self.view_is in
    let x = c.args.x.0 in
    let all = c.self.invariant.1 in
    let inside : x < count m.base = subst (λ v. x < count (the_network v.base)) (sym same) c.requires in
    let long = ap length all in
    let given = good.one_each in
    let there : x < length c.self.inside.whole.items =
    omega (arith, length-map c.self.inside.whole.items marks, length-map m.labels (completed m)) in
    let is = label_there c.self.inside.whole.items c.index.result x c.index-2.result.now there c.index.ensures.index c.index-2.ensures
    ∙ ap (λ ls. label_in ls x) all ∙ completed_at m good x inside in
    subst (λ v. marks c.index-2.result.now ≡ completed_label (the_labelled v) x) same is
