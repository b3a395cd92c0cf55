use Rattle.std.proofs.Common.{◌≡◌, refl, sym, ◌∙◌}
use Rattle.std.specs.Prelude.{map}
use Rattle.cstn_label.specs.Labels.{empty}
use Rattle.cstn_label.specs.Read.{marks}
use Rattle.cstn_lift.specs.Labelled.{label_in}
use Rattle.cstn_lift.proofs.LabelLemmas.{label_there, upto_next}
use Rattle.cstn_lift.proofs.networks.some_label.Goals as goal

pub loop-label-preserved : goal.loop-label-preserved
loop-label-preserved c =
    let k = c.loop-label.label-index in
    let is = label_there c.args.labels.now k k c.label-item.result c.loop-label-test.true refl c.label-item.is in
    upto_next (λ y. label_in (map marks c.args.labels.now) y ≡ empty) k c.loop-label.invariant (sym is ∙ c.if-not-is_empty.ensures.0 refl)
