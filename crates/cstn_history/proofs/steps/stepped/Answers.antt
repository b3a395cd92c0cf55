use Rattle.std.proofs.Common.{◌≡◌, List, subst, ap, ◌∙◌}
use Rattle.std.specs.Prelude.{map}
use Rattle.cstn_label.specs.Labels.{Label}
use Rattle.cstn_label.specs.Read.{marks}
use Rattle.cstn_net.specs.Networks.{Network}
use Rattle.cstn_lift.specs.Labelled.{Labelled}
use Rattle.cstn_lift.specs.Faults.{IsLiftRefusal}
use Rattle.cstn_lift.specs.Read.{the_labelled, with_labels}
use Rattle.cstn_history.specs.Steps.{stepped}
use Rattle.cstn_history.proofs.Refused.{lift_refused}
use Rattle.cstn_history.proofs.steps.stepped.Goals as goal

pub returns-in-Err-lift-clause-refused : goal.returns-in-Err-lift-clause-refused
returns-in-Err-lift-clause-refused c =
    let m = the_labelled c.args.network.now in
    let S = stepped m in
    let base = c.in-Ok.parts.0 in
    let labels = c.in-Ok.parts.1.items in
    let same : with_labels base labels ≡ S =
    ap (λ (n : Network). record { base = n; labels = map marks labels }) c.in-Ok.ensures.base
    ∙ ap (λ (ls : List Label). record S { labels = ls }) c.in-Ok.ensures.labels in
    lift_refused S (c.steps_keep_histories.ensures.labelled m c.base.ensures.labelled c.requires.room) c.labelled_networks_have_no_fault.ensures.few
    c.in-Err-lift.fault c.refusal_of.result (subst (λ (n : Labelled). IsLiftRefusal n c.in-Err-lift.fault) same c.in-Err-lift.ensures.refused)
    c.refusal_of.ensures.memory c.refusal_of.ensures.constraints
