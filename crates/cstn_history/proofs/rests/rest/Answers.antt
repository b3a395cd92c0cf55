use Rattle.std.proofs.Common.{◌≡◌, ◌≤◌, List, length, subst, ap, ◌∙◌}
use Rattle.std.specs.Prelude.{map}
use Rattle.cstn_label.specs.Labels.{Label}
use Rattle.cstn_label.specs.Read.{marks}
use Rattle.cstn_net.specs.Limits.{most_constraints}
use Rattle.cstn_lift.specs.Labelled.{Labelled}
use Rattle.cstn_lift.specs.Faults.{IsLiftRefusal}
use Rattle.cstn_lift.specs.Read.{the_labelled, with_labels}
use Rattle.cstn_net.specs.Networks.{Network}
use Rattle.cstn_history.specs.Rest.{rest}
use Rattle.cstn_history.specs.Read.{the_history}
use Rattle.cstn_history.proofs.WellFormed.{rest_labelled}
use Rattle.cstn_history.proofs.Refused.{lift_refused, lift_has_room}
use Rattle.cstn_history.specs.Handed.{HasFewConstraints}
use Rattle.cstn_history.proofs.rests.rest.Goals as goal

pub returns-clause-refused : goal.returns-clause-refused
returns-clause-refused c =
    let m = the_labelled c.args.network.now in
    let h = the_history c.args.history.now in
    let R = rest m h c.args.fresh in
    let base = c.in-Ok-base_left.base in
    let labels = c.in-Ok-labels_left.labels.items in
    let base_is = c.in-Ok-base_left.ensures.base in
    let same : with_labels base labels ≡ R =
    ap (λ (n : Network). record { base = n; labels = map marks labels }) base_is
    ∙ ap (λ (ls : List Label). record R { labels = ls }) c.in-Ok-labels_left.ensures in
    let few : length R.base.constraints ≤ most_constraints = subst (λ (n : Network). length n.constraints ≤ most_constraints) base_is c.network_is_well_formed.ensures.few_constraints in
    lift_refused R (rest_labelled m h c.args.fresh c.left_of.ensures.labelled c.requires.kept.history c.requires.kept.in_time c.requires.above few)
    c.labelled_networks_have_no_fault.ensures.few c.in-Err-lift.fault c.refusal_of.result
    (subst (λ (n : Labelled). IsLiftRefusal n c.in-Err-lift.fault) same c.in-Err-lift.ensures.refused)
    c.refusal_of.ensures.memory c.refusal_of.ensures.constraints

pub returns-in-Ok-lift-clause-few : goal.returns-in-Ok-lift-clause-few
returns-in-Ok-lift-clause-few c =
    let m = the_labelled c.args.network.now in
    let h = the_history c.args.history.now in
    let R = rest m h c.args.fresh in
    let base = c.in-Ok-base_left.base in
    let labels = c.in-Ok-labels_left.labels.items in
    let base_is = c.in-Ok-base_left.ensures.base in
    let same : with_labels base labels ≡ R =
    ap (λ (n : Network). record { base = n; labels = map marks labels }) base_is
    ∙ ap (λ (ls : List Label). record R { labels = ls }) c.in-Ok-labels_left.ensures in
    subst HasFewConstraints same (lift_has_room (with_labels base labels) c.network_is_well_formed.ensures.few_constraints c.in-Ok-lift.ensures.faultless)
