use Rattle.std.proofs.Common.{◌≢◌, subst}
use Rattle.std.proofs.lemmas.Result.{IfOk-weaker}
use Rattle.cstn_net.specs.Networks.{IsWellFormed}
use Rattle.cstn_net.specs.Read.{the_network}
use Rattle.cstn_lift.specs.Faults.{IsLiftRefusal, lift_number}
use Rattle.cstn_lift.specs.Labelled.{Labelled}
use Rattle.cstn_lift.specs.Read.{the_labelled}
use Rattle.cstn_history.specs.Histories.{edited}
use Rattle.cstn_facts.proofs.Options.{in_any_case}
use Rattle.cstn_change.proofs.PlanLemmas.{relabelled_is, lift_many, edited_labelled}
use Rattle.cstn_change.proofs.plans.relabelled.Goals as goal

pub returns-in-Err-clause-many : goal.returns-in-Err-clause-many
returns-in-Err-clause-many c =
    let net = c.args.base in
    let m = the_labelled c.args.network.now in
    let made = edited m net.deadline (the_network net).constraints in
    let same = relabelled_is c.args.network.now net c.in_ok-labels.labels.items c.requires.points c.in_ok-labels.ensures in
    let good = edited_labelled m net.deadline (the_network net).constraints c.base-2.ensures.labelled
    (subst (λ (n : Labelled). IsWellFormed n.base) same c.network_is_well_formed.ensures) in
    IfOk-weaker c.none_unless_memory.result (λ o. lift_number c.in-Err.fault ≢ 0) _
    (λ o other. in_any_case o (lift_many c.labelled_networks_have_no_fault.ensures.few made c.in-Err.fault good other
    (subst (λ (n : Labelled). IsLiftRefusal n c.in-Err.fault) same c.in-Err.ensures.refused))) c.none_unless_memory.ensures.other
