use Rattle.std.proofs.Common.{◌≡◌, ◌⊎◌, ◌<◌, ◌≤◌, sym, subst, ap, length, ◌∙◌}
use Rattle.cstn_net.specs.Limits.{most_constraints}
use Rattle.cstn_lift.specs.declared.errors.LiftError.TheVariants.{TooManyConstraints}
use Rattle.cstn_lift.specs.WellFormed.{IsLabelled}
use Rattle.cstn_lift.specs.Lowered.{lowered}
use Rattle.cstn_lift.specs.Faults.{lift_number}
use Rattle.cstn_lift.specs.Read.{the_labelled, with_labels}
use Rattle.cstn_lift.proofs.FaultLemmas.{no_fault, refused_is}
use Rattle.cstn_lift.proofs.lifting.lift.Goals as goal

pub new-requires-in-Ok-lowered-clause-lowered : goal.new-requires-in-Ok-lowered-clause-lowered
new-requires-in-Ok-lowered-clause-lowered c =
    c.in-Ok-lowered.ensures.lowered ∙ ap (λ ls. lowered (with_labels c.args.net ls)) c.deref-5.ensures.value
    ∙ sym (ap (λ v. lowered (the_labelled v)) c.new.ensures.parts)

pub returns-in-Ok-lowered-clause-faultless : goal.returns-in-Ok-lowered-clause-faultless
returns-in-Ok-lowered-clause-faultless c =
    let good = subst (λ ls. IsLabelled (with_labels c.args.net ls)) c.deref-3.ensures.value c.in_default-completed_fault.ensures in
    let few = subst (λ ls. length (lowered (with_labels c.args.net ls)).constraints ≤ most_constraints) c.deref-5.ensures.value c.in-Ok-lowered.ensures.few in
    no_fault (with_labels c.args.net c.args.labels.items) good few

pub returns-in-Err-lowered-clause-refused : goal.returns-in-Err-lowered-clause-refused
returns-in-Err-lowered-clause-refused c =
    let good = subst (λ ls. IsLabelled (with_labels c.args.net ls)) c.deref-3.ensures.value c.in_default-completed_fault.ensures in
    refused_is (with_labels c.args.net c.args.labels.items) good c.in-Err-lowered.fault
    (subst (λ ls. (lift_number c.in-Err-lowered.fault ≡ 0) ⊎ ((c.in-Err-lowered.fault ≡ TooManyConstraints) × (most_constraints < length (lowered (with_labels c.args.net ls)).constraints)))
    c.deref-5.ensures.value c.in-Err-lowered.ensures.refused)
