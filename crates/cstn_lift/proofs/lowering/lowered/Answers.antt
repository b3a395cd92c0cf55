use Rattle.std.proofs.Common.{refl, inl, inr}
use Rattle.std.proofs.lemmas.Bool.{cases_eq}
use Rattle.cstn_net.specs.Drafts.{net_number}
use Rattle.cstn_lift.specs.Read.{with_labels}
use Rattle.cstn_lift.proofs.Taken.{closed_is, refused_long, closed_few, same_observes, same_reaction}
use Rattle.cstn_lift.proofs.lowering.lowered.Goals as goal

pub returns-in-Ok-close-clause-lowered : goal.returns-in-Ok-close-clause-lowered
returns-in-Ok-close-clause-lowered c =
    closed_is (with_labels c.args.net.now c.args.labels.now) c.args.net.now c.in-Ok-close.network c.in-Ok.builder refl c.in-Ok.ensures.points c.in-Ok.ensures.deadline c.in-Ok.ensures.constraints
    c.in-Ok-close.ensures.deadline c.in-Ok-close.ensures.points c.in-Ok-close.ensures.constraints

pub returns-in-Ok-close-clause-few : goal.returns-in-Ok-close-clause-few
returns-in-Ok-close-clause-few c =
    closed_few (with_labels c.args.net.now c.args.labels.now) c.in-Ok.builder (c.drafts_are_numbered.ensures.length 0 c.in-Ok.builder.drafts)
    c.in-Ok.ensures.constraints c.in-Ok-close.ensures.faultless

pub returns-in-Err-close-clause-refused : goal.returns-in-Err-close-clause-refused
returns-in-Err-close-clause-refused c =
    let m = with_labels c.args.net.now c.args.labels.now in
    let b = c.in-Ok.builder in
    let given = c.in-Ok.ensures in
    let error = c.in-Err-close.error in
    elim (cases_eq (net_number error) 0) [
      | inl memory ↦ inl (c.error_of.ensures.memory memory)
      | inr other ↦ inr (
        c.error_of.ensures.constraints other,
        refused_long c.handed_networks_are_closed.ensures.memory m c.requires.labelled b given.deadline (same_observes c.args.net.now b.points given.points)
            (same_reaction c.args.net.now b.points given.points) given.constraints error c.in-Err-close.ensures.refused other,
      )
    ]
