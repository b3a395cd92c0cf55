use Rattle.std.proofs.Common.{◌≡◌, ◌<◌, ◌≤◌, length, arith, sym, subst, ap, ◌∙◌}
use Rattle.std.specs.List.{All}
use Rattle.cstn_net.specs.Limits.{most_constraints}
use Rattle.cstn_net.specs.Networks.{Network}
use Rattle.cstn_net.specs.Read.{the_network}
use Rattle.cstn_lift.specs.Labelled.{Labelled}
use Rattle.cstn_lift.specs.Lowered.{lowered}
use Rattle.cstn_lift.specs.Read.{the_labelled}
use Rattle.cstn_lift.specs.WellFormed.{IsLabelled}
use Rattle.cstn_history.specs.Rest.{rest}
use Rattle.cstn_history.specs.Read.{the_history, IsKeptFor}
use Rattle.cstn_history.specs.Handed.{HasFewConstraints}
use Rattle.cstn_check.specs.Needs.{said}
use Rattle.cstn_follow.specs.Tries.{with_base}
use Rattle.cstn_follow.specs.Needs.{sources}
use Rattle.cstn_follow.proofs.Fewer.{stands_by}
use Rattle.cstn_follow.specs.Blame.{network_alone}
use Rattle.cstn_follow.proofs.Parts.{not_too_many}
use Rattle.cstn_follow.proofs.blames.said_by.Goals as goal

pub with_base-requires-clause-labelled : goal.with_base-requires-clause-labelled
with_base-requires-clause-labelled c =
    let m = the_labelled c.args.network.now in
    subst (λ (n : Network). IsLabelled (with_base m n)) (sym c.requires.part.1)
    (c.parts_are_labelled.ensures.labelled m c.requires.part.0 c.base.ensures.labelled)

pub with_base-requires-clause-few : goal.with_base-requires-clause-few
with_base-requires-clause-few c =
    let m = the_labelled c.args.network.now in
    let short = c.parts_are_labelled.ensures.short m c.requires.part.0 c.base.ensures.labelled in
    let few = subst (λ (n : Network). length n.constraints ≤ most_constraints) c.lowered.ensures.lowered c.lowered.ensures.well_formed.few_constraints in
    subst (λ (n : Network). length (lowered (with_base m n)).constraints ≤ most_constraints) (sym c.requires.part.1) (omega arith)

pub rest-requires-clause-kept : goal.rest-requires-clause-kept
rest-requires-clause-kept c =
    let m = the_labelled c.args.network.now in
    let h = the_history c.args.history.now in
    let kept = c.requires.tries.kept in
    let part = network_alone m c.requires.part.0 in
    let timely = c.edits_keep_histories.ensures.history m h m.base.deadline part.base.constraints kept.history kept.in_time in
    subst (λ (l : Labelled). IsKeptFor l c.args.history.now) (sym (c.in_ok-less.ensures.base ∙ ap (with_base m) c.requires.part.1))
    (record { one_each = kept.one_each; wide = kept.wide; ready_each = kept.ready_each; history = timely.history; in_time = timely.in_time })

pub rest-requires-clause-above : goal.rest-requires-clause-above
rest-requires-clause-above c =
    let m = the_labelled c.args.network.now in
    subst (λ (l : Labelled). All (λ d. d.id < c.args.fresh) l.base.constraints)
    (sym (c.in_ok-less.ensures.base ∙ ap (with_base m) c.requires.part.1))
    (c.parts_are_labelled.ensures.above m c.requires.part.0 c.args.fresh c.requires.tries.above)

pub rest-requires-clause-room : goal.rest-requires-clause-room
rest-requires-clause-room c = c.requires.tries.low

pub unreachable-requires : goal.unreachable-requires
unreachable-requires c =
    let m = the_labelled c.args.network.now in
    let h = the_history c.args.history.now in
    let left = rest (the_labelled c.in_ok-less.less) h c.args.fresh in
    let room = subst (λ (l : Labelled). HasFewConstraints (rest l h c.args.fresh)) (sym (c.in_ok-less.ensures.base ∙ ap (with_base m) c.requires.part.1))
    (c.parts_are_labelled.ensures.room m c.requires.part.0 h c.args.fresh c.base.ensures.labelled c.requires.tries.room) in
    not_too_many left c.in-Err-TooManyConstraints.field-0 room c.in-Err-TooManyConstraints.ensures.refused c.in-Err-TooManyConstraints.field-0-is

pub returns-clause-said : goal.returns-clause-said
returns-clause-said c =
    let h = the_history c.args.history.now in
    c.in_ok-said.ensures.said
    ∙ ap (said c.args.cap.entries)
    (c.split-net.ensures.lowered ∙ ap lowered (c.in-Ok.ensures.rest ∙ ap (λ (l : Labelled). rest l h c.args.fresh) c.in_ok-less.ensures.base))

pub returns-clause-stands : goal.returns-clause-stands
returns-clause-stands c =
    let m = the_labelled c.args.network.now in
    let h = the_history c.args.history.now in
    let left = c.in-Ok.ensures.rest ∙ ap (λ (l : Labelled). rest l h c.args.fresh) c.in_ok-less.ensures.base in
    let same : c.deref.result.now ≡ c.in_ok-sources.sources.items = cc in
    stands_by m h c.args.fresh c.args.cap.entries (the_network c.args.base) (the_network c.split-net.result.0) c.deref.result.now c.in_ok-said.said c.requires.part
    (c.split-net.ensures.lowered ∙ ap lowered left) (same ∙ c.in_ok-sources.ensures ∙ ap sources left) c.in_ok-said.ensures.needed
