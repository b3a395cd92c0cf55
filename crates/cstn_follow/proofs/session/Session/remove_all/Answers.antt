use Rattle.std.proofs.Common.{◌+◌, length, ap, ◌∙◌}
use Rattle.std.specs.Prelude.{Err}
use Rattle.cstn_lift.specs.Read.{the_labelled}
use Rattle.cstn_follow.specs.Sessions.{SessionParts}
use Rattle.cstn_follow.proofs.Forgave.{less_is, less_labelled, less_few, less_kept, less_above, less_said, less_made}
use Rattle.cstn_follow.proofs.session.Session.remove_all.Goals as goal

pub with_base-requires-clause-labelled : goal.with_base-requires-clause-labelled
with_base-requires-clause-labelled c =
    let s = c.args.self.now in
    let ids = c.args.ids.now in
    let is = less_is s ids c.network.result.now c.network-2.result.now c.base.result.now c.in_ok-base.base c.network.ensures.network c.network-2.ensures.network
    c.base.ensures.base c.in_ok-base.ensures.without in
    less_labelled s ids c.network.ensures.session _ is

pub with_base-requires-clause-few : goal.with_base-requires-clause-few
with_base-requires-clause-few c =
    let s = c.args.self.now in
    let ids = c.args.ids.now in
    let is = less_is s ids c.network.result.now c.network-2.result.now c.base.result.now c.in_ok-base.base c.network.ensures.network c.network-2.ensures.network
    c.base.ensures.base c.in_ok-base.ensures.without in
    less_few s ids c.network.ensures.session _ is

pub replan-requires-clause-kept : goal.replan-requires-clause-kept
replan-requires-clause-kept c =
    let s = c.args.self.now in
    let ids = c.args.ids.now in
    let is = less_is s ids c.network.result.now c.network-2.result.now c.base.result.now c.in_ok-base.base c.network.ensures.network c.network-2.ensures.network
    c.base.ensures.base c.in_ok-base.ensures.without in
    less_kept s ids c.network.ensures.session (the_labelled c.in_ok-network.network) (c.in_ok-network.ensures.base ∙ is)

pub replan-requires-clause-above : goal.replan-requires-clause-above
replan-requires-clause-above c =
    let s = c.args.self.now in
    let ids = c.args.ids.now in
    let is = less_is s ids c.network.result.now c.network-2.result.now c.base.result.now c.in_ok-base.base c.network.ensures.network c.network-2.ensures.network
    c.base.ensures.base c.in_ok-base.ensures.without in
    less_above s ids c.network.ensures.session (the_labelled c.in_ok-network.network) (c.in_ok-network.ensures.base ∙ is) c.fresh.result c.fresh.ensures.fresh

pub unreachable-requires : goal.unreachable-requires
unreachable-requires c =
    let s = c.args.self.now in
    let ids = c.args.ids.now in
    let is = less_is s ids c.network.result.now c.network-2.result.now c.base.result.now c.in_ok-base.base c.network.ensures.network c.network-2.ensures.network
    c.base.ensures.base c.in_ok-base.ensures.without in
    less_said s ids c.network.ensures.session (the_labelled c.in_ok-network.network) (c.in_ok-network.ensures.base ∙ is) c.fresh.result _ c.replan.new.self
    c.replan.result c.fresh.ensures.fresh (c.in-Err-TooManyConstraints.is ∙ ap (λ e. Err e) c.in-Err-TooManyConstraints.field-0-is) c.replan.ensures.replanned

pub returns-in-Ok-clause-forgiven : goal.returns-in-Ok-clause-forgiven
returns-in-Ok-clause-forgiven c =
    let s = c.args.self.now in
    let ids = c.args.ids.now in
    let is = less_is s ids c.network.result.now c.network-2.result.now c.base.result.now c.in_ok-base.base c.network.ensures.network c.network-2.ensures.network
    c.base.ensures.base c.in_ok-base.ensures.without in
    less_made s ids c.network.ensures.session (the_labelled c.in_ok-network.network) (c.in_ok-network.ensures.base ∙ is) c.fresh.result _
    c.replan.new.self c.in-Ok.verdict c.requires.broken c.fresh.ensures.fresh (ap (λ (p : SessionParts). p.edits + length ids) c.self.view_is)
    c.in-Ok.ensures.replanned
