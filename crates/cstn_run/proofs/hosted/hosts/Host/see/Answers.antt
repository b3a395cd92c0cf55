use Rattle.std.proofs.Common.{ap, ◌∙◌}
use Rattle.cstn_exec.specs.Answers.{See}
use Rattle.cstn_run.specs.hosted.Hosts.{HostParts}
use Rattle.cstn_run.specs.hosted.Calls.{Pass, host_after}
use Rattle.cstn_run.proofs.hosts.CaseLemmas.{IsAt, over_at, after_put}
use Rattle.cstn_run.proofs.hosted.hosts.Host.see.Goals as goal

pub returns-clause-after : goal.returns-clause-after
returns-clause-after c =
    let plans = c.self.inside.plans.items in
    let cases = c.self.inside.cases.items in
    let place = c.in_ok-place.place in
    let d = c.index_mut.result.now in
    let here : IsAt cases c.args.id place d = record { is_place = c.in_ok-place.ensures.place.0; is_small = c.in_ok-place.ensures.place.1; is_item = c.index_mut.ensures.value } in
    after_put plans cases c.args.id place d c.pass_outcome.new.case (Pass (See c.args.p.index c.args.value)) c.self.invariant here
    (c.pass_outcome.ensures.after plans (over_at plans cases c.args.id place d c.self.invariant here))
    ∙ ap (λ (h : HostParts). host_after h c.args.id (Pass (See c.args.p.index c.args.value))) c.self.view_is
