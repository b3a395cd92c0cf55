use Rattle.std.proofs.Common.{ap, ◌∙◌, None}
use Rattle.std.specs.Option.{option_map}
use Rattle.cstn_run.specs.hosted.Hosts.{HostParts}
use Rattle.cstn_run.specs.hosted.Calls.{Close, host_after}
use Rattle.cstn_run.specs.hosted.Read.{the_opened}
use Rattle.cstn_run.proofs.hosts.CaseLemmas.{after_put, closed_after}
use Rattle.cstn_run.proofs.hosted.hosts.Host.close.Goals as goal

pub returns-clause-after : goal.returns-clause-after
returns-clause-after c =
    let plans = c.self.inside.plans.items in
    let d = c.index_mut.result.now in
    after_put plans c.self.inside.cases.items c.args.id c.in_ok-place.place d None Close c.self.invariant
    (record { is_place = c.in_ok-place.ensures.place.0; is_small = c.in_ok-place.ensures.place.1; is_item = c.index_mut.ensures.value })
    (closed_after plans (option_map the_opened d))
    ∙ ap (λ (h : HostParts). host_after h c.args.id Close) c.self.view_is
