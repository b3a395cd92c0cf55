use Rattle.std.proofs.Common.{ap, sym, subst, ◌∙◌, Some, false, List}
use Rattle.std.specs.Prelude.{slice_index_or, length, ◌<◌, []}
use Rattle.cstn_net.specs.Networks.{count}
use Rattle.cstn_net.specs.Read.{the_network}
use Rattle.cstn_plan.specs.Plans.{PlanParts}
use Rattle.cstn_exec.specs.Runs.{start_of_run}
use Rattle.cstn_run.specs.hosted.Hosts.{HostParts, no_plan}
use Rattle.cstn_run.specs.hosted.Calls.{Open, host_after}
use Rattle.cstn_run.proofs.hosts.CaseLemmas.{after_put, opened_on, is_closed}
use Rattle.cstn_run.proofs.hosted.hosts.Host.open.Goals as goal

pub returns-in-Ok-clause-after : goal.returns-in-Ok-clause-after
returns-in-Ok-clause-after c =
    let plans = c.self.inside.plans.items in
    let d = c.index.result.now in
    let looked = c.in-Some.ensures.lookup in
    let inside = subst (λ (ps : List PlanParts). c.args.file < length ps) c.deref.ensures.value looked.3.0 in
    let plan = looked.3.1 no_plan ∙ ap (λ (ps : List PlanParts). slice_index_or ps c.args.file no_plan) c.deref.ensures.value in
    let started = c.in-Ok.ensures ∙ ap (λ (p : PlanParts). record { net = record p.net { spare = 0 }; bounds = p.bounds; run = start_of_run (count (the_network p.net)); named = [] }) plan in
    after_put plans c.self.inside.cases.items c.args.id c.in_ok-place.place d (Some (record { file = c.args.file; executive = c.in-Ok.executive })) (Open c.args.file false) c.self.invariant
    (record { is_place = c.in_ok-place.ensures.place.0; is_small = c.in_ok-place.ensures.place.1; is_item = c.index.ensures })
    (opened_on plans c.args.file d c.in-Ok.executive (is_closed d (sym c.if-is_some.ensures)) inside started)
    ∙ ap (λ (h : HostParts). host_after h c.args.id (Open c.args.file false)) c.self.view_is
