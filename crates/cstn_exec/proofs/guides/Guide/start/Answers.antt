use Rattle.std.proofs.Common.{ℕ, ◌≡◌, Bool, List, false, replicate, arith, sym, subst, ap, ◌∙◌}
use Rattle.cstn_net.specs.Networks.{Network, IsWellFormed, count}
use Rattle.cstn_net.specs.Strategies.{Table}
use Rattle.cstn_net.specs.Read.{NetworkParts, the_network}
use Rattle.cstn_plan.specs.Plans.{IsEarliest, the_bounds}
use Rattle.cstn_lift.specs.Lowered.{lowered}
use Rattle.cstn_lift.specs.Read.{the_labelled}
use Rattle.cstn_exec.specs.Runs.{Run, start_of_run}
use Rattle.cstn_exec.specs.Read.{ExecParts}
use Rattle.cstn_exec.specs.Sound.{IsGuided}
use Rattle.cstn_exec.proofs.Advancing.{begun_guided}
use Rattle.cstn_exec.proofs.GuideSteps.{filled_with}
use Rattle.cstn_exec.proofs.guides.Guide.start.Goals as goal

pub invariant_of-result : goal.invariant_of-result
invariant_of-result c =
    let m = the_labelled c.args.labels in
    let executive = c.in_ok-executive.executive in
    let is = c.in_ok-executive.ensures.start in
    let net : the_network executive.net ≡ lowered m = ap (λ (e : ExecParts). the_network e.net) is ∙ c.requires.lowered in
    let wf = subst IsWellFormed net (subst (λ (n : NetworkParts). IsWellFormed (the_network n)) c.network.ensures.network
    (subst (λ (n : NetworkParts). IsWellFormed (the_network n)) (sym c.network.ensures.network) c.network.ensures.well_formed)) in
    let plan = subst (λ (n : Network). (table : Table) × IsEarliest n (the_bounds executive.bounds) table) net c.network.ensures.earliest in
    let base = ap (λ (n : NetworkParts). count (the_network n)) c.base.ensures.base in
    let size : c.count-count.result ≡ count m.base = c.count-count.ensures.count ∙ base in
    let run : executive.run ≡ start_of_run (count m.base) = ap (λ (e : ExecParts). e.run) is ∙ ap (λ (n : Network). start_of_run (count n)) c.requires.lowered in
    let left : c.resize.new.self.items ≡ replicate (count m.base) false =
    filled_with c.in_ok-left.left.items c.resize.new.self.items c.count-count.result _ c.in_ok-left.ensures.items c.in_ok-left.ensures.len c.in_ok-resize.ensures.items
    ∙ ap (λ (n : ℕ). replicate n false) size in
    record {
      lowered = net;
      labelled = c.base.ensures.labelled;
      guided = subst (λ (r : Run). IsGuided m (record { run = r; left = c.resize.new.self.items })) (sym run)
          (subst (λ (l : List Bool). IsGuided m (record { run = start_of_run (count m.base); left = l })) (sym left)
          (begun_guided m (the_bounds executive.bounds) plan.0 wf plan.1));
      room = let capacity = c.in_ok-named.ensures.capacity in omega arith;
    }
