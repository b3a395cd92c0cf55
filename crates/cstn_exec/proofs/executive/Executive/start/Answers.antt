use Rattle.std.proofs.Common.{ℕ, Option, List, None, replicate, arith, sym, subst, ap, ◌∙◌}
use Rattle.cstn_net.specs.Networks.{count}
use Rattle.cstn_net.specs.Read.{NetworkParts, the_network}
use Rattle.cstn_plan.specs.Plans.{the_bounds}
use Rattle.cstn_exec.specs.Runs.{start_of_run}
use Rattle.cstn_exec.specs.Right.{IsRightRun}
use Rattle.cstn_exec.proofs.Moving.{start_right}
use Rattle.cstn_exec.proofs.Filled.{filled}
use Rattle.cstn_exec.proofs.executive.Executive.start.Goals as goal

pub invariant_of-result : goal.invariant_of-result
invariant_of-result c =
    let net = c.network.ensures.network in
    let size = c.count-count.ensures.count ∙ ap (λ (n : NetworkParts). count (the_network n)) net in
    let items = filled c.in_ok-moments.moments.items c.resize.new.self.items c.count-count.result _ c.in_ok-moments.ensures.items c.in_ok-moments.ensures.len c.in_ok-resize.ensures.items in
    let moments = items ∙ ap (λ (n : ℕ). replicate n None) size in
    let right = start_right (the_network c.network.result.now) (the_bounds c.args.plan.bounds) c.network.ensures.earliest.0 c.network.ensures.well_formed c.network.ensures.earliest.1 in
    let there = subst (λ (n : NetworkParts). IsRightRun (the_network n) (start_of_run (count (the_network n)))) net right in
    record {
      right = subst (λ (ms : List (Option ℕ)). IsRightRun (the_network c.args.plan.net) (record { now = None; moments = ms; outcomes = replicate 52 None })) (sym moments) there;
      in_time = omega arith;
      room = let capacity = c.in_ok-named.ensures.capacity in omega arith;
    }
