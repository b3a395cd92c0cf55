use Rattle.std.proofs.Common.{rules, ℕ, Option, List, None, replicate, arith, sym, subst, ap, ◌∙◌}
use Rattle.cstn_net.specs.Networks.{IsWellFormed}
use Rattle.cstn_net.specs.Strategies.{Table}
use Rattle.cstn_net.specs.Read.{the_network}
use Rattle.cstn_plan.specs.Plans.{IsEarliest, the_bounds}
use Rattle.cstn_exec.specs.Right.{IsRightRun}
use Rattle.cstn_exec.specs.Read.{ExecParts}
use Rattle.cstn_exec.proofs.Moving.{start_right}
use Rattle.cstn_exec.proofs.executive.Executive.restart.Goals as goal

pub invariant_of-self : goal.invariant_of-self
invariant_of-self c =
    let net = the_network c.self.inside.plan.net in
    let size = c.self.inside.moments.ok.0 ∙ c.self.invariant.right.moments in
    let items = c.fill.ensures.items (λ y h. search rules) ∙ ap (λ (n : ℕ). replicate n None) size in
    let well_formed = subst (λ (e : ExecParts). IsWellFormed (the_network e.net)) (sym c.self.view_is) c.is_right.ensures.well_formed in
    let earliest = subst (λ (e : ExecParts). (table : Table) × IsEarliest (the_network e.net) (the_bounds e.bounds) table) (sym c.self.view_is) c.is_right.ensures.earliest in
    let right = start_right net (the_bounds c.self.inside.plan.bounds) earliest.0 well_formed earliest.1 in
    record {
      right = subst (λ (ms : List (Option ℕ)). IsRightRun net (record { now = None; moments = ms; outcomes = replicate 52 None })) (sym items) right;
      in_time = omega arith;
      room = let capacity = c.clear.ensures.capacity in let room = c.self.invariant.room in omega arith;
    }
