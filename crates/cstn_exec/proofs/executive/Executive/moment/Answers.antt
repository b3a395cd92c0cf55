use Rattle.std.proofs.Common.{ℕ, Option, List, Some, ◌<◌, map, length, arith, sym, subst, ap, ◌∙◌}
use Rattle.std.specs.Prelude.{◌↔◌}
use Rattle.std.specs.List.{All, Contains}
use Rattle.std.specs.List.Sorted.{IsStrictlyIncreasing}
use Rattle.cstn_label.specs.declared.nodes.NodeId.{NodeId}
use Rattle.cstn_net.specs.Networks.{count}
use Rattle.cstn_net.specs.Read.{the_network}
use Rattle.cstn_plan.specs.Plans.{the_bounds}
use Rattle.cstn_exec.specs.Runs.{Run, is_free}
use Rattle.cstn_exec.specs.Moves.{executed}
use Rattle.cstn_exec.specs.Right.{IsRightRun, IsCalled}
use Rattle.cstn_exec.specs.Read.{ExecParts, event_refusal}
use Rattle.cstn_exec.proofs.Dues.{accepted_right}
use Rattle.cstn_exec.proofs.Refusals.{called_exactly, called_ascend}
use Rattle.cstn_exec.proofs.Naming.{named_within}
use Rattle.cstn_exec.proofs.executive.Executive.moment.Goals as goal

pub execute-requires : goal.execute-requires
execute-requires c =
    let net = the_network c.args.self.now.net in
    let bounds = the_bounds c.args.self.now.bounds in
    let view = c.self.view_is ∙ c.name.ensures in
    let names = ap (map (λ x. x.0)) c.as_slice.ensures ∙ ap (λ (e : ExecParts). e.named) view in
    let moments = ap (length {A = Option ℕ}) (ap (λ (e : ExecParts). e.run.moments) view) in
    let size = c.is_right.ensures.right.moments in
    subst (λ (n : ℕ). All (λ (x : NodeId). x.0 < n) c.as_slice.result.now) (omega arith)
    (named_within c.as_slice.result.now (is_free net bounds c.args.self.now.run c.args.t) (count net) names)

pub invariant_of-self : goal.invariant_of-self
invariant_of-self c =
    let net = the_network c.args.self.now.net in
    let bounds = the_bounds c.args.self.now.bounds in
    let known = c.is_right.ensures in
    let none = sym c.due_if_accepted.ensures.refused ∙ ap event_refusal c.in-Ok.is in
    let ok = accepted_right net bounds known.earliest.0 known.well_formed known.earliest.1 c.args.self.now.run known.right c.args.t none in
    let view = c.self.view_is ∙ c.name.ensures in
    let after : ExecParts → Run = λ e. record { now = Some c.args.t; moments = executed c.args.t e.named e.run.moments; outcomes = e.run.outcomes } in
    let right = subst (λ (e : ExecParts). IsRightRun (the_network e.net) (after e)) (sym view) ok.0 in
    let moments = c.execute.ensures ∙ ap (λ (ns : List NodeId). executed c.args.t (map (λ x. x.0) ns) c.self.inside.moments.items) c.as_slice.ensures in
    let deadline = ap (λ (e : ExecParts). e.net.deadline) view in
    let upto = ok.1 in
    record {
      right = subst (λ (ms : List (Option ℕ)). IsRightRun (the_network c.self.inside.plan.net) (record { now = Some c.args.t; moments = ms; outcomes = c.self.inside.outcomes }))
          (sym moments) right;
      in_time = omega arith;
      room = c.self.invariant.room;
    }

pub returns-clause-named : goal.returns-clause-named
returns-clause-named c x =
    let net = the_network c.args.self.now.net in
    let bounds = the_bounds c.args.self.now.bounds in
    let known = c.is_right.ensures in
    let none = sym c.due_if_accepted.ensures.refused ∙ ap event_refusal c.in-Ok.is in
    let names = ap (λ (e : ExecParts). e.named) (c.self.view_is ∙ c.name.ensures) in
    subst (λ (ns : List ℕ). Contains ns x ↔ IsCalled net c.args.self.now.run c.args.t x) (sym names)
    (called_exactly net bounds known.earliest.0 c.args.self.now.run c.args.t known.well_formed known.earliest.1 known.right none x)

pub returns-clause-ascending : goal.returns-clause-ascending
returns-clause-ascending c =
    subst (λ (ns : List ℕ). IsStrictlyIncreasing ns) (sym (ap (λ (e : ExecParts). e.named) (c.self.view_is ∙ c.name.ensures)))
    (called_ascend (the_network c.args.self.now.net) (the_bounds c.args.self.now.bounds) c.args.self.now.run c.args.t)
