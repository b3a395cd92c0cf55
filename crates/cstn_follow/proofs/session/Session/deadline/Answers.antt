use Rattle.std.proofs.Common.{ℕ, ◌<◌, List, refl, sym, subst, ap}
use Rattle.std.specs.List.{All}
use Rattle.cstn_net.specs.Networks.{Constraint}
use Rattle.cstn_lift.specs.Labelled.{Labelled}
use Rattle.cstn_lift.specs.Read.{the_labelled}
use Rattle.cstn_follow.proofs.Changed.{due_by, kept_replanned, many_due}
use Rattle.cstn_follow.proofs.session.Session.deadline.Goals as goal

pub returns-in_default-clause-due : goal.returns-in_default-clause-due
returns-in_default-clause-due c =
    let many = rw c.in_default.is at c.in-Ok.ensures.many in
    (many_due c.args.self.now c.network.result.now c.network.ensures.network c.args.deadline many, refl)

pub replan-requires-clause-kept : goal.replan-requires-clause-kept
replan-requires-clause-kept c =
    let s = c.args.self.now in
    let m = the_labelled c.in-Some.network in
    let made = rw c.in-Some.is at c.in-Ok.ensures.edited in
    let is = due_by s m c.network.result.now c.args.deadline c.network.ensures.network made in
    kept_replanned s m _ _ c.network.ensures.session is

pub replan-requires-clause-above : goal.replan-requires-clause-above
replan-requires-clause-above c =
    let s = c.args.self.now in
    let m = the_labelled c.in-Some.network in
    let made = rw c.in-Some.is at c.in-Ok.ensures.edited in
    let is = due_by s m c.network.result.now c.args.deadline c.network.ensures.network made in
    subst (λ (n : ℕ). All (λ d. d.id < n) m.base.constraints) (sym c.fresh.ensures.fresh)
    (subst (λ (cs : List Constraint). All (λ d. d.id < s.fresh) cs) (sym (ap (λ (n : Labelled). n.base.constraints) is))
    c.network.ensures.session.execution.above)
