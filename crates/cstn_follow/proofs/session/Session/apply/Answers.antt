use Rattle.std.proofs.Common.{ℕ, ◌<◌, refl, sym, subst, ap, ◌∙◌}
use Rattle.std.specs.List.{All}
use Rattle.cstn_lift.specs.Read.{the_labelled}
use Rattle.cstn_change.specs.Read.{the_change}
use Rattle.cstn_change.specs.Changes.{fresh_after}
use Rattle.cstn_follow.proofs.Changed.{changed_by, kept_replanned, many_changed}
use Rattle.cstn_follow.proofs.session.Session.apply.Goals as goal

pub returns-in_default-clause-edited : goal.returns-in_default-clause-edited
returns-in_default-clause-edited c =
    let many = rw c.in_default.is at c.in-Ok.ensures.many in
    (many_changed c.args.self.now c.network.result.now c.network.ensures.network c.fresh.result (the_change c.args.change) c.fresh.ensures.fresh many, refl)

pub replan-requires-clause-kept : goal.replan-requires-clause-kept
replan-requires-clause-kept c =
    let s = c.args.self.now in
    let m = the_labelled c.in-Some.network in
    let made = rw c.in-Some.is at c.in-Ok.ensures.edited in
    let is = changed_by s m c.network.result.now c.fresh.result (the_change c.args.change) c.network.ensures.network c.fresh.ensures.fresh made in
    kept_replanned s m _ _ c.network.ensures.session is

pub replan-requires-clause-above : goal.replan-requires-clause-above
replan-requires-clause-above c =
    let below = rw c.in-Some.is at c.in-Ok.ensures.above in
    let same = ap (λ (n : ℕ). fresh_after n (the_change c.args.change)) (c.fresh.ensures.fresh ∙ sym c.fresh-2.ensures.fresh) in
    subst (λ (n : ℕ). All (λ d. d.id < n) (the_labelled c.in-Some.network).base.constraints) (same ∙ sym c.fresh_after-fresh.ensures.fresh) below
