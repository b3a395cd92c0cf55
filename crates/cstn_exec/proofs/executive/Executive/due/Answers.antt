use Rattle.std.proofs.Common.{refl, sym, ◌∙◌}
use Rattle.std.proofs.lemmas.Bool.{true≢false}
use Rattle.cstn_net.specs.Read.{the_network}
use Rattle.cstn_plan.specs.Plans.{the_bounds}
use Rattle.cstn_exec.proofs.Dues.{done_from, done_to, due_is_due, carried_out}
use Rattle.cstn_exec.proofs.executive.Executive.due.Goals as goal

pub returns-then-is_done-clause-none : goal.returns-then-is_done-clause-none
returns-then-is_done-clause-none c = (
  (λ h. done_from (the_network c.args.self.now.net) c.args.self.now.run c.is_right.ensures.right.moments (sym c.is_done.ensures ∙ c.if-is_done.true)),
  (λ all. refl),
)

pub returns-then-is_done-clause-carried_out : goal.returns-then-is_done-clause-carried_out
returns-then-is_done-clause-carried_out c =
    let known = c.is_right.ensures in
    carried_out (the_network c.args.self.now.net) (the_bounds c.args.self.now.bounds) known.earliest.0 known.well_formed known.earliest.1
    c.args.self.now.run known.right
    (done_from (the_network c.args.self.now.net) c.args.self.now.run known.right.moments (sym c.is_done.ensures ∙ c.if-is_done.true))

pub returns-else-is_done-clause-none : goal.returns-else-is_done-clause-none
returns-else-is_done-clause-none c = (
  (λ h. absurd (true≢false h)),
  (λ all. absurd (true≢false (sym (done_to (the_network c.args.self.now.net) c.args.self.now.run c.is_right.ensures.right.moments all)
      ∙ sym c.is_done.ensures ∙ c.if-is_done.false))),
)

pub returns-else-is_done-clause-first : goal.returns-else-is_done-clause-first
returns-else-is_done-clause-first c =
    let known = c.is_right.ensures in
    let net = the_network c.args.self.now.net in
    let bounds = the_bounds c.args.self.now.bounds in
    (due_is_due net bounds known.earliest.0 known.well_formed known.earliest.1 c.args.self.now.run known.right c.first_due.result.moment
    c.first_due.ensures.due).0

pub returns-else-is_done-clause-in_time : goal.returns-else-is_done-clause-in_time
returns-else-is_done-clause-in_time c =
    let known = c.is_right.ensures in
    let net = the_network c.args.self.now.net in
    let bounds = the_bounds c.args.self.now.bounds in
    (due_is_due net bounds known.earliest.0 known.well_formed known.earliest.1 c.args.self.now.run known.right c.first_due.result.moment
    c.first_due.ensures.due).1
