use Rattle.std.proofs.Common.{sym, subst, ap, ◌≡◌, ◌∙◌, None, Some}
use Rattle.std.specs.Prelude.{Option}
use Rattle.std.specs.Option.{MatchOption}
use Rattle.cstn_label.specs.declared.props.Prop.{Prop}
use Rattle.cstn_net.specs.Read.{the_network}
use Rattle.cstn_plan.specs.Plans.{the_bounds}
use Rattle.cstn_exec.specs.Moves.{Awaiting, moment_refusal}
use Rattle.cstn_exec.specs.Read.{the_event_refusal, event_refusal, moved_on}
use Rattle.cstn_tree.proofs.MakingLemmas.{waits_for}
use Rattle.cstn_tree.proofs.making.move_on.Goals as goal

pub returns-in-Err-clause-moves : goal.returns-in-Err-clause-moves
returns-in-Err-clause-moves c =
    let net = the_network c.args.exec.now.net in
    let bounds = the_bounds c.args.exec.now.bounds in
    let refusal = moment_refusal net bounds c.args.exec.now.run c.args.t in
    let waits = waits_for c.awaited_by.result refusal (the_event_refusal c.in-Err.refusal) (sym c.moment.ensures.refused ∙ ap event_refusal c.in-Err.is)
    (c.due_is_exact.ensures.waits net bounds c.args.exec.now.run c.args.t c.requires.due) c.awaited_by.ensures in
    subst (λ (r : Option Prop). MatchOption r (refusal ≡ None) (λ (p : Prop). refusal ≡ Some (Awaiting p.index))) (sym waits.1) waits.2

pub returns-in-Err-clause-moved : goal.returns-in-Err-clause-moved
returns-in-Err-clause-moved c =
    let net = the_network c.args.exec.now.net in
    let bounds = the_bounds c.args.exec.now.bounds in
    let refusal = moment_refusal net bounds c.args.exec.now.run c.args.t in
    let waits = waits_for c.awaited_by.result refusal (the_event_refusal c.in-Err.refusal) (sym c.moment.ensures.refused ∙ ap event_refusal c.in-Err.is)
    (c.due_is_exact.ensures.waits net bounds c.args.exec.now.run c.args.t c.requires.due) c.awaited_by.ensures in
    subst (λ (r : Option Prop). MatchOption r (c.moment.new.self ≡ moved_on c.args.exec.now c.args.t) (λ (p : Prop). c.moment.new.self ≡ c.args.exec.now)) (sym waits.1) c.in-Err.ensures.same
