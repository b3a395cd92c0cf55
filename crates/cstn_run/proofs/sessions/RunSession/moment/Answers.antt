use Rattle.std.proofs.Common.{length, map, string_bytes, arith, ap, sym, ◌∙◌, ◌++◌, codes, decimal}
use Rattle.cstn_plan.specs.Plans.{the_bounds}
use Rattle.cstn_lift.specs.Read.{the_labelled}
use Rattle.cstn_exec.specs.GuideRead.{GuideParts}
use Rattle.cstn_exec.specs.Read.{the_event_refusal}
use Rattle.std.proofs.lemmas.List.{length-map}
use Rattle.cstn_exec.specs.Running.{spaced, the_nodes}
use Rattle.cstn_run.proofs.Names.{named_inside, named_few}
use Rattle.cstn_run.proofs.Runs.{moment_refused, moment_goes_on, moment_ends, moment_text, line_ends, from_empty}
use Rattle.cstn_run.proofs.sessions.RunSession.moment.Goals as goal

pub put_moment-requires-clause-inside : goal.put_moment-requires-clause-inside
put_moment-requires-clause-inside c =
    let e = c.self.inside.guide in
    named_inside (the_labelled e.labelled) (the_bounds e.bounds) e.state.run c.args.t c.named.result.now _ (c.named.ensures.named ∙ ap (λ (x : GuideParts). x.named) c.in_default.ensures.advanced)
    (ap length c.deref.ensures.value ∙ sym (length-map c.self.inside.names.items string_bytes) ∙ c.self.invariant.all)

pub put_moment-requires-clause-room : goal.put_moment-requires-clause-room
put_moment-requires-clause-room c =
    let e = c.self.inside.guide in
    let few = named_few (the_labelled e.labelled) (the_bounds e.bounds) e.state.run c.args.t c.named.result.now (c.named.ensures.named ∙ ap (λ (x : GuideParts). x.named) c.in_default.ensures.advanced) in
    omega (arith, few, c.self.invariant.few, ap length c.requires.empty)

pub returns-clause-turn : goal.returns-clause-turn
returns-clause-turn c =
    let e = c.self.inside.guide in
    moment_goes_on c.args.self.now e c.moment.new.self (map string_bytes c.self.inside.names.items) c.args.t _ c.put_moment.new.text c.self.view_is c.in_default.ensures.refused c.in_default.ensures.advanced c.in-Some.ensures.due
    (moment_text c.self.inside.names.items c.deref.result.now c.args.t c.named.result.now _ _ (from_empty _ _ _ c.put_moment.ensures.items c.requires.empty) c.deref.ensures.value (c.named.ensures.named ∙ ap (λ (x : GuideParts). x.named) c.in_default.ensures.advanced))

pub returns-clause-lines : goal.returns-clause-lines
returns-clause-lines c = λ is. line_ends c.put_moment.new.text (codes "at " ++ decimal c.args.t ++ spaced (map string_bytes c.deref.result.now) (the_nodes c.named.result.now)) (from_empty _ _ _ c.put_moment.ensures.items c.requires.empty)

pub put_due-requires : goal.put_due-requires
put_due-requires c =
    let e = c.self.inside.guide in
    let few = named_few (the_labelled e.labelled) (the_bounds e.bounds) e.state.run c.args.t c.named.result.now (c.named.ensures.named ∙ ap (λ (x : GuideParts). x.named) c.in_default.ensures.advanced) in
    record { room = omega (arith, few, c.self.invariant.few, c.put_moment.ensures.short, ap length c.requires.empty) }

pub returns-in_default-due-clause-turn : goal.returns-in_default-due-clause-turn
returns-in_default-due-clause-turn c =
    let e = c.self.inside.guide in
    moment_ends c.args.self.now e c.moment.new.self (map string_bytes c.self.inside.names.items) c.args.t c.put_moment.new.text c.put_due.new.text c.self.view_is c.in_default.ensures.refused c.in_default.ensures.advanced c.in_default-due.ensures.due
    (moment_text c.self.inside.names.items c.deref.result.now c.args.t c.named.result.now _ _ (from_empty _ _ _ c.put_moment.ensures.items c.requires.empty) c.deref.ensures.value (c.named.ensures.named ∙ ap (λ (x : GuideParts). x.named) c.in_default.ensures.advanced))
    c.put_due.ensures

pub returns-in-Err-clause-turn : goal.returns-in-Err-clause-turn
returns-in-Err-clause-turn c =
    moment_refused c.args.self.now c.self.inside.guide c.moment.new.self (map string_bytes c.self.inside.names.items) c.args.t (the_event_refusal c.in-Err.error) c.put_refusal.new.text c.self.view_is c.in-Err.ensures.refused c.in-Err.ensures.same
    (from_empty _ _ _ c.put_refusal.ensures c.requires.empty)
