use Rattle.std.proofs.Common.{ℕ, arith, sym, ap, ◌∙◌}
use Rattle.std.specs.Prelude.{is_some}
use Rattle.std.specs.Option.{option_map}
use Rattle.cstn_net.specs.Read.{the_network}
use Rattle.cstn_plan.specs.Plans.{the_bounds}
use Rattle.cstn_exec.proofs.Dues.{someone_waits, upto_deadline}
use Rattle.cstn_exec.proofs.Searching.{due_is, earliest_same, quiet_on, work_awaited, work_then}
use Rattle.cstn_exec.proofs.executive.Executive.first_due.Goals as goal

pub returns-in_default : goal.returns-in_default
returns-in_default c =
    let net = the_network c.args.self.now.net in
    let bounds = the_bounds c.args.self.now.bounds in
    let run = c.args.self.now.run in
    let known = c.is_right.ensures in
    let some = sym c.awaited.ensures ∙ ap (option_map (λ p. p.index)) c.in_default.is in
    record {
      due = due_is net bounds known.earliest.0 known.well_formed known.earliest.1 run known.right c.requires c.loop-asked.t
          c.loop-asked.invariant.from c.loop-asked.invariant.quiet (work_awaited net bounds run c.loop-asked.t c.in_default.field-0.index some);
      asked = ap is_some some;
    }

pub next_ready-ready-requires : goal.next_ready-ready-requires
next_ready-ready-requires c =
    let net = the_network c.args.self.now.net in
    let bounds = the_bounds c.args.self.now.bounds in
    let run = c.args.self.now.run in
    let known = c.is_right.ensures in
    let waits = someone_waits net run known.right.moments c.requires in
    let within = upto_deadline net bounds known.earliest.0 known.well_formed known.earliest.1 run known.right waits.0 waits.1 waits.2
    c.loop-asked.t c.loop-asked.invariant.from c.loop-asked.invariant.quiet in
    let limit = known.well_formed.in_time in
    omega arith

pub returns-then-free-ready : goal.returns-then-free-ready
returns-then-free-ready c =
    let net = the_network c.args.self.now.net in
    let bounds = the_bounds c.args.self.now.bounds in
    let run = c.args.self.now.run in
    let known = c.is_right.ensures in
    let none = sym c.awaited.ensures ∙ ap (option_map (λ p. p.index)) c.in-None.is in
    let from = c.loop-asked.invariant.from in
    let free = c.first_free-free.ensures in
    let soon = c.if-free-ready.true in
    let later = free.from in
    let who = free.free in
    let same = λ (p : ℕ). c.next_ready-ready.ensures.same c.first_free-free.result p later soon in
    record {
      due = due_is net bounds known.earliest.0 known.well_formed known.earliest.1 run known.right c.requires c.first_free-free.result (omega arith)
          (quiet_on net bounds run known.well_formed c.loop-asked.t c.first_free-free.result c.loop-asked.invariant.quiet none
          (λ w p low high. c.next_ready-ready.ensures.same w p low (omega arith))
          (λ x w here waiting low high. free.held x w here waiting low high))
          (work_then net bounds run known.well_formed c.loop-asked.t c.first_free-free.result later same who.0 who.1 who.2 who.3);
      asked = λ x inside. c.earliest-asked.ensures x inside
          ∙ sym (earliest_same net bounds run known.well_formed c.loop-asked.t c.first_free-free.result later same x);
    }

pub loop-asked-preserved : goal.loop-asked-preserved
loop-asked-preserved c =
    let net = the_network c.args.self.now.net in
    let bounds = the_bounds c.args.self.now.bounds in
    let run = c.args.self.now.run in
    let known = c.is_right.ensures in
    let none = sym c.awaited.ensures ∙ ap (option_map (λ p. p.index)) c.in-None.is in
    let from = c.loop-asked.invariant.from in
    let upto = c.if-free-ready.false in
    let later = c.next_ready-ready.ensures.later in
    record {
      from = omega arith;
      quiet = quiet_on net bounds run known.well_formed c.loop-asked.t c.next_ready-ready.result c.loop-asked.invariant.quiet none
          (λ w p low high. c.next_ready-ready.ensures.same w p low high)
          (λ x w here waiting low high. c.first_free-free.ensures.held x w here waiting low (omega arith));
    }
