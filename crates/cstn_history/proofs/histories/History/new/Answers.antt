use Rattle.std.proofs.Common.{None, Some, arith, ap, ◌∙◌}
use Rattle.std.specs.Prelude.{slice_set}
use Rattle.cstn_net.specs.Networks.{count}
use Rattle.cstn_net.specs.Read.{the_network}
use Rattle.cstn_lift.specs.Read.{the_labelled}
use Rattle.cstn_history.proofs.Begun.{begun_is, begun_kept, all_taken}
use Rattle.cstn_history.proofs.histories.History.new.Goals as goal

pub returns-clause-nothing : goal.returns-clause-nothing
returns-clause-nothing c =
    let n = c.count-count.result in
    let some = c.count-count.ensures.well_formed.network.origin in
    let at = c.count-count.ensures.count in
    begun_is n (slice_set c.resize.new.self.items 0 (Some 0)) c.nothing.result (omega arith)
    (ap (λ l. slice_set l 0 (Some 0)) (c.in_ok-resize.ensures.items ∙ all_taken n None c.in_ok-done.done.items _ c.in_ok-done.ensures.items c.in_ok-done.ensures.len)) c.nothing.ensures.known
    c.in_ok-ready.ready.items c.in_ok-ready.ensures

pub returns-clause-kept : goal.returns-clause-kept
returns-clause-kept c =
    let n = c.count-count.result in
    let some = c.count-count.ensures.well_formed.network.origin in
    let at = c.count-count.ensures.count in
    begun_kept n (slice_set c.resize.new.self.items 0 (Some 0)) c.nothing.result (omega arith)
    (ap (λ l. slice_set l 0 (Some 0)) (c.in_ok-resize.ensures.items ∙ all_taken n None c.in_ok-done.done.items _ c.in_ok-done.ensures.items c.in_ok-done.ensures.len)) c.nothing.ensures.known
    c.in_ok-ready.ready.items c.in_ok-ready.ensures
    (the_labelled c.args.network.now) c.base.ensures.labelled (at ∙ ap (λ b. count (the_network b)) c.base.ensures.base)
