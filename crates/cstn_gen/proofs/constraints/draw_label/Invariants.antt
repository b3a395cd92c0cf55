use Rattle.std.proofs.Common.{◌≡◌}
use Rattle.cstn_label.specs.Labels.{empty}
use Rattle.cstn_label.specs.Read.{marks}
use Rattle.cstn_gen.specs.Draws.{nth_state, drawn}
use Rattle.cstn_gen.specs.Generated.{literals}
use Rattle.cstn_gen.proofs.constraints.draw_label.Given as goal

abbrev pub invariant-loop : goal.invariant-loop
invariant-loop l = record {
  end : l.end ≡ drawn 1 3 l.fn.draws.state;
  label : marks l.label ≡ (literals l.props l.counter (record { label = empty; state = nth_state 1 l.fn.draws.state })).label;
  state : l.draws.state ≡ (literals l.props l.counter (record { label = empty; state = nth_state 1 l.fn.draws.state })).state;
}
