use Rattle.std.proofs.Common.{◌≡◌, ◌*◌, length}
use Rattle.cstn_gen.specs.Generated.{state_at}
use Rattle.cstn_gen.specs.Made.{HasDrawnConstraints}
use Rattle.cstn_gen.proofs.generated.add_constraints.Given as goal

abbrev pub invariant-loop : goal.invariant-loop
invariant-loop l = record {
  end : l.end ≡ 2 * l.size;
  constraints : HasDrawnConstraints l.number l.size l.counter l.builder.drafts;
  drafts : length l.builder.drafts ≡ l.counter;
  state : l.draws.state ≡ state_at l.number l.size l.counter;
  deadline : l.builder.deadline ≡ l.fn.builder.deadline;
  points : l.builder.points ≡ l.fn.builder.points;
}
