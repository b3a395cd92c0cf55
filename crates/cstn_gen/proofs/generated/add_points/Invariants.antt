use Rattle.std.proofs.Common.{◌≡◌}
use Rattle.cstn_gen.specs.Made.{HasDrawnPoints}
use Rattle.cstn_gen.proofs.generated.add_points.Given as goal

abbrev pub invariant-loop-i : goal.invariant-loop-i
invariant-loop-i l = record {
  points : HasDrawnPoints l.size l.i l.builder.points;
  deadline : l.builder.deadline ≡ l.fn.builder.deadline;
  drafts : l.builder.drafts ≡ l.fn.builder.drafts;
}
