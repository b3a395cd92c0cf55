use Rattle.std.proofs.Common.{arith}
use Rattle.cstn_label.specs.Read.{the_bound}
use Rattle.cstn_closed.proofs.CoverLemmas.{uncovered_all}
use Rattle.cstn_closed.proofs.minimal.covers.Goals as goal

pub returns : goal.returns
returns c = record {
  covers = (
    λ no. absurd (cc),
    λ covered. absurd (uncovered_all c.args.list.now (the_bound c.args.r.now) c.loop-place.place (omega (arith, c.loop-place-test.false)) c.loop-place.invariant covered),
  );
}
