use Rattle.std.proofs.Common.{ℕ, Option, None, ap, ◌∙◌}
use Rattle.std.specs.Prelude.{slice_index_or}
use Rattle.cstn_next.specs.Next.{earlier}
use Rattle.cstn_next.proofs.Lists.{earliest_more}
use Rattle.cstn_cases.proofs.nexts.earliest.Goals as goal

pub loop-k-preserved : goal.loop-k-preserved
loop-k-preserved c =
    let xs = c.args.moments.now in
    let k = c.loop-k.k in
    c.earlier-first.ensures ∙ ap (λ (o : Option ℕ). earlier o (slice_index_or xs k None)) c.loop-k.invariant ∙ earliest_more xs k c.loop-k-test.true
