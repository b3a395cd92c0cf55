use Rattle.std.proofs.Common.{◌&&◌}
use Rattle.std.specs.Prelude.{◌==◌}
use Rattle.cstn_label.specs.Read.{known_value}
use Rattle.cstn_exec.specs.Runs.{is_possible}
use Rattle.cstn_exec.proofs.Asking.{greatest_more}
use Rattle.cstn_exec.proofs.executive.asked.asked.Goals as goal

pub loop-k-preserved : goal.loop-k-preserved
loop-k-preserved c x inside =
    greatest_more (λ b. (b.node == x) && is_possible (known_value c.args.known.now) b.label) c.args.plan.now.bounds c.loop-k.k c.bound.result
    _ _ c.bound.ensures.bound (c.loop-k.invariant x inside) (c.note.ensures x inside)
