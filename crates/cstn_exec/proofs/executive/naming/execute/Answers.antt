use Rattle.std.proofs.Common.{Option, Some, List, ℕ, map, take, ap, sym, ◌∙◌}
use Rattle.std.specs.Prelude.{slice_set}
use Rattle.cstn_exec.specs.Moves.{executed}
use Rattle.cstn_exec.proofs.Naming.{executed_more}
use Rattle.cstn_exec.proofs.executive.naming.execute.Goals as goal

pub loop-x-preserved : goal.loop-x-preserved
loop-x-preserved c =
    ap (λ (ms : List (Option ℕ)). slice_set ms c.index.result (Some c.args.t)) c.loop-x.invariant
    ∙ ap (λ (x : ℕ). slice_set (executed c.args.t (map (λ x. x.0) (take c.loop-x.x-index c.args.named.now)) c.args.moments.now.items) x (Some c.args.t))
    c.index.ensures.index
    ∙ sym (executed_more c.args.t c.args.named.now c.loop-x.x-index (record { 0 = 0 }) c.args.moments.now.items c.loop-x-test.true)
