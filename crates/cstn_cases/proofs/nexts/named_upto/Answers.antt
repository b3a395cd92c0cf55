use Rattle.std.proofs.Common.{None, refl}
use Rattle.std.specs.Prelude.{slice_index_or}
use Rattle.cstn_label.specs.declared.nodes.NodeId.{NodeId}
use Rattle.cstn_next.specs.Next.{is_upto}
use Rattle.cstn_next.proofs.Filled.{passing_more}
use Rattle.cstn_cases.proofs.nexts.named_upto.Goals as goal

pub loop-x-preserved : goal.loop-x-preserved
loop-x-preserved c = passing_more (λ (x : NodeId). x.0) (λ x. is_upto c.args.t (slice_index_or c.args.moments.now x None)) c.loop-x.named.items
    c.push_one.new.named.items (record { 0 = c.loop-x.x }) c.loop-x.x c.is_upto.result refl c.loop-x.invariant c.is_upto.ensures c.in_ok-push_one.ensures
