use Rattle.std.proofs.Common.{None, refl}
use Rattle.std.specs.Prelude.{slice_index_or}
use Rattle.cstn_label.specs.declared.props.Prop.{Prop}
use Rattle.cstn_next.specs.Next.{is_upto}
use Rattle.cstn_next.proofs.Filled.{passing_more}
use Rattle.cstn_next.proofs.moments.awaited_at.Goals as goal

pub loop-index-preserved : goal.loop-index-preserved
loop-index-preserved c = passing_more (λ (p : Prop). p.index) (λ p. is_upto c.args.t (slice_index_or c.args.moments.now p None)) c.loop-index.awaited.items
    c.push_outcome.new.awaited.items _ c.loop-index.index c.is_upto.result refl c.loop-index.invariant c.is_upto.ensures c.in_ok-push_outcome.ensures
