use Rattle.std.proofs.Common.{◌≡◌, None, map}
use Rattle.std.specs.Prelude.{slice_index_or}
use Rattle.std.specs.List.{filter, range_with_len}
use Rattle.cstn_next.specs.Next.{is_upto}
use Rattle.cstn_next.proofs.moments.awaited_at.Given as goal

abbrev pub invariant-loop-index : goal.invariant-loop-index
invariant-loop-index l = map (λ p. p.index) l.awaited.items ≡ filter (λ p. is_upto l.t (slice_index_or l.moments p None)) (range_with_len 0 l.index)
