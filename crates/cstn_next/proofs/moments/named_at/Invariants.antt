use Rattle.std.proofs.Common.{◌≡◌, None, map}
use Rattle.std.specs.Prelude.{slice_index_or}
use Rattle.std.specs.List.{filter, range_with_len}
use Rattle.cstn_next.specs.Next.{is_upto}
use Rattle.cstn_next.proofs.moments.named_at.Given as goal

abbrev pub invariant-loop-x : goal.invariant-loop-x
invariant-loop-x l = map (λ x. x.0) l.named.items ≡ filter (λ x. is_upto l.t (slice_index_or l.moments x None)) (range_with_len 0 l.x)
