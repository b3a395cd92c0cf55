use Rattle.std.proofs.Common.{◌≡◌, None}
use Rattle.std.specs.Prelude.{slice_index_or}
use Rattle.std.specs.List.{filter, range_with_len}
use Rattle.cstn_outline.specs.Read.{node_numbers}
use Rattle.cstn_next.specs.Next.{is_upto}
use Rattle.cstn_cases.proofs.nexts.named_upto.Given as goal

abbrev pub invariant-loop-x : goal.invariant-loop-x
invariant-loop-x l = node_numbers l.named.items ≡ filter (λ x. is_upto l.t (slice_index_or l.moments x None)) (range_with_len 0 l.x)
