use Rattle.cstn_log.proofs.BlockLemmas.{zeros_summed, none_in_zeros}
use Rattle.cstn_log.proofs.blocks.Block.empty.Goals as goal

pub invariant_of-result : goal.invariant_of-result
invariant_of-result c = zeros_summed

pub returns : goal.returns
returns c = record { empty = none_in_zeros }
