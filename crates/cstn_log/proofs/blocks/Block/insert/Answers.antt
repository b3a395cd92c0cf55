use Rattle.std.proofs.Common.{◌/◌, ◌%◌, inl, arith, mod-lt}
use Rattle.cstn_log.proofs.BlockLemmas.{set_summed}
use Rattle.cstn_log.proofs.blocks.Block.insert.Goals as goal

pub invariant_of-self : goal.invariant_of-self
invariant_of-self c =
    set_summed c.self.inside.rows c.with_bit-self-inside.result (c.args.k / 64) c.with_bit.result c.self.inside.words (omega (arith, c.requires)) c.self.invariant
    c.with_bit-self-inside.ensures.others
    (inl (c.with_bit-self-inside.ensures.here, c.args.k % 64, mod-lt c.args.k (omega arith), c.with_bit.ensures.here))
