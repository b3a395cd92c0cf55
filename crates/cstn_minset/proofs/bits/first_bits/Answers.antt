use Rattle.std.proofs.Common.{arith, ap, ltb, sym, ◌∙◌}
use Rattle.cstn_minset.proofs.BitLemmas.{has_bit_ones, low_ones}
use Rattle.cstn_minset.proofs.bits.first_bits.Goals as goal

pub returns-then-count-eq-BITS : goal.returns-then-count-eq-BITS
returns-then-count-eq-BITS c = λ k. has_bit_ones 64 k ∙ ap (λ n. ltb k n) (sym c.if-count-eq-BITS.true)

pub returns : goal.returns
returns c = λ k. low_ones c.args.count k (omega (arith, c.requires, c.if-count-eq-BITS.false))
