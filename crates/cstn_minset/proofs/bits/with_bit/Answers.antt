use Rattle.std.proofs.Common.{eqb, ap, w64}
use Rattle.std.proofs.lemmas.Nat.Bits.{bit_at_set_same, bit_at_set_other, bit_at_clear_same}
use Rattle.cstn_minset.proofs.BitLemmas.{clear_others}
use Rattle.cstn_minset.proofs.bits.with_bit.Goals as goal

pub returns-then-on-clause-here : goal.returns-then-on-clause-here
returns-then-on-clause-here c = rw c.if-on.true (ap (λ b. eqb b 1) (bit_at_set_same w64 c.args.word c.args.i c.requires))

pub returns-then-on-clause-others : goal.returns-then-on-clause-others
returns-then-on-clause-others c = λ k other. ap (λ b. eqb b 1) (bit_at_set_other w64 c.args.word c.args.i c.requires k other)

pub returns-else-on-clause-here : goal.returns-else-on-clause-here
returns-else-on-clause-here c = rw c.if-on.false (ap (λ b. eqb b 1) (bit_at_clear_same w64 c.args.word c.args.i c.requires))

pub returns-else-on-clause-others : goal.returns-else-on-clause-others
returns-else-on-clause-others c = λ k other. clear_others c.args.word c.args.i k c.ranges.word.fits c.requires other
