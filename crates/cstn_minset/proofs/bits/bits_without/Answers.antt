use Rattle.cstn_minset.proofs.BitLemmas.{has_bit_without}
use Rattle.cstn_minset.proofs.bits.bits_without.Goals as goal

pub returns : goal.returns
returns c = λ k. has_bit_without c.args.word c.args.other k c.ranges.word.fits c.ranges.other.fits
