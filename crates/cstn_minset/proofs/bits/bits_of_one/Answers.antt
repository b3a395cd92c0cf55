use Rattle.cstn_minset.proofs.BitLemmas.{has_bit_xor}
use Rattle.cstn_minset.proofs.bits.bits_of_one.Goals as goal

pub returns : goal.returns
returns c = λ k. has_bit_xor c.args.a c.args.b k
