use Rattle.std.proofs.Common.{arith}
use Rattle.cstn_label.proofs.WordLemmas.{has_bit_set, has_bit_clear, set_in_range}
use Rattle.cstn_label.proofs.words.with_bit.Goals as goal

pub returns-then-on-clause-bits : goal.returns-then-on-clause-bits
returns-then-on-clause-bits c = rw c.if-on.true (has_bit_set c.args.word c.args.i c.requires)

pub returns-then-on-clause-range : goal.returns-then-on-clause-range
returns-then-on-clause-range c = set_in_range c.args.word c.args.i c.requires

pub returns-else-on-clause-bits : goal.returns-else-on-clause-bits
returns-else-on-clause-bits c = rw c.if-on.false (has_bit_clear c.args.word c.args.i (omega arith) c.requires)
