use Rattle.std.proofs.Common.{arith}
use Rattle.cstn_label.proofs.WordLemmas.{has_bit_above, none_from, set_below, lowest_from, below_lowest_from}
use Rattle.cstn_minset.proofs.bits.first_bit_from.Goals as goal

pub returns-then-i-ge-BITS-clause-none : goal.returns-then-i-ge-BITS-clause-none
returns-then-i-ge-BITS-clause-none c = λ j from. has_bit_above c.args.word 64 j c.ranges.word.fits (omega (arith, from, c.if-i-ge-BITS.true))

pub returns-then-rest-eq0-clause-none : goal.returns-then-rest-eq0-clause-none
returns-then-rest-eq0-clause-none c = none_from c.args.word c.args.i c.if-rest-eq0.true

pub returns-clause-set : goal.returns-clause-set
returns-clause-set c = lowest_from c.args.word c.args.i c.if-rest-eq0.false c.ranges.word.fits

pub returns-clause-range : goal.returns-clause-range
returns-clause-range c = set_below c.args.word 64 _ c.ranges.word.fits (returns-clause-set c)

pub returns-clause-least : goal.returns-clause-least
returns-clause-least c = below_lowest_from c.args.word c.args.i c.if-rest-eq0.false c.ranges.word.fits
