use Rattle.cstn_log.proofs.BitLemmas.{none_from, set_below, lowest_from, below_lowest_from}
use Rattle.cstn_log.proofs.bits.first_bit_from.Goals as goal

pub returns-then-rest-eq0-clause-none : goal.returns-then-rest-eq0-clause-none
returns-then-rest-eq0-clause-none c = none_from c.args.word c.args.i c.if-rest-eq0.true

pub returns-clause-set : goal.returns-clause-set
returns-clause-set c = lowest_from c.args.word c.args.i c.if-rest-eq0.false c.ranges.word.fits

pub returns-clause-range : goal.returns-clause-range
returns-clause-range c = set_below c.args.word _ c.ranges.word.fits (returns-clause-set c)

pub returns-clause-least : goal.returns-clause-least
returns-clause-least c = below_lowest_from c.args.word c.args.i c.if-rest-eq0.false c.ranges.word.fits
