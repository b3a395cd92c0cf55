use Rattle.cstn_label.proofs.ReadLemmas.{marked_at, absent_at}
use Rattle.cstn_label.proofs.WordLemmas.{or_in_range}
use Rattle.cstn_label.proofs.labels.Label.first_marked_from.Goals as goal

pub first_bit_from-requires : goal.first_bit_from-requires
first_bit_from-requires c = or_in_range c.args.self.yes c.args.self.no c.args.self.yes_in_range c.args.self.no_in_range

pub returns-in-Some-clause-marked : goal.returns-in-Some-clause-marked
returns-in-Some-clause-marked c = marked_at c.args.self c.in-Some.index c.in-Some.ensures.set

pub returns-in-Some-clause-least : goal.returns-in-Some-clause-least
returns-in-Some-clause-least c q from below = absent_at c.args.self q (c.in-Some.ensures.least q from below)

pub returns-in-None-clause-none : goal.returns-in-None-clause-none
returns-in-None-clause-none c q from = absent_at c.args.self q (c.in-None.ensures.none q from)
