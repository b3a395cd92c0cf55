use Rattle.std.proofs.Common.{rules}
use Rattle.tests_growth.proofs.minset.has_next.Goals as goal

pub next-requires : goal.next-requires
next-requires g c = c.holds.ensures.holds.0 (search rules)
