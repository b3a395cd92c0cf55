use Rattle.cstn_log.proofs.MarkLemmas.{all_below}
use Rattle.cstn_log.proofs.AncestorLemmas.{part_by_ancestors, dropped_by_ancestors}
use Rattle.cstn_log.proofs.laws.cut_lists_follow_ancestors.Goals as goal

pub returns-clause-earlier : goal.returns-clause-earlier
returns-clause-earlier c net steps derivation = record { below = all_below net steps derivation }

pub returns-clause-part : goal.returns-clause-part
returns-clause-part c = part_by_ancestors

pub returns-clause-dropped : goal.returns-clause-dropped
returns-clause-dropped c = dropped_by_ancestors
