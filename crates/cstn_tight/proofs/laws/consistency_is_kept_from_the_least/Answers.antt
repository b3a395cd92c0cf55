use Rattle.cstn_tight.proofs.LeastLemmas.{consistent_later, least_upto}
use Rattle.cstn_tight.proofs.laws.consistency_is_kept_from_the_least.Goals as goal

pub returns-clause-later : goal.returns-clause-later
returns-clause-later c net h k least upto = consistent_later net h k upto least.consistent

pub returns-clause-earlier : goal.returns-clause-earlier
returns-clause-earlier c net h k least consistent = least_upto net h k least consistent
