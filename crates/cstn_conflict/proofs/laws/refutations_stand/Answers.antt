use Rattle.std.proofs.Common.{not, eqb}
use Rattle.cstn_check.proofs.Idle.{none_but}
use Rattle.cstn_check.proofs.Standing.{refutation_stands}
use Rattle.cstn_conflict.proofs.ConflictLemmas.{stands_within}
use Rattle.cstn_conflict.proofs.laws.refutations_stand.Goals as goal

pub returns-clause-fewer : goal.returns-clause-fewer
returns-clause-fewer c net id steps none = refutation_stands net (λ i. not (eqb i id)) steps (none_but id steps none)

pub returns-clause-more : goal.returns-clause-more
returns-clause-more c = stands_within
