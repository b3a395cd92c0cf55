use Rattle.std.proofs.Common.{ap}
use Rattle.cstn_label.proofs.ReadLemmas.{same_label, unmarked_above}
use Rattle.cstn_label.proofs.laws.labels_are_their_marks.Goals as goal

pub returns-clause-equal : goal.returns-clause-equal
returns-clause-equal c a b e = same_label a b (λ p. ap (λ m. m p) e)

pub returns-clause-above : goal.returns-clause-above
returns-clause-above c = unmarked_above
