use Rattle.cstn_check.proofs.SpentLemmas.{grown_spent}
use Rattle.cstn_check.proofs.laws.grown_lists_are_spent.Goals as goal

pub returns : goal.returns
returns c = λ net list fresh good kept on. grown_spent net list fresh good kept on
