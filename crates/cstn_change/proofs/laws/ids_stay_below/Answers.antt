use Rattle.cstn_change.proofs.IdLemmas.{ids_below, one_id}
use Rattle.cstn_change.proofs.laws.ids_stay_below.Goals as goal

pub returns-clause-below : goal.returns-clause-below
returns-clause-below c = ids_below

pub returns-clause-one : goal.returns-clause-one
returns-clause-one c = one_id
