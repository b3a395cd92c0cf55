use Rattle.cstn_tight.proofs.GreatestLemmas.{least_greatest}
use Rattle.cstn_tight.proofs.laws.least_deadlines_are_greatest_values.Goals as goal

pub returns : goal.returns
returns c = least_greatest
