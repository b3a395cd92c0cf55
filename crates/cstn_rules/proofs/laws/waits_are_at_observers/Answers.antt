use Rattle.cstn_rules.proofs.Shapes.{waited}
use Rattle.cstn_rules.proofs.laws.waits_are_at_observers.Goals as goal

pub returns-clause-awaited : goal.returns-clause-awaited
returns-clause-awaited c = waited
