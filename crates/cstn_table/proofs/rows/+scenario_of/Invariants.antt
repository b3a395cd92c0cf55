use Rattle.std.proofs.Common.{length}
use Rattle.cstn_table.proofs.rows.+scenario_of.Given as goal

abbrev pub decreases-scenario_of : goal.decreases-scenario_of
decreases-scenario_of l = length l.props.now
