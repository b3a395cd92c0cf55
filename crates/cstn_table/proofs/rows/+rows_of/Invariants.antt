use Rattle.std.proofs.Common.{length}
use Rattle.cstn_table.proofs.rows.+rows_of.Given as goal

abbrev pub decreases-rows_of : goal.decreases-rows_of
decreases-rows_of l = length l.props.now
