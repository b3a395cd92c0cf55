use Rattle.std.proofs.Common.{◌≡◌, take}
use Rattle.cstn_net.specs.Read.{the_network}
use Rattle.cstn_table.specs.Tables.{observed_props}
use Rattle.cstn_table.specs.Read.{numbers}
use Rattle.cstn_table.proofs.rows.props_of.Given as goal

abbrev pub invariant-loop-x : goal.invariant-loop-x
invariant-loop-x l = numbers l.props.items ≡ observed_props (take l.x (the_network l.net).observes)
