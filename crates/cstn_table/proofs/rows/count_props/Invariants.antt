use Rattle.std.proofs.Common.{◌≡◌, ◌≤◌, length, take}
use Rattle.cstn_net.specs.Read.{the_network}
use Rattle.cstn_table.specs.Tables.{observed_props}
use Rattle.cstn_table.proofs.rows.count_props.Given as goal

abbrev pub invariant-loop-x : goal.invariant-loop-x
invariant-loop-x l = record {
  so_far : l.observed ≡ length (observed_props (take l.x (the_network l.net).observes));
  few : l.observed ≤ l.x;
}
