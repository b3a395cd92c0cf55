use Rattle.std.proofs.Common.{◌≡◌, ◌≤◌, length, take}
use Rattle.std.specs.Prelude.{map}
use Rattle.std.specs.List.{filter_map}
use Rattle.cstn_net.specs.Read.{the_constraint}
use Rattle.cstn_lift.specs.Read.{the_labelled}
use Rattle.cstn_history.specs.Rest.{constraint_left}
use Rattle.cstn_history.specs.Read.{the_history}
use Rattle.cstn_history.proofs.rests.kept.Given as goal

abbrev pub invariant-loop-c : goal.invariant-loop-c
invariant-loop-c l = record {
  kept : map the_constraint l.kept.items ≡ filter_map (constraint_left (the_labelled l.network) (the_history l.history)) (map the_constraint (take l.c-index l.network.base.constraints));
  few : length l.kept.items ≤ l.c-index;
}
