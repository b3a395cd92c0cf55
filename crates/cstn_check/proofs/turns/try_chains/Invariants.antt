use Rattle.std.proofs.Common.{◌≡◌, ◌<◌, ◌≤◌, ◌+◌, ◌-◌, length, take, map, false, get_or, Some}
use Rattle.std.specs.Prelude.{slice_get}
use Rattle.cstn_rules.specs.declared.entries.Entry.{Entry}
use Rattle.cstn_net.specs.Links.{ends}
use Rattle.cstn_net.specs.Read.{the_network, the_constraint}
use Rattle.cstn_log.specs.Entries.{the_entries}
use Rattle.cstn_check.specs.Growth.{tried, chains_at}
use Rattle.cstn_check.specs.Spent.{AreSpent, fresh_count}
use Rattle.cstn_check.specs.Turns.{IsOpen, HasBecome}
use Rattle.cstn_check.specs.Steps.{IsCounted}
use Rattle.cstn_check.proofs.turns.try_chains.Given as goal

abbrev pub invariant-loop-place : goal.invariant-loop-place
invariant-loop-place l = record {
  taken : HasBecome (the_network l.fn.net) l.fn.log l.log (tried (the_network l.fn.net) (the_entries l.fn.log.entries) (chains_at (map the_constraint (take l.place l.fn.net.constraints)) l.fn.j)) false;
  ready : IsOpen (the_network l.fn.net) l.log;
  upto : l.place ≤ length l.fn.net.constraints;
  here : (e : Entry) → slice_get l.fn.log.entries l.fn.j ≡ Some e → l.place < length l.fn.net.constraints → get_or (ends l.fn.net.constraints) l.place 0 ≡ e.bound.node.0;
  counted : IsCounted l.fn.tries.count l.tries.count l.place;
  most_fresh : l.fn.j < l.fn.old → l.tries.count ≤ l.fn.tries.count + fresh_count l.fn.fresh (map the_constraint (take l.place l.fn.net.constraints));
  spent : AreSpent (the_network l.fn.net) (the_entries l.log.entries) l.fn.fresh l.fn.old;
}

abbrev pub decreases-loop-place : goal.decreases-loop-place
decreases-loop-place l = length l.fn.net.constraints - l.place
