use Rattle.std.proofs.Common.{◌≡◌, ◌<◌, ◌≤◌, length}
use Rattle.cstn_net.specs.Limits.{most_load}
use Rattle.cstn_log.specs.Entries.{the_entries}
use Rattle.cstn_tight.specs.Greatest.{IsFirstGreatest}
use Rattle.cstn_tight.proofs.greatest.first_greatest.Given as goal

abbrev pub invariant-loop-k : goal.invariant-loop-k
invariant-loop-k l = record {
  end : l.k-end ≡ length l.log.entries;
  few : l.k-end ≤ most_load;
  upto : l.k ≤ l.k-end;
  inside : l.place < l.k;
  first : IsFirstGreatest (the_entries l.log.entries) l.k l.place;
}
