use Rattle.std.proofs.Common.{◌≡◌, ◌≤◌, length}
use Rattle.std.specs.Prelude.{vec_capacity}
use Rattle.cstn_log.specs.Entries.{the_entries}
use Rattle.cstn_check.proofs.PlanLemmas.{IsListedUpto}
use Rattle.cstn_check.proofs.plans.live_bounds.Given as goal

abbrev pub invariant-loop-k : goal.invariant-loop-k
invariant-loop-k l = record {
  end : l.k-end ≡ length l.log.entries;
  room : l.log.cap ≤ vec_capacity l.bounds;
  listed : IsListedUpto l.bounds.items (the_entries l.log.entries) l.k;
}
