use Rattle.std.proofs.Common.{ℕ, ◌≡◌, ◌<◌}
use Rattle.cstn_net.specs.Networks.{count}
use Rattle.cstn_net.specs.Read.{the_network}
use Rattle.cstn_rules.specs.Rules.{base}
use Rattle.cstn_rules.specs.Closed.{IsCovered}
use Rattle.cstn_closed.specs.Closed.{the_listed_bounds}
use Rattle.cstn_closed.proofs.checks.first_without_base.Given as goal

abbrev pub invariant-loop-number : goal.invariant-loop-number
invariant-loop-number l = record {
  end : l.number-end ≡ count (the_network l.net);
  before : (x : ℕ) → x < l.number → IsCovered (the_listed_bounds l.closed) (base x);
}
