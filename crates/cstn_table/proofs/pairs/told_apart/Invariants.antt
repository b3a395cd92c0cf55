use Rattle.std.proofs.Common.{ℕ, ◌≡◌, ◌<◌, ◌≤◌, ◌+◌, ◌-◌, ◌^◌, ◌↔◌}
use Rattle.cstn_label.specs.Read.{the_scenario}
use Rattle.cstn_net.specs.Networks.{Observes, count}
use Rattle.cstn_net.specs.Read.{the_network}
use Rattle.cstn_table.specs.Tables.{row_at}
use Rattle.cstn_table.proofs.pairs.told_apart.Given as goal

abbrev pub invariant-loop-x : goal.invariant-loop-x
invariant-loop-x l = (t : ℕ) → t < 2 ^ 32 - 1 →
    ((y p : ℕ) → y < l.x → Observes (the_network l.net) y p →
    row_at (count (the_network l.net)) l.moments l.row y + (the_network l.net).reaction p ≤ t → the_scenario l.r p ≡ the_scenario l.s p)
    ↔ (t < l.apart)
