use Rattle.std.proofs.Common.{ℕ, ◌≡◌, false, length}
use Rattle.cstn_log.specs.Agendas.{has_place}
use Rattle.cstn_log.proofs.agenda.empty_blocks.Given as goal

abbrev pub invariant-loop : goal.invariant-loop
invariant-loop l = record {
  size : length l.blocks.items ≡ l.counter;
  none : (k : ℕ) → has_place l.blocks.items k ≡ false;
}
