use Rattle.std.proofs.Common.{◌≡◌, length}
use Rattle.cstn_log.specs.Agendas.{AreUsed}
use Rattle.cstn_log.proofs.BlockLemmas.{count_below}
use Rattle.cstn_log.proofs.agenda.Agenda.clear.Given as goal

abbrev pub invariant-loop-row : goal.invariant-loop-row
invariant-loop-row l = record {
  used : AreUsed l.self-inside.used l.self-inside.blocks.items;
  size : length l.self-inside.blocks.items ≡ length l.fn.self;
}

abbrev pub decreases-loop-row : goal.decreases-loop-row
decreases-loop-row l = count_below l.self-inside.used 4096
