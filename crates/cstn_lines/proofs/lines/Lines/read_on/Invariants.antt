use Rattle.std.proofs.Common.{◌≡◌, ◌≤◌, ◌<◌, ◌+◌, ◌-◌, ◌^◌, ◌++◌, List, ℕ, false, length}
use Rattle.cstn_io.specs.Contents.{after_bytes}
use Rattle.cstn_lines.specs.Pieces.{HasNoEnd}
use Rattle.cstn_lines.proofs.lines.Lines.read_on.Given as goal

abbrev pub invariant-pieces : goal.invariant-pieces
invariant-pieces g l = record {
  taken : (taken : List ℕ) × (l.self.kept ≡ l.fn.self.kept ++ taken) × (g.S.Source.left l.fn.source ≡ after_bytes taken (g.S.Source.left l.source)) × (g.S.Source.reads l.source ≤ g.S.Source.reads l.fn.source + length taken);
  none : HasNoEnd l.self.kept;
  short : length l.self.kept ≤ 4096;
  few : 0 < length l.self.kept → l.self.count < 2 ^ 24;
  count : l.self.count ≡ l.fn.self.count;
  going : l.self.ended ≡ false;
  later : g.S.Source.faults l.fn.source ≤ g.S.Source.faults l.source;
}

abbrev pub decreases-pieces : goal.decreases-pieces
decreases-pieces g l = 5000 - length l.self.kept
