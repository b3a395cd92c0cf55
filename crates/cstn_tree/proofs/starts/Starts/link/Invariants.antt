use Rattle.std.proofs.Common.{◌≡◌, ◌≤◌, length}
use Rattle.cstn_tree.specs.Starts.{AreLinkedFrom, starts}
use Rattle.cstn_tree.proofs.starts.Starts.link.Given as goal

abbrev pub invariant-loop-low : goal.invariant-loop-low
invariant-loop-low l = record {
  upto : l.low ≤ length l.constraints;
  long : length l.self.nexts.items ≡ length l.constraints;
  wide : length l.self.firsts.items ≡ length l.initial.self.firsts.items;
  linked : AreLinkedFrom l.low (starts l.constraints) l.self.firsts.items l.self.nexts.items;
}

abbrev pub decreases-loop-low : goal.decreases-loop-low
decreases-loop-low l = l.low
