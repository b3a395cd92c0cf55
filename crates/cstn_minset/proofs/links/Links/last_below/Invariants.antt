use Rattle.std.proofs.Common.{◌<◌, ◌+◌}
use Rattle.cstn_minset.specs.Chains.{SlotChains}
use Rattle.cstn_minset.specs.Links.{AreLinks, AreOwnKeys}
use Rattle.cstn_minset.proofs.NumberLemmas.{IsReached, left}
use Rattle.cstn_minset.proofs.links.Links.last_below.Given as goal

abbrev pub invariant-loop-place : goal.invariant-loop-place
invariant-loop-place l = record {
  inside : l.before < l.self.slots + l.self.heads;
  reached : (table : SlotChains) → AreLinks l.self table → AreOwnKeys table → IsReached table l.self.slots l.self.heads l.head l.slot l.before l.place;
}

abbrev pub decreases-loop-place : goal.decreases-loop-place
decreases-loop-place l = left l.self.slots l.place
