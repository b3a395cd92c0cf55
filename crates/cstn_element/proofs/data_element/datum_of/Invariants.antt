use Rattle.std.proofs.Common.{◌≡◌, length, map}
use Rattle.cstn_element.specs.Elements.{datum_of}
use Rattle.cstn_element.specs.DataElementSeen.{datum_seen}
use Rattle.cstn_element.proofs.data_element.datum_of.Given as goal

abbrev pub invariant-loop-datum : goal.invariant-loop-datum
invariant-loop-datum l = datum_of l.key (map datum_seen l.found) ≡ datum_of l.key (map datum_seen l.rest)

abbrev pub decreases-loop-datum : goal.decreases-loop-datum
decreases-loop-datum l = length l.rest
