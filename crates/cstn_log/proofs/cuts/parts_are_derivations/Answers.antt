use Rattle.cstn_log.proofs.MarkLemmas.{part_derivation, part_last, part_refutation}
use Rattle.cstn_log.proofs.cuts.parts_are_derivations.Goals as goal

pub returns-clause-derivation : goal.returns-clause-derivation
returns-clause-derivation c net steps derivation = part_derivation net steps derivation

pub returns-clause-last : goal.returns-clause-last
returns-clause-last c steps last there = part_last steps last there

pub returns-clause-refutation : goal.returns-clause-refutation
returns-clause-refutation c net steps refutation = part_refutation net steps refutation
