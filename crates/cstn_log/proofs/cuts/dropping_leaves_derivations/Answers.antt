use Rattle.cstn_log.proofs.MarkLemmas.{dropped_derivation}
use Rattle.cstn_log.proofs.cuts.dropping_leaves_derivations.Goals as goal

pub returns : goal.returns
returns c net constraints steps id others derivation = dropped_derivation net constraints steps id others derivation
