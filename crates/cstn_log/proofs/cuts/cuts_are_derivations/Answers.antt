use Rattle.cstn_log.proofs.CutLemmas.{cut_derivation}
use Rattle.cstn_log.proofs.cuts.cuts_are_derivations.Goals as goal

pub returns : goal.returns
returns c net marks steps derivation closed = cut_derivation net marks steps derivation closed
