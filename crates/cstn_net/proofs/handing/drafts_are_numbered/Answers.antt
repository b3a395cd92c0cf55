use Rattle.cstn_net.proofs.DraftLemmas.{constraints_more, constraints_length}
use Rattle.cstn_net.proofs.handing.drafts_are_numbered.Goals as goal

pub returns : goal.returns
returns c = record { more = constraints_more; length = constraints_length }
