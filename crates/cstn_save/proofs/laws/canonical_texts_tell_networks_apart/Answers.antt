use Rattle.cstn_save.proofs.SameLemmas.{told_apart}
use Rattle.cstn_save.proofs.laws.canonical_texts_tell_networks_apart.Goals as goal

pub returns : goal.returns
returns c = told_apart
