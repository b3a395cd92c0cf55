use Rattle.cstn_headline.proofs.ReadBack.{yes_text, no_text}
use Rattle.cstn_headline.proofs.evidence_laws.evidence_is_accepted.Goals as goal

pub returns-clause-bounds : goal.returns-clause-bounds
returns-clause-bounds c = yes_text c.closed_texts_are_read_back.ensures.back

pub returns-clause-steps : goal.returns-clause-steps
returns-clause-steps c = no_text c.texts_are_read_back.ensures.back
