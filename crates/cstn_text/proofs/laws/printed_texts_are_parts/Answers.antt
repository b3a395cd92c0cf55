use Rattle.cstn_text.proofs.AnyOrderLemmas.{label_text_part}
use Rattle.cstn_text.proofs.laws.printed_texts_are_parts.Goals as goal

pub returns-clause-label_text : goal.returns-clause-label_text
returns-clause-label_text c = label_text_part
