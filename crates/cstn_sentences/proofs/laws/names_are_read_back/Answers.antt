use Rattle.cstn_sentences.proofs.SpelledWords.{spelled_is_written}
use Rattle.cstn_sentences.proofs.laws.names_are_read_back.Goals as goal

pub returns-clause-word : goal.returns-clause-word
returns-clause-word c name is = spelled_is_written name is
