use Rattle.cstn_sentences.proofs.JudgedLines.{line_back}
use Rattle.cstn_sentences.proofs.laws.lines_are_accepted.Goals as goal

pub returns : goal.returns
returns c n words line is = line_back n words line is
