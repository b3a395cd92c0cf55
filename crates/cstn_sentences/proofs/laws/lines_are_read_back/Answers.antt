use Rattle.cstn_sentences.proofs.WrittenSteps.{deadline_back, point_back}
use Rattle.cstn_sentences.proofs.WrittenForms.{alone_back, pair_back}
use Rattle.cstn_sentences.proofs.laws.lines_are_read_back.Goals as goal

pub returns-clause-deadline : goal.returns-clause-deadline
returns-clause-deadline c n sized = deadline_back n sized

pub returns-clause-step : goal.returns-clause-step
returns-clause-step c m names x well named = point_back m names x well named

pub returns-clause-alone : goal.returns-clause-alone
returns-clause-alone c names b from to value = alone_back names b from to value

pub returns-clause-pair : goal.returns-clause-pair
returns-clause-pair c names b d from to value other pair = pair_back names b d from to value other pair
