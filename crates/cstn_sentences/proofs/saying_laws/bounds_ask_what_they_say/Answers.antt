use Rattle.std.specs.Prelude.{pos}
use Rattle.cstn_sentences.proofs.MomentLemmas.{least_same, most_same}
use Rattle.cstn_sentences.proofs.saying_laws.bounds_ask_what_they_say.Goals as goal

pub returns-clause-least : goal.returns-clause-least
returns-clause-least c at x m a label = least_same (pos (at m.0)) (pos (at x)) m.1 a

pub returns-clause-most : goal.returns-clause-most
returns-clause-most c at x m b label = most_same (pos (at m.0)) (pos (at x)) m.1 b
