use Rattle.cstn_sentences.specs.SeenDeclared.{the_declared}
use Rattle.cstn_sentences.specs.SeenMeaning.{the_meaning}
use Rattle.cstn_sentences.proofs.TellsLemmas.{means_nothing}
use Rattle.cstn_sentences.proofs.meaning.mean_text.Goals as goal

pub returns-in_default : goal.returns-in_default
returns-in_default c = means_nothing c.args.n (the_declared c.args.d.now) (the_meaning c.args.m.now) c.args.text.now c.in_default.ensures.words c.requires.words
