use Rattle.cstn_minset.proofs.BitLemmas.{flipped_here, flipped_others}
use Rattle.cstn_minset.proofs.bits.with_flipped.Goals as goal

pub returns-clause-here : goal.returns-clause-here
returns-clause-here c = flipped_here c.args.word c.args.i c.requires

pub returns-clause-others : goal.returns-clause-others
returns-clause-others c = λ k other. flipped_others c.args.word c.args.i k c.requires other
