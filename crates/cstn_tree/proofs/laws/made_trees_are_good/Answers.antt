use Rattle.cstn_tree.proofs.MadeTrees.{made_good, made_least, made_among, made_fits, made_written}
use Rattle.cstn_tree.proofs.laws.made_trees_are_good.Goals as goal

pub returns-clause-good : goal.returns-clause-good
returns-clause-good c = made_good

pub returns-clause-least : goal.returns-clause-least
returns-clause-least c = made_least

pub returns-clause-among : goal.returns-clause-among
returns-clause-among c = made_among

pub returns-clause-fits : goal.returns-clause-fits
returns-clause-fits c = made_fits

pub returns-clause-written : goal.returns-clause-written
returns-clause-written c = λ names load net bounds table wf plan. made_written net bounds table wf plan names load
