use Rattle.cstn_top.specs.declared.commands.drill.TheConstants.{SMALL_CAP}
use Rattle.cstn_top.proofs.Drills.{yes_true, no_false}
use Rattle.cstn_top.proofs.commands.drill.is_checked.Goals as goal

pub returns-in-Yes : goal.returns-in-Yes
returns-in-Yes c = record { consistent = yes_true c.args.net c.in_ok-check.check SMALL_CAP c.in-Yes.load c.requires.well_formed c.in_ok-check.ensures.start c.in-Yes.ensures.exactly_yes }

pub returns-in-No : goal.returns-in-No
returns-in-No c = record { consistent = no_false c.args.net c.in_ok-check.check SMALL_CAP c.in-No.load c.requires.well_formed c.in_ok-check.ensures.start c.in-No.ensures.exactly_no }
