use Rattle.cstn_net.specs.Read.{the_network}
use Rattle.cstn_top.proofs.Drills.{some_true, none_false}
use Rattle.cstn_top.proofs.commands.drill.is_decided.Goals as goal

pub returns-in-Ok-Some : goal.returns-in-Ok-Some
returns-in-Ok-Some c = record { consistent = some_true (the_network c.args.net.now) c.in-Ok-Some.field-0 c.in-Ok-Some.field-0-0 c.requires.well_formed c.in-Ok-Some.field-0-is c.in-Ok-Some.ensures.some }

pub returns-in-Ok-None : goal.returns-in-Ok-None
returns-in-Ok-None c = record { consistent = none_false (the_network c.args.net.now) c.in-Ok-None.field-0 c.requires.well_formed c.in-Ok-None.field-0-is c.in-Ok-None.ensures.none }
