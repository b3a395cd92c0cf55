use Rattle.std.proofs.Common.{◌∙◌}
use Rattle.cstn_change.proofs.IdLemmas.{has_seen}
use Rattle.cstn_change.proofs.refusals.has_constraint.Goals as goal

pub returns-clause-by_definition : goal.returns-clause-by_definition
returns-clause-by_definition c = c.is_some.ensures ∙ has_seen c.args.id c.args.net.now c.place_of.result c.place_of.ensures.none
