use Rattle.std.proofs.Common.{rules}
use Rattle.cstn_rules.specs.Read.{the_entry}
use Rattle.cstn_check.proofs.Marks.{marked_absent, marked_there}
use Rattle.cstn_check.proofs.needs.mark.Goals as goal

pub returns-in_default-place_of-clause-marked : goal.returns-in_default-place_of-clause-marked
returns-in_default-place_of-clause-marked c = λ list marked.
    marked_absent c.args.net.now list (the_entry c.args.e) c.args.marks.now marked c.in-Chain.constraint c.in-Chain.premise c.in-Chain.is (search rules) c.requires.size

pub returns-clause-marked : goal.returns-clause-marked
returns-clause-marked c = λ list marked.
    marked_there c.args.net.now list (the_entry c.args.e) c.args.marks.now marked c.in-Chain.constraint c.in-Chain.premise c.in-Some.place c.in-Chain.is
    c.network_is_well_formed.ensures c.requires.size c.in-Some.ensures.place.0 c.in-Some.ensures.place.1
