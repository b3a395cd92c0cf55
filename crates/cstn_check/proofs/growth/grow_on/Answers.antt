use Rattle.cstn_net.specs.Read.{the_network}
use Rattle.cstn_log.specs.Entries.{the_entries}
use Rattle.cstn_check.proofs.Starts.{kept_from, apart_from}
use Rattle.cstn_check.proofs.Outcomes.{is_grown}
use Rattle.cstn_check.proofs.growth.grow_on.Goals as goal

pub grow_kept-requires-clause-kept : goal.grow_kept-requires-clause-kept
grow_kept-requires-clause-kept c =
    kept_from (the_network c.args.net.now) c.network_is_well_formed.ensures (the_entries c.args.log.now.entries) c.requires.growable.derivation
    (record { more = c.requires.growable.front.0; is = c.requires.growable.front.1 }) (apart_from c.args.log.now.entries c.len-old.ensures.all_new)

pub returns-clause-grown : goal.returns-clause-grown
returns-clause-grown c =
    is_grown c.derivations_move.ensures.first (the_network c.args.net.now) c.args.log.now c.grow_kept.new.log c.grow_kept.result
    c.network_is_well_formed.ensures c.requires.growable
    (kept_from (the_network c.args.net.now) c.network_is_well_formed.ensures (the_entries c.args.log.now.entries) c.requires.growable.derivation
    (record { more = c.requires.growable.front.0; is = c.requires.growable.front.1 }) (apart_from c.args.log.now.entries c.len-old.ensures.all_new))
    c.grow_kept.ensures.outcome

pub returns-clause-tries : goal.returns-clause-tries
returns-clause-tries c = c.grow_kept.ensures.counted.low

pub returns-clause-most_tried : goal.returns-clause-most_tried
returns-clause-most_tried c = c.grow_kept.ensures.counted.most_tried

pub returns-clause-most_tries : goal.returns-clause-most_tries
returns-clause-most_tries c = λ not. rw (← c.len-old.ensures.len) (c.grow_kept.ensures.counted.most_tries not)
