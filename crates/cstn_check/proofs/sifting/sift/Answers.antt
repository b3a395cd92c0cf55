use Rattle.cstn_net.specs.Read.{the_network}
use Rattle.cstn_check.proofs.SiftLemmas.{open_on, inside_past, stays_through, inside_on, bound_at_on, ahead_of_all}
use Rattle.cstn_check.proofs.sifting.sift.Goals as goal

pub bound-own-requires : goal.bound-own-requires
bound-own-requires c = inside_past c.args.log.now c.clear_agenda.new.self c.args.j c.clear_agenda.ensures.stays c.requires.place

pub sift_seen-requires-clause-ready : goal.sift_seen-requires-clause-ready
sift_seen-requires-clause-ready c =
    open_on (the_network c.args.net.now) c.args.log.now c.clear_agenda.new.self c.clear_agenda.ensures.stays c.requires.ready

pub sift_seen-requires-clause-place : goal.sift_seen-requires-clause-place
sift_seen-requires-clause-place c = inside_past c.args.log.now c.clear_agenda.new.self c.args.j c.clear_agenda.ensures.stays c.requires.place

pub sift_marking-requires-clause-ready : goal.sift_marking-requires-clause-ready
sift_marking-requires-clause-ready c =
    open_on (the_network c.args.net.now) c.clear_agenda.new.self c.sift_seen.new.log c.sift_seen.ensures.sifted.stays
    (open_on (the_network c.args.net.now) c.args.log.now c.clear_agenda.new.self c.clear_agenda.ensures.stays c.requires.ready)

pub sift_marking-requires-clause-place : goal.sift_marking-requires-clause-place
sift_marking-requires-clause-place c =
    inside_on c.clear_agenda.new.self c.sift_seen.new.log c.args.j c.sift_seen.ensures.sifted
    (inside_past c.args.log.now c.clear_agenda.new.self c.args.j c.clear_agenda.ensures.stays c.requires.place)

pub sift_marking-requires-clause-bound : goal.sift_marking-requires-clause-bound
sift_marking-requires-clause-bound c =
    bound_at_on (the_network c.args.net.now) c.clear_agenda.new.self c.sift_seen.new.log c.args.j c.sift_seen.ensures.sifted c.bound-own.result c.bound-own.ensures.bound

pub returns-clause-stays : goal.returns-clause-stays
returns-clause-stays c =
    stays_through c.args.log.now c.sift_seen.new.log c.sift_marking.new.log
    (stays_through c.args.log.now c.clear_agenda.new.self c.sift_seen.new.log c.clear_agenda.ensures.stays c.sift_seen.ensures.sifted.stays)
    c.sift_marking.ensures.sifted.stays

pub returns-clause-ahead : goal.returns-clause-ahead
returns-clause-ahead c =
    ahead_of_all (the_network c.args.net.now) c.clear_agenda.new.self c.sift_seen.new.log c.sift_marking.new.log c.args.j c.clear_agenda.ensures.none
    c.sift_seen.ensures.sifted c.sift_marking.ensures.sifted c.sift_seen.ensures.seen c.sift_marking.ensures.marking
