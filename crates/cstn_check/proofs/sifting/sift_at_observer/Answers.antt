use Rattle.std.proofs.Common.{arith}
use Rattle.std.proofs.lemmas.Int.{ints}
use Rattle.cstn_label.specs.Labels.{without}
use Rattle.cstn_label.specs.Read.{marks}
use Rattle.cstn_net.specs.Read.{the_network}
use Rattle.cstn_check.proofs.FloorLemmas.{floor_ranged}
use Rattle.cstn_check.proofs.SiftLemmas.{sifted_itself, observer_sifted}
use Rattle.cstn_check.proofs.sifting.sift_at_observer.Goals as goal

pub overflow_sub-low : goal.overflow_sub-low
overflow_sub-low c =
    let own = c.args.own.now in
    let r = floor_ranged (the_network c.args.net.now) c.args.log.now own.node.0 (without (marks own.label) c.args.p.index) c.args.floor c.network_is_well_formed.ensures c.requires.ready
    c.requires.floor in
    omega (arith, ints, r.0, r.1, c.reaction.ensures.reaction, c.reaction.ensures.range)

pub returns-in_default-clause-sifted : goal.returns-in_default-clause-sifted
returns-in_default-clause-sifted c = sifted_itself c.args.log.now c.args.j

pub returns-in_default-clause-seen : goal.returns-in_default-clause-seen
returns-in_default-clause-seen c = λ k e there upto observes. absurd (c.in_default.ensures.observer e.bound.node.0 observes)

pub returns-clause-sifted : goal.returns-clause-sifted
returns-clause-sifted c = record { stays = c.put_down.ensures.stays; kept = c.put_down.ensures.kept; upto = c.put_down.ensures.upto }

pub returns-clause-seen : goal.returns-clause-seen
returns-clause-seen c =
    let net = the_network c.args.net.now in
    let own = c.args.own.now in
    let r = floor_ranged net c.args.log.now own.node.0 (without (marks own.label) c.args.p.index) c.args.floor c.network_is_well_formed.ensures c.requires.ready c.requires.floor in
    observer_sifted net c.args.log.now c.put_down.new.self c.args.j c.args.p.index c.in-Some.x.0 own c.args.floor _ c.requires.ready c.requires.bound
    (λ y other. c.network_is_well_formed.ensures.network.one_observer y c.in-Some.x.0 c.args.p.index other c.in-Some.ensures.observer) c.requires.floor
    c.put_down.ensures.stays c.put_down.ensures.added (omega (arith, ints, r.0, r.1, c.reaction.ensures.reaction, c.reaction.ensures.range))
