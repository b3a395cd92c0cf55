use Rattle.std.proofs.Common.{refl, arith, rules, w32}
use Rattle.std.specs.Prelude.{FitsSigned}
use Rattle.std.proofs.lemmas.Int.{ints, to_z-of_z}
use Rattle.cstn_net.specs.Read.{the_network}
use Rattle.cstn_check.proofs.FloorLemmas.{limit_in_time}
use Rattle.cstn_check.proofs.TurnLemmas.{bound_in}
use Rattle.cstn_check.proofs.SiftLemmas.{sifted_itself, none_at, all_below, node_sifted}
use Rattle.cstn_check.proofs.sifting.sift_marking_at.Goals as goal

pub overflow_add-most : goal.overflow_add-most
overflow_add-most c =
    let own = bound_in (the_network c.args.net.now) c.args.log.now c.args.j c.args.own.now c.requires.ready c.requires.bound in
    let most = limit_in_time (the_network c.args.net.now) c.network_is_well_formed.ensures c.args.own.now.node.0 in
    omega (arith, ints, own.low, own.high, most, c.reaction.ensures.reaction, c.reaction.ensures.range)

pub returns-then-not-may_mark-clause-sifted : goal.returns-then-not-may_mark-clause-sifted
returns-then-not-may_mark-clause-sifted c = sifted_itself c.args.log.now c.args.j

pub returns-then-not-may_mark-clause-marking : goal.returns-then-not-may_mark-clause-marking
returns-then-not-may_mark-clause-marking c =
    none_at (the_network c.args.net.now) c.args.log.now c.args.j c.args.p.index c.args.x.0 c.args.own.now c.requires.ready c.requires.bound c.requires.observes
    (c.may_mark.ensures.none c.if-not-may_mark.true)

pub returns-then-most-floor-clause-sifted : goal.returns-then-most-floor-clause-sifted
returns-then-most-floor-clause-sifted c = sifted_itself c.args.log.now c.args.j

pub returns-then-most-floor-clause-marking : goal.returns-then-most-floor-clause-marking
returns-then-most-floor-clause-marking c =
    all_below (the_network c.args.net.now) c.args.log.now c.args.j c.args.p.index c.args.x.0 c.args.own.now c.requires.ready c.requires.bound c.requires.observes
    c.floor-floor.result c.floor-floor.ensures.floor
    (let own = bound_in (the_network c.args.net.now) c.args.log.now c.args.j c.args.own.now c.requires.ready c.requires.bound in
    let most = limit_in_time (the_network c.args.net.now) c.network_is_well_formed.ensures c.args.own.now.node.0 in
    omega (arith, ints, own.low, own.high, most, c.if-most-floor.true, c.reaction.ensures.reaction, c.reaction.ensures.range))

pub returns-clause-sifted : goal.returns-clause-sifted
returns-clause-sifted c = record { stays = c.put_down.ensures.stays; kept = c.put_down.ensures.kept; upto = c.put_down.ensures.upto }

pub returns-clause-marking : goal.returns-clause-marking
returns-clause-marking c =
    let fits : FitsSigned w32 c.floor-floor.result = search rules in
    node_sifted (the_network c.args.net.now) c.args.log.now c.args.j c.args.p.index c.args.x.0 c.args.own.now c.requires.ready c.requires.bound c.requires.observes
    c.floor-floor.result c.floor-floor.ensures.floor c.put_down.new.self c.args.p refl c.put_down.ensures.stays
    (simp to_z-of_z at c.put_down.ensures.added)
