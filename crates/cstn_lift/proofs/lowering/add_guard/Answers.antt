use Rattle.std.proofs.Common.{◌≡◌, ◌++◌, [], ◌∷◌, sym, subst, ap, arith, to_z, of_z, w32}
use Rattle.std.specs.Prelude.{pos, ◌-ℤ◌}
use Rattle.std.specs.List.{filter_map}
use Rattle.std.proofs.lemmas.Int.{ints}
use Rattle.cstn_label.specs.Read.{marks}
use Rattle.cstn_net.specs.Read.{the_network}
use Rattle.cstn_lift.specs.Lowered.{guard}
use Rattle.cstn_lift.specs.Handed.{HasConstraints}
use Rattle.cstn_lift.proofs.Built.{guard_added, guard_skipped}
use Rattle.cstn_lift.proofs.LoweredLemmas.{observer_found, observer_none}
use Rattle.cstn_lift.proofs.lowering.add_guard.Goals as goal

pub returns-in_default-clause-added : goal.returns-in_default-clause-added
returns-in_default-clause-added c = λ cs has.
    guard_skipped (the_network c.args.net.now) c.args.x.0 c.args.p.index c.args.label cs c.args.builder.now.drafts c.requires.marked
    (observer_none (the_network c.args.net.now) c.args.p.index c.in_default.ensures.observer) has

pub returns-clause-added : goal.returns-clause-added
returns-clause-added c = λ cs has.
    let net = the_network c.args.net.now in
    let range = c.reaction.ensures.range in
    let is = c.reaction.ensures.reaction in
    let most : to_z w32 (of_z w32 (pos 0 -ℤ to_z w32 c.reaction.result)) ≡ pos 0 -ℤ pos (net.reaction c.args.p.index) = omega (arith, ints) in
    subst (λ ds. HasConstraints (cs ++ filter_map (guard net c.args.x.0 (marks c.args.label)) (c.args.p.index ∷ [])) ds)
    (sym (ap (λ b. b.drafts) c.in_ok-constrain.ensures.appended))
    (guard_added c.drafts_are_numbered.ensures.length c.drafts_are_numbered.ensures.more net c.args.x.0 c.in-Some.observer.0 c.args.p.index c.args.label cs c.args.builder.now.drafts c.number.result c.number-2.result (to_z w32 (of_z w32 (pos 0 -ℤ to_z w32 c.reaction.result))) c.requires.marked
    (observer_found net c.requires.well_formed.network c.in-Some.observer.0 c.args.p.index c.in-Some.ensures.observer)
    c.number.ensures.number c.number-2.ensures.number most has)
