use Rattle.std.proofs.Common.{◌≡◌, [], ◌∷◌, arith, sym, subst, ap, ◌∙◌, to_z, of_z, w32}
use Rattle.std.specs.Prelude.{pos, ◌-ℤ◌, slice_index_or}
use Rattle.std.proofs.lemmas.Int.{ints}
use Rattle.cstn_net.specs.Networks.{Constraint as TheConstraint}
use Rattle.cstn_lift.specs.Read.{the_labelled}
use Rattle.cstn_history.specs.Rest.{bare, number_left, moment_watched}
use Rattle.cstn_history.specs.Read.{the_history}
use Rattle.cstn_history.specs.Handed.{AreAddedBehind}
use Rattle.cstn_history.proofs.Made.{numbers_inside, number_there, adds_both, watched_adds}
use Rattle.cstn_history.proofs.adding.add_watched.Goals as goal

pub bounds-numbers-index : goal.bounds-numbers-index
bounds-numbers-index c =
    let at = c.index.ensures.index in
    let inside = numbers_inside (the_labelled c.args.network.now) (the_history c.args.history.now) c.args.numbers.now c.requires.numbers c.args.x.0 c.requires.inside in
    omega arith

pub returns-clause-added : goal.returns-clause-added
returns-clause-added c =
    let m = the_labelled c.args.network.now in
    let h = the_history c.args.history.now in
    let x = c.args.x.0 in
    let p = c.in-Some-sight_left.p.index in
    let t = c.in-Some.done in
    let old = c.args.added.now.items in
    let mid = c.add_bare.new.added.items in
    let new = c.add_bare-2.new.added.items in
    let k = slice_index_or c.args.numbers.now c.index.result 0 in
    let number : k ≡ number_left m h x = ap (λ i. slice_index_or c.args.numbers.now i 0) c.index.ensures.index
    ∙ number_there m h c.args.numbers.now c.requires.numbers x c.requires.inside in
    let range = c.moment_watched-moment.ensures.range in
    let is = c.moment_watched-moment.ensures.moment in
    let low : to_z w32 (of_z w32 (pos 0 -ℤ to_z w32 c.moment_watched-moment.result)) ≡ pos 0 -ℤ pos (moment_watched m h p t) = omega (arith, ints) in
    let high : to_z w32 c.moment_watched-moment.result ≡ pos (moment_watched m h p t) = omega (arith, ints) in
    let first = subst (λ (e : TheConstraint). AreAddedBehind c.args.fresh old mid (e ∷ []))
    (ap (λ i. bare i 0 (to_z w32 (of_z w32 (pos 0 -ℤ to_z w32 c.moment_watched-moment.result)))) number ∙ ap (bare (number_left m h x) 0) low) c.in_ok-add_bare.ensures.added in
    let second = subst (λ (e : TheConstraint). AreAddedBehind c.args.fresh mid new (e ∷ []))
    (ap (λ i. bare 0 i (to_z w32 c.moment_watched-moment.result)) number ∙ ap (bare 0 (number_left m h x)) high) c.in_ok-add_bare-2.ensures.added in
    subst (AreAddedBehind c.args.fresh old new) (sym (watched_adds m h x t p c.if-x-eq0.false (sym c.in-Some.ensures.done) (sym c.in-Some-sight_left.ensures)))
    (adds_both c.args.fresh old mid new (bare (number_left m h x) 0 (pos 0 -ℤ pos (moment_watched m h p t)) ∷ []) (bare 0 (number_left m h x) (pos (moment_watched m h p t)) ∷ []) first second)
