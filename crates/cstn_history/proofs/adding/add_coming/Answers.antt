use Rattle.std.proofs.Common.{◌≡◌, ◌∷◌, [], false, arith, sym, subst, ap, ◌∙◌, to_z, of_z, w32}
use Rattle.std.specs.Prelude.{not, pos, ◌-ℤ◌, slice_index_or}
use Rattle.std.specs.Option.{is_some}
use Rattle.std.proofs.lemmas.Int.{ints}
use Rattle.cstn_lift.specs.Read.{the_labelled}
use Rattle.cstn_history.specs.Histories.{is_done, soonest}
use Rattle.cstn_history.specs.Rest.{bare, number_left}
use Rattle.cstn_history.specs.Read.{the_history}
use Rattle.cstn_history.specs.Handed.{AreAddedBehind}
use Rattle.cstn_history.proofs.Made.{numbers_inside, number_there, coming_adds}
use Rattle.cstn_history.proofs.adding.add_coming.Goals as goal

pub bounds-numbers-index : goal.bounds-numbers-index
bounds-numbers-index c =
    let at = c.index.ensures.index in
    let inside = numbers_inside (the_labelled c.args.network.now) (the_history c.args.history.now) c.args.numbers.now c.requires.numbers c.args.x.0 c.requires.inside in
    omega arith

pub returns-in_ok-add_bare-clause-added : goal.returns-in_ok-add_bare-clause-added
returns-in_ok-add_bare-clause-added c =
    let m = the_labelled c.args.network.now in
    let h = the_history c.args.history.now in
    let x = c.args.x.0 in
    let k = slice_index_or c.args.numbers.now c.index.result 0 in
    let number : k ≡ number_left m h x = ap (λ i. slice_index_or c.args.numbers.now i 0) c.index.ensures.index
    ∙ number_there m h c.args.numbers.now c.requires.numbers x c.requires.inside in
    let at : c.soonest-soonest.result ≡ soonest h x = c.soonest-soonest.ensures.soonest in
    let now = c.requires.kept.in_time.now in
    let ready = c.requires.kept.in_time.ready x in
    let later = c.if-soonest-gt0.true in
    let undone : is_done h x ≡ false = sym (ap is_some c.done.ensures.done) ∙ c.is_none.ensures ∙ ap not c.if-is_none.true in
    let value : to_z w32 (of_z w32 (pos 0 -ℤ to_z w32 c.soonest-soonest.result)) ≡ pos 0 -ℤ pos (soonest h x) = omega (arith, ints) in
    subst (AreAddedBehind c.args.fresh c.args.added.now.items c.add_bare.new.added.items)
    (ap (λ i. bare i 0 (to_z w32 (of_z w32 (pos 0 -ℤ to_z w32 c.soonest-soonest.result))) ∷ []) number ∙ ap (λ v. bare (number_left m h x) 0 v ∷ []) value
    ∙ sym (coming_adds m h x (omega arith) (sym c.is_left.ensures ∙ c.if-is_left.true) undone)) c.in_ok-add_bare.ensures.added
