use Rattle.std.proofs.Common.{◌≡◌, false, arith, sym, ap, ◌∙◌}
use Rattle.std.specs.Prelude.{slice_index_or}
use Rattle.std.specs.Option.{is_some}
use Rattle.cstn_lift.specs.Read.{the_labelled}
use Rattle.cstn_history.specs.Histories.{is_done}
use Rattle.cstn_history.specs.Read.{the_history}
use Rattle.cstn_history.proofs.Made.{numbers_inside, number_there, end_other}
use Rattle.cstn_history.proofs.leaving.end_left.Goals as goal

pub bounds-numbers-index : goal.bounds-numbers-index
bounds-numbers-index c =
    let at = c.index.ensures.index in
    let inside = numbers_inside (the_labelled c.args.network.now) (the_history c.args.history.now) c.args.numbers.now c.requires.numbers c.args.x.0 c.requires.inside in
    omega arith

pub returns-else-is_some : goal.returns-else-is_some
returns-else-is_some c =
    let m = the_labelled c.args.network.now in
    let h = the_history c.args.history.now in
    let x = c.args.x.0 in
    let coming : is_done h x ≡ false = sym (ap is_some c.done.ensures.done) ∙ sym c.is_some.ensures ∙ c.if-is_some.false in
    ap (λ i. slice_index_or c.args.numbers.now i 0) c.index.ensures.index
    ∙ number_there m h c.args.numbers.now c.requires.numbers x c.requires.inside ∙ sym (end_other m h x coming)
