use Rattle.std.proofs.Common.{ℕ, ◌<◌, Some, None, ◌∷◌, [], ◌++◌, map, max, arith, sym, ap, ◌∙◌}
use Rattle.std.specs.Prelude.{if◌then◌else◌}
use Rattle.std.specs.List.{range_with_len}
use Rattle.std.proofs.lemmas.List.FromFn.{map-range_with_len_more}
use Rattle.cstn_net.specs.Networks.{count}
use Rattle.cstn_net.specs.Read.{NetworkParts, the_network}
use Rattle.cstn_lift.specs.Read.{the_labelled}
use Rattle.cstn_plan.specs.Plans.{the_bounds}
use Rattle.cstn_history.specs.Read.{the_history}
use Rattle.cstn_next.specs.Next.{is_ready, latest, coming_at}
use Rattle.cstn_next.proofs.Filled.{number_at, number_upto, numbers_long}
use Rattle.cstn_next.proofs.ready.coming_moments.Goals as goal

pub index-requires : goal.index-requires
index-requires c =
    let m = the_labelled c.args.network.now in
    let h = the_history c.args.history.now in
    let long = numbers_long m h c.in_ok-numbers.numbers.items c.in_ok-numbers.ensures.numbers in
    let ok = c.in_ok-numbers.numbers.ok.0 in
    let test = c.loop-x-test.true in
    let count_is = c.count-x-end.ensures.count in
    let base_is = ap (λ (n : NetworkParts). count (the_network n)) c.base.ensures.base in
    omega arith

pub bounds-latest-index : goal.bounds-latest-index
bounds-latest-index c =
    let m = the_labelled c.args.network.now in
    let h = the_history c.args.history.now in
    let x = c.loop-x.x in
    let test = c.loop-x-test.true in
    let count_is = c.count-x-end.ensures.count in
    let base_is = ap (λ (n : NetworkParts). count (the_network n)) c.base.ensures.base in
    let below : x < count m.base = omega arith in
    let at = c.index.ensures ∙ number_at m h c.in_ok-numbers.numbers.items x c.index.result.now c.in_ok-numbers.ensures.numbers below in
    let upto = number_upto m h x in
    let few = c.base.ensures.well_formed.few_points in
    omega arith

pub loop-x-preserved : goal.loop-x-preserved
loop-x-preserved c =
    let m = the_labelled c.args.network.now in
    let h = the_history c.args.history.now in
    let bounds = the_bounds c.args.plan.now.bounds in
    let x = c.loop-x.x in
    let number = c.index.result.now in
    let test = c.loop-x-test.true in
    let count_is = c.count-x-end.ensures.count in
    let base_is = ap (λ (n : NetworkParts). count (the_network n)) c.base.ensures.base in
    let below : x < count m.base = omega arith in
    let at = c.index.ensures ∙ number_at m h c.in_ok-numbers.numbers.items x number c.in_ok-numbers.ensures.numbers below in
    let upto = number_upto m h x in
    let few = c.base.ensures.well_formed.few_points in
    let asked = c.latest-latest.ensures number (omega arith) ∙ ap (latest bounds) at in
    c.in_ok-push.ensures.items ∙ ap (λ l. l ++ c.coming_at.result ∷ []) c.loop-x.invariant
    ∙ ap (λ o. map (coming_at m h bounds) (range_with_len 0 x) ++ o ∷ [])
    (c.coming_at.ensures ∙ ap (λ (t : ℕ). if is_ready m h x then Some (max h.now t) else None) asked)
    ∙ sym (map-range_with_len_more (coming_at m h bounds) 0 x x (omega arith))
