use Rattle.std.proofs.Common.{◌≡◌, ◌+◌, suc, [], ◌∷◌, length, drop, get_or, arith, sym, ap, ◌∙◌}
use Rattle.std.proofs.Math.Seq.{drop-cons, drop-length}
use Rattle.cstn_net.specs.Read.{the_network}
use Rattle.cstn_check.specs.Givers.{with_some}
use Rattle.cstn_change.proofs.PlanLemmas.{constraint_taken}
use Rattle.cstn_follow.proofs.Forgiven.{isnt_of, taken_next, all_taken}
use Rattle.cstn_follow.proofs.forgiving.without_ids.Goals as goal

pub loop-id-preserved : goal.loop-id-preserved
loop-id-preserved c =
    let ids = c.args.ids.now in
    let i = c.loop-id.id-index in
    let old = c.loop-id.base in
    let new = c.take_out.new.self in
    let id = get_or ids i 0 in
    let next : drop i ids ≡ id ∷ drop (suc i) ids = drop-cons ids i 0 c.loop-id-test.true in
    let more : suc i ≡ i + 1 = omega arith in
    let taken = constraint_taken old new id c.take_out.result c.take_out.ensures.none c.take_out.ensures.same c.take_out.ensures.gone in
    c.loop-id.invariant
    ∙ ap (λ l. with_some (the_network old) (isnt_of l)) next
    ∙ taken_next old new id (drop (suc i) ids) taken
    ∙ ap (λ n. with_some (the_network new) (isnt_of (drop n ids))) more

pub returns : goal.returns
returns c = record {
  without =
      let ids = c.args.ids.now in
      let i = c.loop-id.id-index in
      let out = c.loop-id-test.false in
      let end : i ≡ length ids = omega arith in
      let none : drop i ids ≡ [] = ap (λ n. drop n ids) end ∙ drop-length ids in
      sym (c.loop-id.invariant ∙ ap (λ l. with_some (the_network c.loop-id.base) (isnt_of l)) none ∙ all_taken c.loop-id.base);
}
