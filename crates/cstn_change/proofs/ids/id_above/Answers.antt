use Rattle.std.proofs.Common.{suc, ◌≡◌, ◌+◌, ◌^◌, length, arith, sym, subst}
use Rattle.std.specs.Prelude.{slice_index_or}
use Rattle.cstn_net.specs.Read.{the_network}
use Rattle.cstn_change.specs.Changes.{id_above}
use Rattle.cstn_change.proofs.IdLemmas.{last_above, above_small, above_each, ids_in}
use Rattle.cstn_change.proofs.ids.id_above.Goals as goal

pub returns-clause-above : goal.returns-clause-above
returns-clause-above c =
    let net = c.args.net.now in
    let same = c.constraints-constraints.ensures.constraints in
    let there = c.in-Some.ensures in
    let k = c.in-Some.last in
    let d = c.index-constraints-last.result in
    let last = subst (λ cs. suc k ≡ length cs) same (omega (arith, there.0, there.1)) in
    let is = last_above net d k c.constraints-constraints.ensures.well_formed last in
    subst (λ cs. (slice_index_or cs k d).id + 1 ≡ id_above (the_network net).constraints) (sym same) (omega (arith, is))

pub returns-clause-small : goal.returns-clause-small
returns-clause-small c =
    let is = returns-clause-above c in
    let small = above_small (2 ^ 31) (the_network c.args.net.now).constraints c.requires.ids in
    omega (arith, is, small)

pub overflow_add-result : goal.overflow_add-result
overflow_add-result c =
    let net = c.args.net.now in
    let same = c.constraints-constraints.ensures.constraints in
    let there = c.in-Some.ensures in
    let k = c.in-Some.last in
    let d = c.index-constraints-last.result in
    let last = subst (λ cs. suc k ≡ length cs) same (omega (arith, there.0, there.1)) in
    let is = last_above net d k c.constraints-constraints.ensures.well_formed last in
    let at = subst (λ cs. (slice_index_or cs k d).id + 1 ≡ id_above (the_network net).constraints) (sym same) (omega (arith, is)) in
    let small = above_small (2 ^ 31) (the_network net).constraints c.requires.ids in
    omega (arith, at, small)

pub returns-clause-each : goal.returns-clause-each
returns-clause-each c = let net = c.args.net.now in ids_in (id_above (the_network net).constraints) net.constraints (above_each (the_network net).constraints)
