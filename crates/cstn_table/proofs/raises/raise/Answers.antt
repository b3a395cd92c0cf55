use Rattle.std.proofs.Common.{◌≡◌, ◌+◌, ◌*◌, arith, subst, sym, ap, ◌∙◌, set, to_z, of_z, w32}
use Rattle.std.specs.Prelude.{nat_abs}
use Rattle.std.proofs.lemmas.Int.{ints}
use Rattle.cstn_net.specs.Networks.{limit, count}
use Rattle.cstn_net.specs.Read.{the_network}
use Rattle.cstn_table.specs.Tables.{observed_props, scenario_of}
use Rattle.cstn_table.specs.Raises.{IsLow}
use Rattle.cstn_table.proofs.RaiseLemmas.{past_limit, raised_low, place_inside}
use Rattle.cstn_table.proofs.WalkLemmas.{less_room}
use Rattle.cstn_table.proofs.raises.raise.Goals as goal

pub returns-then-least-unsigned_abs-clause-none : goal.returns-then-least-unsigned_abs-clause-none
returns-then-least-unsigned_abs-clause-none c =
    let net = the_network c.args.net.now in
    let range = c.limit.ensures.range in
    let bound = c.limit.ensures.limit in
    let same : to_z w32 (of_z w32 c.limit.result) ≡ c.limit.result = omega (arith, ints) in
    let is : c.unsigned_abs.result ≡ limit net c.args.x.0 = c.unsigned_abs.ensures.value ∙ ap nat_abs (same ∙ bound) in
    let past = c.if-least-unsigned_abs.true in
    past_limit net (scenario_of (observed_props net.observes) c.args.row) c.args.x.0 c.args.least c.requires.x (omega arith) c.requires.forced

pub returns-clause-some : goal.returns-clause-some
returns-clause-some c =
    let net = the_network c.args.net.now in
    let range = c.limit.ensures.range in
    let bound = c.limit.ensures.limit in
    let same : to_z w32 (of_z w32 c.limit.result) ≡ c.limit.result = omega (arith, ints) in
    let is : c.unsigned_abs.result ≡ limit net c.args.x.0 = c.unsigned_abs.ensures.value ∙ ap nat_abs (same ∙ bound) in
    let upto = c.if-least-unsigned_abs.false in
    let at : c.place-at.result ≡ c.args.row * count net + c.args.x.0 =
    c.place-at.ensures ∙ ap (λ n. c.args.row * n + c.args.x.0) c.count.ensures.count in
    let inside = place_inside net c.args.moments.now c.args.row c.args.x.0 c.requires.low c.requires.row c.requires.x in
    record {
      low = subst (λ k. IsLow net (set c.args.moments.now k c.args.least)) (sym at)
          (raised_low net c.count.ensures.well_formed.network c.args.moments.now c.requires.low (c.unobserved_is_unseen.ensures net) c.args.row c.args.x.0 c.args.least
          c.requires.row c.requires.x c.requires.forced (omega arith));
      rises = λ e. less_room c.args.moments.now c.place-at.result c.args.least (omega arith) c.if-least-moments.false (omega (arith, ints));
      stays = λ e. cc;
      quiet = λ e. cc;
    }
