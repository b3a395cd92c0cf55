use Rattle.std.proofs.Common.{ℕ, ◌≡◌, ◌+◌, ◌*◌, ◌<◌, ◌≤◌, min, get_or, arith, sym, subst, ap, ◌∙◌}
use Rattle.cstn_label.specs.Read.{the_scenario}
use Rattle.cstn_net.specs.Networks.{count}
use Rattle.cstn_net.specs.Strategies.{Agrees}
use Rattle.cstn_net.specs.Read.{the_network}
use Rattle.cstn_table.specs.Tables.{observed_props, scenario_of, row_at}
use Rattle.cstn_table.specs.Raises.{IsNoLater}
use Rattle.cstn_table.proofs.RowLemmas.{by_observed}
use Rattle.cstn_table.proofs.RaiseLemmas.{row_small, row_forced, forced_by_pair}
use Rattle.cstn_table.proofs.WalkLemmas.{weaker}
use Rattle.cstn_table.proofs.pairs.raise_row.Goals as goal

pub place-requires-clause-row : goal.place-requires-clause-row
place-requires-clause-row c = let few = c.requires.low.few in let inside = c.requires.other in omega arith

pub raise-requires-clause-forced : goal.raise-requires-clause-forced
raise-requires-clause-forced c =
    let net = the_network c.args.net.now in
    let good = c.count.ensures.well_formed.network in
    let own = by_observed net c.args.props.now c.args.row (the_scenario c.scenario_of.result) c.requires.props c.scenario_of.ensures in
    let else_is = by_observed net c.args.props.now c.args.other (the_scenario c.scenario_of-2.result) c.requires.props c.scenario_of-2.ensures in
    let at : c.place.result ≡ c.args.other * count net + c.loop-x.x =
    c.place.ensures ∙ ap (λ n. c.args.other * n + c.loop-x.x) c.count.ensures.count in
    let counted = c.count-x-end.ensures.count in
    let inside = c.loop-x-test.true in
    let here : c.loop-x.x < count net = omega arith in
    let least = c.min.ensures in
    let narrow = c.told_apart-apart.type_inv in
    let later = ap (λ k. get_or c.loop-x.moments k 0) at in
    forced_by_pair net good c.args.moments.now c.requires.low (c.observers_are_time_points.ensures.within net) (scenario_of (observed_props net.observes) c.args.other) c.args.row c.loop-x.x
    c.min.result c.requires.row here
    (λ t early. subst (λ s. Agrees net (row_at (count net) c.args.moments.now c.args.row) t s (scenario_of (observed_props net.observes) c.args.other)) own
    (subst (λ r. Agrees net (row_at (count net) c.args.moments.now c.args.row) t (the_scenario c.scenario_of.result) r) else_is
    ((c.told_apart-apart.ensures t (omega arith)).1 (omega arith))))
    (λ table strategy.
    let below = row_forced net good c.loop-x.moments c.loop-x.invariant.low c.args.other c.loop-x.x c.requires.other here table strategy in
    omega arith)

pub returns-clause-some : goal.returns-clause-some
returns-clause-some c =
    let net = the_network c.args.net.now in
    let own = by_observed net c.args.props.now c.args.row (the_scenario c.scenario_of.result) c.requires.props c.scenario_of.ensures in
    let else_is = by_observed net c.args.props.now c.args.other (the_scenario c.scenario_of-2.result) c.requires.props c.scenario_of-2.ensures in
    let counted = c.count-x-end.ensures.count in
    let last = c.loop-x-test.false in
    weaker net (λ ts. (y : ℕ) → y < c.loop-x.x →
    min (row_at (count net) ts c.args.other y) c.told_apart-apart.result ≤ row_at (count net) ts c.args.row y)
    (IsNoLater net c.args.row c.args.other) c.args.moments.now c.loop-x.moments c.loop-x.raised
    (λ quiet x here agrees.
    let small = row_small net c.count-x-end.ensures.well_formed c.args.moments.now c.requires.low c.args.row x c.requires.row here in
    let apart = (c.told_apart-apart.ensures (row_at (count net) c.args.moments.now c.args.row x) (omega arith)).0
    (subst (λ s. Agrees net (row_at (count net) c.args.moments.now c.args.row) (row_at (count net) c.args.moments.now c.args.row x) s (the_scenario c.scenario_of-2.result)) (sym own)
    (subst (λ r. Agrees net (row_at (count net) c.args.moments.now c.args.row) (row_at (count net) c.args.moments.now c.args.row x) (scenario_of (observed_props net.observes) c.args.row) r) (sym else_is) agrees)) in
    let least = quiet x (omega arith) in
    omega arith)
    c.loop-x.invariant
