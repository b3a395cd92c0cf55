-- The bounds of a yes, as lines.
use Rattle.std.proofs.Common.{◌≡◌, ℕ, ◌<◌, List, length, map, get_or, sym, subst, arith}
use Rattle.std.specs.List.{All, Contains}
use Rattle.std.proofs.lemmas.Int.{ints}
use Rattle.std.proofs.lemmas.List.{length-map, get_or-map}
use Rattle.std.proofs.lemmas.List.Elements.{Contains-get_or}
use Rattle.cstn_label.specs.declared.bounds.Bound.{Bound as Declared}
use Rattle.cstn_label.specs.Bounds.{Bound}
use Rattle.cstn_label.specs.Read.{the_bound}
use Rattle.cstn_net.specs.Networks.{Network, IsWellFormed, count}
use Rattle.cstn_net.proofs.Kept.{limit_in_time}
use Rattle.cstn_rules.specs.Rules.{IsBoundOf}
use Rattle.cstn_check.specs.Growth.{log_of, live_bounds}
use Rattle.cstn_closed.specs.Written.{IsNamedBound}

bound_named : (names : List (List ℕ)) (net : Network) (b : Declared) → IsWellFormed net → length names ≡ count net → IsBoundOf net (the_bound b) → IsNamedBound names b
bound_named names net b good named is =
    let most = limit_in_time net good b.node.0 in
    let node = is.node in
    let low = is.low in
    let high = is.high in
    record { node = omega (arith, node, named); low = low; high = omega (arith, ints, most, high) }

-- the bounds of the live entries have names and are in range
pub all_named : (names : List (List ℕ)) (net : Network) (bounds : List Declared) → IsWellFormed net → length names ≡ count net → ((b : Bound) → Contains (live_bounds (log_of net)) b → IsBoundOf net b) → map the_bound bounds ≡ live_bounds (log_of net) → All (IsNamedBound names) bounds
all_named names net bounds good named ranged live = λ k d inside.
    let within : k < length (map the_bound bounds) = subst (λ (n : ℕ). k < n) (sym (length-map bounds the_bound)) inside in
    let has : Contains (live_bounds (log_of net)) (the_bound (get_or bounds k d)) =
    subst (λ (bs : List Bound). Contains bs (the_bound (get_or bounds k d))) live
    (subst (λ (b : Bound). Contains (map the_bound bounds) b) (get_or-map the_bound bounds k d (the_bound d) inside) (Contains-get_or (map the_bound bounds) k (the_bound d) within)) in
    bound_named names net (get_or bounds k d) good named (ranged (the_bound (get_or bounds k d)) has)
