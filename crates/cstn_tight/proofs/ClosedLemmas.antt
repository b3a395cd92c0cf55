-- The bounds of the live entries of a log.
use Rattle.std.proofs.Common.{ℕ, zero, suc, ◌≡◌, ◌<◌, ◌≤◌, Bool, true, false, cond, inl, inr, Some, Result, Ok, Err, List, [], ◌∷◌, length, get_or, map, arith, refl, sym, subst, ap}
use Rattle.std.specs.Prelude.{slice_get, IfOk}
use Rattle.std.specs.List.{All, Contains}
use Rattle.std.specs.declared.alloc.AllocError.{AllocError}
use Rattle.std.proofs.lemmas.Int.{ints}
use Rattle.std.proofs.lemmas.Bool.{cases_Bool, cond-true, cond-false}
use Rattle.std.proofs.lemmas.List.{length-map, get_or-map}
use Rattle.std.proofs.lemmas.List.Elements.{Contains-get_or}
use Rattle.cstn_label.specs.declared.bounds.Bound.{Bound as Declared}
use Rattle.cstn_label.specs.Bounds.{Bound}
use Rattle.cstn_label.specs.Read.{the_bound}
use Rattle.cstn_net.specs.Limits.{most_load}
use Rattle.cstn_net.specs.Networks.{Network, IsWellFormed, count}
use Rattle.cstn_net.specs.Strategies.{IsConsistent}
use Rattle.cstn_rules.specs.Closed.{IsClosed}
use Rattle.cstn_rules.specs.Derivations.{Entry}
use Rattle.cstn_rules.specs.Rules.{IsBoundOf}
use Rattle.cstn_check.specs.Growth.{is_covered, log_of, load_of, live_bounds}
use Rattle.cstn_check.proofs.Bounded.{log_kept}
use Rattle.cstn_check.proofs.Decides.{log_closed, log_decides}
use Rattle.cstn_check.proofs.Ends.{load_above}
use Rattle.cstn_check.proofs.GoodLemmas.{good_at}
use Rattle.cstn_closed.specs.Closed.{ClosedParts}
use Rattle.cstn_closed.specs.Faults.{IsFaultless}
use Rattle.cstn_closed.specs.Written.{IsNamedBound}
use Rattle.cstn_tight.specs.Evidence.{IsClosedOf}
use Rattle.cstn_net.proofs.Kept.{limit_in_time}

-- an entry of the list with the bound b
record IsFrom (list : List Entry) (b : Bound) : Type 0 where
  pub place : ℕ
  pub entry : Entry
  pub there : slice_get list place ≡ Some entry
  pub bound : entry.bound ≡ b

later : (e : Entry) (es : List Entry) (b : Bound) → IsFrom es b → IsFrom (e ∷ es) b
later e es b f = record { place = suc f.place; entry = f.entry; there = f.there; bound = f.bound }

live_from : (list : List Entry) (b : Bound) → Contains (live_bounds list) b → IsFrom list b
live_from [] b has = absurd (let inside = has.1 in omega arith)
live_from (e ∷ es) b has = by (live_from es b) (is_covered es e.bound) has
  where
    first : (Contains (live_bounds es) b → IsFrom es b) → (k : ℕ) → k < length (e.bound ∷ live_bounds es) → get_or (e.bound ∷ live_bounds es) k b ≡ b → IsFrom (e ∷ es) b
    first rest zero inside at = record { place = 0; entry = e; there = refl; bound = at }
    first rest (suc k) inside at = later e es b (rest (k, omega arith, at))

    by : (Contains (live_bounds es) b → IsFrom es b) → (covered : Bool) → Contains (cond covered (live_bounds es) (e.bound ∷ live_bounds es)) b → IsFrom (e ∷ es) b
    by rest true h = later e es b (rest h)
    by rest false h = first rest h.0 h.1 h.2

pub live_short : (list : List Entry) → length (live_bounds list) ≤ length list
live_short [] = omega arith
live_short (e ∷ es) = elim (cases_Bool (is_covered es e.bound)) [
  | inl t ↦ rw t (let rest = live_short es in omega arith)
  | inr f ↦ rw f (let rest = live_short es in omega arith)
]

-- the last entry of a list is live
live_some : (e : Entry) (es : List Entry) → 1 ≤ length (live_bounds (e ∷ es))
live_some e [] = omega arith
live_some e (f ∷ es) = elim (cases_Bool (is_covered (f ∷ es) e.bound)) [
  | inl t ↦ subst (λ (bs : List Bound). 1 ≤ length bs) (sym (cond-true (is_covered (f ∷ es) e.bound) (live_bounds (f ∷ es)) (e.bound ∷ live_bounds (f ∷ es)) t)) (live_some f es)
  | inr f' ↦ subst (λ (bs : List Bound). 1 ≤ length bs) (sym (cond-false (is_covered (f ∷ es) e.bound) (live_bounds (f ∷ es)) (e.bound ∷ live_bounds (f ∷ es)) f')) (omega arith)
]

pub some_live : (list : List Entry) → 1 ≤ length list → 1 ≤ length (live_bounds list)
some_live [] some = absurd (omega arith)
some_live (e ∷ es) some = live_some e es

module _ (net : Network) (good : IsWellFormed net) where
  -- each live bound is at a time-point of the network, and in range
  live_fits : (b : Bound) → Contains (live_bounds (log_of net)) b → IsBoundOf net b
  live_fits b has =
      let from = live_from (log_of net) b has in
      let kept = log_kept net good.network good.letters in
      let range = kept.ranged from.place from.entry from.there in
      subst (IsBoundOf net) from.bound
      (record { node = (good_at net (log_of net) from.place from.entry kept.good from.there).node; low = range.low; high = range.high })

  -- the live bounds are closed where the network is consistent
  live_closed : IsConsistent net → IsClosed net (live_bounds (log_of net))
  live_closed consistent = log_closed net good.network good.letters ((log_decides net good.network good.letters).0 consistent)

  named_by : (bounds : List Declared) → map the_bound bounds ≡ live_bounds (log_of net) → (names : List (List ℕ)) → length names ≡ count net → All (IsNamedBound names) bounds
  named_by bounds is names many = λ k d inside.
      let long = length-map bounds the_bound in
      let b = get_or bounds k d in
      let at : get_or (map the_bound bounds) k (the_bound d) ≡ the_bound b = get_or-map the_bound bounds k d (the_bound d) inside in
      let has : Contains (map the_bound bounds) (the_bound b) = subst (Contains (map the_bound bounds)) at (Contains-get_or (map the_bound bounds) k (the_bound d) (omega arith)) in
      let fits = live_fits (the_bound b) (subst (λ bs. Contains bs (the_bound b)) is has) in
      let most = limit_in_time net good b.node.0 in
      let low = fits.low in
      let high = fits.high in
      let node = fits.node in
      record { node = omega arith; low = low; high = omega (arith, ints) }

  -- the list that is made of the plan
  pub closed_of : IsConsistent net → ((bounds : List Bound) → IsClosed net bounds → ((b : Bound) → Contains bounds b → IsBoundOf net b) → IsFaultless net bounds) →
      (load : ℕ) (bounds : List Declared) → load ≡ load_of net → load ≤ most_load → map the_bound bounds ≡ live_bounds (log_of net) →
      (r : Result ClosedParts AllocError) → IfOk r (λ c. c ≡ record { load = load; bounds = bounds }) → IfOk r (IsClosedOf net)
  closed_of consistent accepts load bounds load_is few live (Err e) is = tt
  closed_of consistent accepts load bounds load_is few live (Ok c) is =
      let long = length-map bounds the_bound in
      let same = ap length live in
      let short = live_short (log_of net) in
      let above = load_above net good in
      let origin = good.network.origin in
      let some = some_live (log_of net) (omega arith) in
      subst (IsClosedOf net) (sym is) (record {
        bounds = live;
        load = load_is;
        accepted = subst (IsFaultless net) (sym live) (accepts (live_bounds (log_of net)) (live_closed consistent) live_fits);
        named = named_by bounds live;
        text = record { load_low = omega arith; load_high = few; some = omega arith; few = omega arith };
      })
