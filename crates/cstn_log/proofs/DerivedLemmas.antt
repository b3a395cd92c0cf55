-- The entries of a log as a derivation.
use Rattle.std.proofs.Common.{◌≡◌, inl, inr, ℕ, zero, suc, ◌+◌, ◌<◌, ◌≤◌, List, [], ◌∷◌, ◌++◌, length, map, refl, ap, sym, ◌∙◌, subst, arith, add-one, length-append}
use Rattle.std.specs.Prelude.{Some, Result, Ok, Err, IsOk, IsErr, IfOk, slice_get}
use Rattle.std.proofs.lemmas.Option.{none-some, slice_get-map, slice_get_within}
use Rattle.std.proofs.lemmas.List.{length-map, map-append}
use Rattle.std.proofs.lemmas.List.Elements.{All-contains}
use Rattle.cstn_label.specs.declared.bounds.Bound.{Bound as DeclaredBound}
use Rattle.std.specs.List.{Contains}
use Rattle.cstn_label.specs.Bounds.{Bound}
use Rattle.cstn_label.specs.Read.{the_bound}
use Rattle.cstn_net.specs.Networks.{Network, Constraint, IsConstraint, IsWellFormed, count}
use Rattle.cstn_rules.specs.declared.entries.Entry.{Entry}
use Rattle.cstn_rules.specs.declared.entries.Why.{Why}
use Rattle.cstn_rules.specs.declared.entries.Why.TheVariants.{Base, Chain, Wait}
use Rattle.cstn_rules.specs.Rules.{base, IsBase, IsChain, IsWait}
use Rattle.cstn_rules.specs.Derivations.{Entry as TheEntry, IsEarlier, Follows, IsDerivation}
use Rattle.cstn_rules.specs.Read.{the_entry}
use Rattle.cstn_rules.proofs.Derived.{grown_derivation}
use Rattle.cstn_rules.proofs.Shapes.{chain_within, wait_within}
use Rattle.cstn_log.specs.Entries.{the_entries, IsCoveredBy, bases}
use Rattle.cstn_facts.proofs.Places.{get_map, get_more}

-- a bound that follows is at a time-point of the network
pub follows_inside : (net : Network) (L : List Entry) (k : ℕ) (why : Why) (r : Bound) → IsWellFormed net → ((j : ℕ) (e : Entry) → slice_get L j ≡ Some e → e.bound.node.0 < count net) → Follows net (the_entries L) k why r → r.node < count net
follows_inside net L k Base r good all f = f.node
follows_inside net L k (Chain id i) r good all f =
    (chain_within net f.0 f.1 r (All-contains (IsConstraint net) net.constraints f.0 good.network.constraints f.2) f.5).0
follows_inside net L k (Wait i j) r good all f = (wait_within net f.0 f.1 f.2 r (at_point f.2 f.4) f.5).0
  where
    at_point : (b : Bound) → IsEarlier (the_entries L) k j b → b.node < count net
    at_point b earlier =
        let got = get_map the_entry L j earlier.entry earlier.there in
        let same : (the_entry got.0).bound ≡ b = ap (λ z. z.bound) got.2 ∙ earlier.bound in
        subst (λ (z : Bound). z.node < count net) same (all j got.0 got.1)

-- a derivation with one more entry that follows is a derivation
pub pushed_derivation : (net : Network) (L new : List Entry) (x : Entry) → new ≡ L ++ x ∷ [] → Follows net (the_entries L) (length L) x.why (the_bound x.bound) → IsDerivation net (the_entries L) → IsDerivation net (the_entries new)
pushed_derivation net L new x longer follows derivation =
    let all : the_entries new ≡ the_entries L ++ the_entry x ∷ [] = ap (map the_entry) longer ∙ map-append the_entry L (x ∷ []) in
    let here = subst (λ (k : ℕ). Follows net (the_entries L) k x.why (the_bound x.bound)) (sym (length-map L the_entry)) follows in
    rw all (grown_derivation net (the_entries L) (the_entry x) derivation here)

pub length_bases : (n : ℕ) → length (bases n) ≡ n
length_bases zero = refl
length_bases (suc n) = omega (arith, length-append (bases n) (record { bound = base n; why = Base } ∷ []), length_bases n)

-- the base bounds of the first n time-points are at those
pub bases_below : (n k : ℕ) (e : TheEntry) → slice_get (bases n) k ≡ Some e → e.bound.node < n
bases_below zero k e there = absurd (none-some e there)
bases_below (suc n) k e there = elim (get_more (bases n) (record { bound = base n; why = Base }) k e there) [
  | inl old ↦ omega (arith, bases_below n k e old)
  | inr new ↦ let same : n ≡ e.bound.node = ap (λ z. z.bound.node) new.1 in omega arith
]

-- the base bounds of the first n time-points dominate no bound of a later one
pub bases_uncovered : (n : ℕ) (L : List Entry) (b : DeclaredBound) → the_entries L ≡ bases n → n ≤ b.node.0 → ¬ IsCoveredBy L b
bases_uncovered n L b are above covered =
    let there : slice_get (bases n) covered.0 ≡ Some (the_entry covered.1) = subst (λ (xs : List TheEntry). slice_get xs covered.0 ≡ Some (the_entry covered.1)) are (slice_get-map the_entry L covered.0 ∙ rw covered.2 refl) in
    omega (arith, bases_below n covered.0 (the_entry covered.1) there, covered.3.node)

-- the next base bound follows
pub base_follows : (net : Network) (L : List TheEntry) (k node : ℕ) (why : Why) (r : Bound) → node < count net → why ≡ Base → r ≡ base node → Follows net L k why r
base_follows net L k node why r inside is_base is = subst (λ (w : Why). Follows net L k w r) (sym is_base) (subst (λ (b : Bound). IsBase net b) (sym is) (record { node = inside; gives = refl }))

-- the list with the next base bound
pub bases_more : (n : ℕ) (L : List Entry) (x : Entry) → the_entries L ≡ bases n → the_bound x.bound ≡ base n → x.why ≡ Base → the_entries (L ++ x ∷ []) ≡ bases (n + 1)
bases_more n L x are bound why =
    let one : the_entry x ≡ record { bound = base n; why = Base } = rw (bound, why) refl in
    rw (add-one) (map-append the_entry L (x ∷ []) ∙ rw (are, one) refl)

pub ok_unless : {A E : Type 0} (r : Result A E) → ¬ IsErr r → IsOk r
ok_unless (Ok x) not = refl
ok_unless (Err e) not = absurd (not refl)

pub ok_then : {A E : Type 0} {P Q : A → Type 0} (r : Result A E) → IfOk r P → ((x : A) → P x → Q x) → IfOk r Q
ok_then (Ok x) holds then = then x holds
ok_then (Err e) holds then = tt

earlier : (L : List Entry) (k : ℕ) (e : Entry) → slice_get L k ≡ Some e → IsEarlier (the_entries L) (length L) k (the_bound e.bound)
earlier L k e there = record {
  before = slice_get_within L k e there;
  entry = the_entry e;
  there = slice_get-map the_entry L k ∙ rw there refl;
  bound = refl;
}

-- what chain gives from an entry of the list follows
pub chain_follows : (net : Network) (L : List Entry) (c : Constraint) (k : ℕ) (e : Entry) (r : Bound) → Contains net.constraints c → slice_get L k ≡ Some e → IsChain net c (the_bound e.bound) r → Follows net (the_entries L) (length L) (Chain c.id k) r
chain_follows net L c k e r has there is = (c, the_bound e.bound, has, refl, earlier L k e there, is)

-- what wait gives from two entries of the list follows
pub wait_follows : (net : Network) (L : List Entry) (p i j : ℕ) (e f : Entry) (r : Bound) → slice_get L i ≡ Some e → slice_get L j ≡ Some f → IsWait net p (the_bound e.bound) (the_bound f.bound) r → Follows net (the_entries L) (length L) (Wait i j) r
wait_follows net L p i j e f r one other is = (p, the_bound e.bound, the_bound f.bound, earlier L i e one, earlier L j f other, is)
