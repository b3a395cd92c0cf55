-- One step, by its rule.
use Rattle.std.proofs.Common.{ℕ, zero, suc, ◌≡◌, ◌+◌, ◌-◌, ◌<◌, ◌↔◌, List, Some, length, map, arith, inl, inr, refl, sym, subst, ap, ◌∙◌}
use Rattle.std.specs.Prelude.{pos, ◌≤ℤ◌, slice_get, option_map}
use Rattle.std.specs.List.{All, AllPairs, Contains}
use Rattle.std.proofs.lemmas.Int.{ints}
use Rattle.std.proofs.lemmas.List.Elements.{All-contains}
use Rattle.std.proofs.lemmas.Option.{slice_get-map, slice_get_cases}
use Rattle.std.proofs.lemmas.List.{length-map}
use Rattle.cstn_label.specs.Bounds.{Bound as TheBound}
use Rattle.cstn_label.specs.Read.{the_bound}
use Rattle.cstn_net.specs.Networks.{Network, IsNetwork, IsConstraint, Constraint, count, limit}
use Rattle.cstn_rules.specs.declared.entries.Why.{Why}
use Rattle.cstn_rules.specs.declared.entries.Why.TheVariants.{Base, Chain, Wait}
use Rattle.cstn_rules.specs.declared.entries.Entry.{Entry as DeclaredEntry}
use Rattle.cstn_rules.specs.Rules.{IsBase, IsChain, IsWait, IsBoundOf}
use Rattle.cstn_rules.specs.Derivations.{Entry, IsEarlier, Follows}
use Rattle.cstn_rules.specs.Read.{the_entry}
use Rattle.cstn_refute.specs.Refutations.{IsStep}
use Rattle.cstn_replay.proofs.IdLemmas.{one_id}
use Rattle.cstn_replay.specs.Wrong.{FollowsByItsRule, AreRightBefore}

-- each step's least value is 0 or more
abbrev pub AreLow : List Entry → Type 0
AreLow steps = (i : ℕ) (e : Entry) → slice_get steps i ≡ Some e → pos 0 ≤ℤ e.bound.least

-- the steps before the place k are bounds of the network
abbrev pub AreWithin : Network → List Entry → ℕ → Type 0
AreWithin net steps k = (i : ℕ) (e : Entry) → i < k → slice_get steps i ≡ Some e → IsBoundOf net e.bound

base_within : (net : Network) (r : TheBound) → IsBase net r → IsBoundOf net r
base_within net r is = subst (λ x. IsBoundOf net x) (sym is.gives)
    (record { node = is.node; low = omega (arith, ints); high = omega (arith, ints) })

-- what chain gives is at a time-point of the network, with a least value of at most the limit + 1
abbrev pub ChainsStay : Type 0
ChainsStay = (net : Network) (c : Constraint) (b r : TheBound) → IsConstraint net c → IsChain net c b r →
    (r.node < count net) × (r.least ≤ℤ pos (limit net r.node + 1))

-- what wait gives is at a time-point of the network, with a least value of at most the limit + 1
abbrev pub WaitsStay : Type 0
WaitsStay = (net : Network) (p : ℕ) (seen b r : TheBound) → b.node < count net → IsWait net p seen b r →
    (r.node < count net) × (r.least ≤ℤ pos (limit net r.node + 1))

follows_within : ChainsStay → WaitsStay → (net : Network) (steps : List Entry) (k : ℕ) (why : Why) (r : TheBound) → IsNetwork net →
    AreWithin net steps k → pos 0 ≤ℤ r.least → Follows net steps k why r → IsBoundOf net r
follows_within chains waits net steps k Base r good before low f = base_within net r f
follows_within chains waits net steps k (Chain id i) r good before low f =
    let within = chains net f.0 f.1 r (All-contains (IsConstraint net) net.constraints f.0 good.constraints f.2) f.5 in
    record { node = within.0; low = low; high = within.1 }
follows_within chains waits net steps k (Wait i j) r good before low f =
    let e = f.4 in
    let here = subst (λ x. IsBoundOf net x) e.bound (before j e.entry e.before e.there) in
    let within = waits net f.0 f.1 f.2 r here.node f.5 in
    record { node = within.0; low = low; high = within.1 }

-- what follows is at a time-point of the network, with a least value from 0 to the limit + 1
pub all_within : ChainsStay → WaitsStay → (net : Network) (steps : List Entry) (k : ℕ) → IsNetwork net → AreLow steps →
    AreRightBefore net steps k → AreWithin net steps k
all_within chains waits net steps zero good low right i e h there = absurd (omega arith)
all_within chains waits net steps (suc k) good low right i e h there =
    let before : AreWithin net steps i = λ j d g t. all_within chains waits net steps k good low (λ m n. right m (omega arith)) j d (omega arith) t in
    follows_within chains waits net steps i e.why e.bound good before (low i e there) (right i h e there)

pub there_image : (xs : List DeclaredEntry) (k : ℕ) (x : DeclaredEntry) → slice_get xs k ≡ Some x →
    slice_get (map the_entry xs) k ≡ Some (the_entry x)
there_image xs k x there = slice_get-map the_entry xs k ∙ ap (option_map the_entry) there

pub last_image : (xs : List DeclaredEntry) (x : DeclaredEntry) → slice_get xs (length xs - 1) ≡ Some x →
    slice_get (map the_entry xs) (length (map the_entry xs) - 1) ≡ Some (the_entry x)
last_image xs x there = rw (length-map xs the_entry) (there_image xs (length xs - 1) x there)

-- steps of the form of a refutation have least values of 0 or more
pub steps_low : (xs : List DeclaredEntry) → All IsStep xs → AreLow (map the_entry xs)
steps_low xs each i e there = elim (slice_get_cases xs i).1 [
  | inl f ↦
      let image = there_image xs i f.0 f.2 in
      let same : the_entry f.0 ≡ e = cc in
      let step = subst IsStep f.3 (each i f.0 f.1) in
      subst (λ x. pos 0 ≤ℤ x.bound.least) same step.low
  | inr f ↦
      let image = slice_get-map the_entry xs i ∙ ap (option_map the_entry) f.1 in
      cc
]

-- the step at a place is the one that stands there
pub right_there : (net : Network) (xs : List DeclaredEntry) (k : ℕ) (x : DeclaredEntry) → slice_get xs k ≡ Some x →
    Follows net (map the_entry xs) k x.why (the_bound x.bound) → FollowsByItsRule net (map the_entry xs) k
right_there net xs k x there f e found =
    let image = there_image xs k x there in
    let same : the_entry x ≡ e = cc in
    subst (λ y. Follows net (map the_entry xs) k y.why y.bound) same f

pub earlier : (xs : List DeclaredEntry) (k i : ℕ) (x : DeclaredEntry) → i < k → slice_get xs i ≡ Some x →
    IsEarlier (map the_entry xs) k i (the_bound x.bound)
earlier xs k i x before there =
    record { before = before; entry = the_entry x; there = there_image xs i x there; bound = refl }

-- at most one bound stands at a place
pub one_earlier : (steps : List Entry) (k i : ℕ) (b d : TheBound) → IsEarlier steps k i b → IsEarlier steps k i d → b ≡ d
one_earlier steps k i b d e f =
    let one = e.there in
    let other = f.there in
    let same : e.entry ≡ f.entry = cc in
    sym e.bound ∙ ap (λ x. x.bound) same ∙ f.bound

-- a bound follows by chain exactly where that gives it from the constraint of the id and the bound at the place
pub chain_follows : (net : Network) (steps : List Entry) (k id i : ℕ) (c : Constraint) (b r : TheBound) →
    AllPairs (λ x y. x.id < y.id) net.constraints → Contains net.constraints c → c.id ≡ id → IsEarlier steps k i b →
    IsChain net c b r ↔ Follows net steps k (Chain id i) r
chain_follows net steps k id i c b r ascending is has e = (
  λ chain. (c, b, is, has, e, chain),
  λ f.
      let one = one_id net.constraints c f.0 ascending is f.2 (has ∙ sym f.3) in
      let same = one_earlier steps k i b f.1 e f.4 in
      subst (λ x. IsChain net x b r) (sym one) (subst (λ x. IsChain net f.0 x r) (sym same) f.5),
)

-- a bound follows by wait exactly where that gives it from the bounds at the places
pub wait_follows : (net : Network) (steps : List Entry) (k i j : ℕ) (seen b r : TheBound) →
    IsEarlier steps k i seen → IsEarlier steps k j b →
    ((p : ℕ) × IsWait net p seen b r) ↔ Follows net steps k (Wait i j) r
wait_follows net steps k i j seen b r e f = (
  λ w. (w.0, seen, b, e, f, w.1),
  λ g.
      let one = one_earlier steps k i seen g.1 e g.3 in
      let other = one_earlier steps k j b g.2 f g.4 in
      (g.0, subst (λ x. IsWait net g.0 x b r) (sym one) (subst (λ x. IsWait net g.0 g.1 x r) (sym other) g.5)),
)
