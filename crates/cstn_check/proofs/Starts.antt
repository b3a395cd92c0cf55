-- The lists that growth can go on from.
use Rattle.std.proofs.Common.{ℕ, zero, suc, ◌≡◌, ◌+◌, ◌<◌, inl, inr, List, [], ◌∷◌, Some, None, arith, refl, sym, subst, ap, ◌∙◌}
use Rattle.std.specs.Prelude.{pos, ◌≤ℤ◌, slice_get, slice_index_or}
use Rattle.std.proofs.lemmas.Int.{ints, by_lt_z}
use Rattle.std.proofs.lemmas.Bool.{cases_lt, cases_order}
use Rattle.std.proofs.lemmas.List.Elements.{All-contains}
use Rattle.cstn_label.specs.Bounds.{Bound, Dominates}
use Rattle.cstn_net.specs.Networks.{Network, IsNetwork, IsConstraint, IsWellFormed, count, limit}
use Rattle.cstn_rules.specs.declared.entries.Entry.{Entry as DeclaredEntry}
use Rattle.cstn_rules.specs.declared.entries.Why.{Why}
use Rattle.cstn_rules.specs.declared.entries.Why.TheVariants.{Base, Chain, Wait}
use Rattle.cstn_rules.specs.Rules.{base}
use Rattle.cstn_rules.specs.Derivations.{Entry, IsEarlier, Follows, IsDerivation}
use Rattle.cstn_rules.specs.Read.{the_entry}
use Rattle.cstn_rules.proofs.Shapes.{chain_within, wait_within}
use Rattle.cstn_log.specs.Entries.{bases, the_entries, AllNew}
use Rattle.cstn_facts.proofs.Places.{get_map, get_left, get_last}
use Rattle.cstn_log.proofs.DerivedLemmas.{length_bases}
use Rattle.cstn_check.specs.Kept.{MarksObserved, AllGood, IsKeptList}
use Rattle.cstn_check.specs.Turns.{IsRefutedLast}
use Rattle.cstn_check.proofs.Decided.{HasLetters, chain_gives, wait_gives}
use Rattle.cstn_check.proofs.Lists.{Extends, get_kept, covered_kept}
use Rattle.cstn_check.proofs.GoodLemmas.{chain_good, wait_good}
use Rattle.cstn_check.proofs.Derives.{bases_derived}
use Rattle.cstn_check.proofs.Closes.{bases_cover}
use Rattle.cstn_check.proofs.Bounded.{bases_kept}
use Rattle.cstn_check.proofs.Last.{bases_stand}

all_good : (net : Network) (L : List Entry) → ((k : ℕ) (e : Entry) → slice_get L k ≡ Some e → MarksObserved net e.bound) → AllGood net L
all_good net [] h = tt
all_good net (x ∷ xs) h = (h 0 x refl, all_good net xs (λ k e there. h (suc k) e there))

base_at : (n x : ℕ) → x < n → slice_get (bases n) x ≡ Some (record { bound = base x; why = Base })
base_at zero x h = absurd (omega arith)
base_at (suc n) x h = elim (cases_lt x n) [
  | inl below ↦ get_left (bases n) (record { bound = base n; why = Base }) x (record { bound = base x; why = Base }) (base_at n x below)
  | inr last ↦
      let e : n ≡ x = omega arith in
      subst (λ k. slice_get (bases (suc n)) k ≡ Some (record { bound = base k; why = Base })) e
      (subst (λ k. slice_get (bases (suc n)) k ≡ Some (record { bound = base n; why = Base })) (length_bases n)
      (get_last (bases n) (record { bound = base n; why = Base })))
]

module _ (net : Network) (good : IsWellFormed net) (L : List Entry) (derivation : IsDerivation net L)
    (ext : Extends (bases (count net)) L)
    (apart : (i j : ℕ) (e f : Entry) → i < j → slice_get L i ≡ Some e → slice_get L j ≡ Some f → Dominates e.bound f.bound → ⊥) where
  -- the bounds before the place k are of the network
  AreGood : ℕ → Type 0
  AreGood k = (i : ℕ) (e : Entry) → i < k → slice_get L i ≡ Some e → MarksObserved net e.bound

  earlier_good : (k i : ℕ) (b : Bound) → AreGood k → IsEarlier L k i b → MarksObserved net b
  unfolding AreGood
  earlier_good k i b before e = subst (λ x. MarksObserved net x) e.bound (before i e.entry e.before e.there)

  follows_good : (k : ℕ) (why : Why) (b : Bound) → AreGood k → Follows net L k why b → MarksObserved net b
  follows_good k Base b before f =
      subst (λ x. MarksObserved net x) (sym f.gives) (record { node = f.node; observed = λ p marked. absurd (marked refl) })
  follows_good k (Chain id i) b before f =
      chain_good net f.0 f.1 b (All-contains (IsConstraint net) net.constraints f.0 good.network.constraints f.2)
      (earlier_good k i f.1 before f.4) (chain_gives net f.0 f.1 b f.5)
  follows_good k (Wait i j) b before f =
      wait_good net (slice_index_or net.observes f.1.node None) f.1 f.2 b (earlier_good k i f.1 before f.3)
      (earlier_good k j f.2 before f.4) (wait_gives net f.0 f.1 f.2 b f.5)

  good_before : (k : ℕ) → AreGood k
  unfolding AreGood
  good_before zero i e h there = absurd (omega arith)
  good_before (suc k) i e h there =
      let before : AreGood i = λ j d g t. good_before k j d (omega arith) t in
      follows_good i e.why e.bound before (derivation i e there)

  good_here : (k : ℕ) (e : Entry) → slice_get L k ≡ Some e → MarksObserved net e.bound
  unfolding AreGood
  good_here k e there = good_before (suc k) k e (omega arith) there

  follows_high : (k : ℕ) (why : Why) (b : Bound) → Follows net L k why b → b.least ≤ℤ pos (limit net b.node + 1)
  follows_high k Base b f = subst (λ (x : Bound). x.least ≤ℤ pos (limit net x.node + 1)) (sym f.gives) (omega (arith, ints))
  follows_high k (Chain id i) b f =
      (chain_within net f.0 f.1 b (All-contains (IsConstraint net) net.constraints f.0 good.network.constraints f.2) f.5).1
  follows_high k (Wait i j) b f = (wait_within net f.0 f.1 f.2 b (node_of f.4) f.5).1
    where
      node_of : IsEarlier L k j f.2 → f.2.node < count net
      node_of e = subst (λ (x : Bound). x.node < count net) e.bound (good_here j e.entry e.there).node

  base_there : (x : ℕ) → x < count net → slice_get L x ≡ Some (record { bound = base x; why = Base })
  base_there x h =
      let long = length_bases (count net) in
      get_kept (bases (count net)) L x ext (omega arith) ∙ base_at (count net) x h

  low_here : (k : ℕ) (e : Entry) → slice_get L k ≡ Some e → pos 0 ≤ℤ e.bound.least
  low_here k e there =
      let here = (good_here k e there).node in
      let b : Entry = record { bound = base e.bound.node; why = Base } in
      by_lt_z e.bound.least (pos 0)
      (λ below.
      let over : Dominates b.bound e.bound = record { node = refl; least = omega (arith, ints); label = λ p. tt } in
      elim (cases_order e.bound.node k) [
        | inl same ↦
            let at = base_there e.bound.node here in
            let at_k : slice_get L k ≡ Some b = subst (λ i. slice_get L i ≡ Some b) same at in
            let is : b ≡ e = cc in
            let zero_is : pos 0 ≡ e.bound.least = ap (λ (x : Entry). x.bound.least) is in
            omega (arith, ints)
        | inr other ↦ elim other [
          | inl before ↦ absurd (apart e.bound.node k b e before (base_there e.bound.node here) there over)
          | inr after ↦
              let b_k : Entry = record { bound = base k; why = Base } in
              let at_k = base_there k (omega arith) in
              let is : b_k ≡ e = cc in
              let node_is : k ≡ e.bound.node = ap (λ (x : Entry). x.bound.node) is in
              absurd (omega arith)
        ]
      ])
      (λ h. h)

  pub kept_from : IsKeptList net L
  kept_from = record {
    good = all_good net L good_here;
    based = λ x here. covered_kept (bases (count net)) L (base x) ext (bases_cover (count net) x here);
    ranged = λ k e there. record { low = low_here k e there; high = follows_high k e.why e.bound (derivation k e there) };
    apart = apart;
  }

-- a derivation in range, in which no entry but perhaps the last refutes
pub record GoesOn (net : Network) (list : List Entry) : Type 0 where
  pub kept : IsKeptList net list
  pub derivation : IsDerivation net list
  pub last : IsRefutedLast net list

pub bases_go_on : (net : Network) → IsNetwork net → HasLetters net → GoesOn net (bases (count net))
bases_go_on net wf letters = record {
  kept = bases_kept net wf letters;
  derivation = bases_derived net wf letters (count net) (omega arith);
  last = bases_stand net;
}

-- no entry of a log is dominated by an earlier one
pub apart_from : (L : List DeclaredEntry) → AllNew L → (i j : ℕ) (e f : Entry) → i < j → slice_get (the_entries L) i ≡ Some e →
    slice_get (the_entries L) j ≡ Some f → Dominates e.bound f.bound → ⊥
apart_from L new i j e f before at_i at_j over =
    let one = get_map the_entry L i e at_i in
    let two = get_map the_entry L j f at_j in
    new.none_over i j one.0 two.0 before one.1 two.1
    (subst (λ (x : Entry). Dominates x.bound (the_entry two.0).bound) (sym one.2)
    (subst (λ (x : Entry). Dominates e.bound x.bound) (sym two.2) over))
