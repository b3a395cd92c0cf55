-- Each bound of a derivation holds in every strategy, by induction on its place.
use Rattle.std.proofs.Common.{ℕ, zero, suc, ◌≡◌, ◌-◌, ◌<◌, List, [], ◌∷◌, ◌++◌, Some, length, inl, inr, arith, refl, sym, subst}
use Rattle.std.specs.Prelude.{slice_get}
use Rattle.std.specs.List.{Contains}
use Rattle.std.proofs.lemmas.Bool.{cases_lt}
use Rattle.std.proofs.lemmas.Option.{slice_get_within}
use Rattle.cstn_label.specs.Bounds.{Bound}
use Rattle.cstn_net.specs.Networks.{Network, IsNetwork, Constraint}
use Rattle.cstn_net.specs.Strategies.{Table, IsStrategy, IsConsistent}
use Rattle.cstn_net.specs.Bounds.{HoldsIn}
use Rattle.cstn_rules.specs.declared.entries.Why.{Why}
use Rattle.cstn_rules.specs.declared.entries.Why.TheVariants.{Base, Chain, Wait}
use Rattle.cstn_rules.specs.Derivations.{Entry, IsEarlier, Follows, IsDerivation, IsRefutation}
use Rattle.cstn_rules.proofs.Sound.{base_sound, chain_in_strategy, wait_sound, refuting_fails}

module _ (net : Network) (table : Table) (steps : List Entry) (good : IsNetwork net) (strategy : IsStrategy net table) where
  -- the bounds before the place k hold
  HoldBefore : ℕ → Type 0
  HoldBefore k = (i : ℕ) (e : Entry) → i < k → slice_get steps i ≡ Some e → HoldsIn net table e.bound

  earlier_holds : (k i : ℕ) (b : Bound) → HoldBefore k → IsEarlier steps k i b → HoldsIn net table b
  unfolding HoldBefore
  earlier_holds k i b before e = subst (λ x. HoldsIn net table x) e.bound (before i e.entry e.before e.there)

  follows_holds : (k : ℕ) (why : Why) (b : Bound) → HoldBefore k → Follows net steps k why b → HoldsIn net table b
  follows_holds k Base b before f = base_sound net table b f
  follows_holds k (Chain id i) b before f =
      chain_in_strategy net table f.0 f.1 b good strategy f.2 f.5 (earlier_holds k i f.1 before f.4)
  follows_holds k (Wait i j) b before f =
      wait_sound net table f.0 f.1 f.2 b good f.5 (earlier_holds k i f.1 before f.3) (earlier_holds k j f.2 before f.4)

  all_before : IsDerivation net steps → (k : ℕ) → HoldBefore k
  unfolding HoldBefore
  all_before derivation zero i e h there = absurd (omega arith)
  all_before derivation (suc k) i e h there =
      let before : HoldBefore i = λ j d g t. all_before derivation k j d (omega arith) t in
      follows_holds i e.why e.bound before (derivation i e there)

  pub each_holds : IsDerivation net steps → (k : ℕ) (e : Entry) → slice_get steps k ≡ Some e → HoldsIn net table e.bound
  unfolding HoldBefore
  each_holds derivation k e there = all_before derivation (suc k) k e (omega arith) there

-- a network with a refutation has no strategy
pub refuted_inconsistent : (net : Network) (steps : List Entry) → IsNetwork net → IsRefutation net steps →
    IsConsistent net → ⊥
refuted_inconsistent net steps good refutation consistent =
    refuting_fails net consistent.0 refutation.last.bound consistent.1 refutation.refutes
    (each_holds net consistent.0 steps good consistent.1 refutation.derivation (length steps - 1) refutation.last
    refutation.is_last)

-- what stands in a list stands in each longer one
pub there_in_longer : (steps more : List Entry) (k : ℕ) (e : Entry) → slice_get steps k ≡ Some e →
    slice_get (steps ++ more) k ≡ Some e
there_in_longer [] more k e there = cc
there_in_longer (x ∷ xs) more zero e there = there
there_in_longer (x ∷ xs) more (suc k) e there = there_in_longer xs more k e there

there_in_shorter : (steps more : List Entry) (k : ℕ) (e : Entry) → k < length steps →
    slice_get (steps ++ more) k ≡ Some e → slice_get steps k ≡ Some e
there_in_shorter [] more k e h there = absurd (omega arith)
there_in_shorter (x ∷ xs) more zero e h there = there
there_in_shorter (x ∷ xs) more (suc k) e h there = there_in_shorter xs more k e (omega arith) there

earlier_in_shorter : (steps more : List Entry) (k i : ℕ) (b : Bound) → k < length steps →
    IsEarlier (steps ++ more) k i b → IsEarlier steps k i b
earlier_in_shorter steps more k i b h e =
    let before = e.before in
    record {
      before = before;
      entry = e.entry;
      there = there_in_shorter steps more i e.entry (omega arith) e.there;
      bound = e.bound;
    }

follows_in_shorter : (net : Network) (steps more : List Entry) (k : ℕ) (why : Why) (r : Bound) → k < length steps →
    Follows net (steps ++ more) k why r → Follows net steps k why r
follows_in_shorter net steps more k Base r h f = f
follows_in_shorter net steps more k (Chain id i) r h f =
    (f.0, f.1, f.2, f.3, earlier_in_shorter steps more k i f.1 h f.4, f.5)
follows_in_shorter net steps more k (Wait i j) r h f =
    (f.0, f.1, f.2, earlier_in_shorter steps more k i f.1 h f.3, earlier_in_shorter steps more k j f.2 h f.4, f.5)

-- the first entries of a derivation are a derivation
pub first_derivation : (net : Network) (steps more : List Entry) → IsDerivation net (steps ++ more) → IsDerivation net steps
first_derivation net steps more derivation k e there =
    follows_in_shorter net steps more k e.why e.bound (slice_get_within steps k e there)
    (derivation k e (there_in_longer steps more k e there))

earlier_in_longer : (steps more : List Entry) (k i : ℕ) (b : Bound) → IsEarlier steps k i b →
    IsEarlier (steps ++ more) k i b
earlier_in_longer steps more k i b e = record {
  before = e.before;
  entry = e.entry;
  there = there_in_longer steps more i e.entry e.there;
  bound = e.bound;
}

-- what follows in a list follows in each longer one
pub follows_in_longer : (net : Network) (steps more : List Entry) (k : ℕ) (why : Why) (r : Bound) →
    Follows net steps k why r → Follows net (steps ++ more) k why r
follows_in_longer net steps more k Base r f = f
follows_in_longer net steps more k (Chain id i) r f =
    (f.0, f.1, f.2, f.3, earlier_in_longer steps more k i f.1 f.4, f.5)
follows_in_longer net steps more k (Wait i j) r f =
    (f.0, f.1, f.2, earlier_in_longer steps more k i f.1 f.3, earlier_in_longer steps more k j f.2 f.4, f.5)

there_at_end : (steps : List Entry) (last : Entry) (k : ℕ) (e : Entry) →
    slice_get (steps ++ last ∷ []) k ≡ Some e → (k < length steps → ⊥) → (k ≡ length steps) × (e ≡ last)
there_at_end [] last zero e there past = (refl, cc)
there_at_end [] last (suc k) e there past = cc
there_at_end (x ∷ xs) last zero e there past = absurd (past (omega arith))
there_at_end (x ∷ xs) last (suc k) e there past =
    let found = there_at_end xs last k e there (λ h. past (omega arith)) in
    let same = found.0 in
    (omega arith, found.1)

-- a derivation with a further entry, which follows from it, is a derivation
pub grown_derivation : (net : Network) (steps : List Entry) (last : Entry) → IsDerivation net steps →
    Follows net steps (length steps) last.why last.bound → IsDerivation net (steps ++ last ∷ [])
grown_derivation net steps last derivation follows k e there = elim (cases_lt k (length steps)) [
  | inl inside ↦
      follows_in_longer net steps (last ∷ []) k e.why e.bound
      (derivation k e (there_in_shorter steps (last ∷ []) k e inside there))
  | inr past ↦
      let found = there_at_end steps last k e there (λ h. omega arith) in
      let longer = follows_in_longer net steps (last ∷ []) (length steps) last.why last.bound follows in
      subst (λ d. Follows net (steps ++ last ∷ []) k d.why d.bound) (sym found.1)
      (subst (λ i. Follows net (steps ++ last ∷ []) i last.why last.bound) (sym found.0) longer)
]

-- the empty list is a derivation
pub empty_derivation : (net : Network) → IsDerivation net []
empty_derivation net k e there = cc

-- a network with other constraints
abbrev pub with_constraints : Network → List Constraint → Network
with_constraints net cs = record net { constraints = cs }

follows_elsewhere : (net : Network) (cs : List Constraint) (steps : List Entry) (k : ℕ) (e : Entry) (why : Why) →
    ((c : Constraint) (i : ℕ) → Contains net.constraints c → why ≡ Chain c.id i → Contains cs c) →
    Follows net steps k why e.bound → Follows (with_constraints net cs) steps k why e.bound
follows_elsewhere net cs steps k e Base has f = record { node = f.node; gives = f.gives }
follows_elsewhere net cs steps k e (Chain id i) has f = (
  f.0,
  f.1,
  has f.0 i f.2 (let same = f.3 in cc),
  f.3,
  f.4,
  record { at = f.5.at; plain = f.5.plain; together = f.5.together; gives = f.5.gives },
)
follows_elsewhere net cs steps k e (Wait i j) has f = (
  f.0,
  f.1,
  f.2,
  f.3,
  f.4,
  record { observes = record { what = f.5.observes.what }; marked = f.5.marked; gives = f.5.gives },
)

-- a derivation is one of each network that has the constraints that it uses, and is otherwise the same
pub derivation_elsewhere : (net : Network) (cs : List Constraint) (steps : List Entry) →
    ((c : Constraint) (b : Bound) (k i : ℕ) → Contains net.constraints c →
    slice_get steps k ≡ Some (record { bound = b; why = Chain c.id i }) → Contains cs c) →
    IsDerivation net steps → IsDerivation (with_constraints net cs) steps
derivation_elsewhere net cs steps has derivation k e there =
    follows_elsewhere net cs steps k e e.why
    (λ c i in_net same. has c e.bound k i in_net (subst (λ w. slice_get steps k ≡ Some (record { bound = e.bound; why = w })) same there))
    (derivation k e there)
