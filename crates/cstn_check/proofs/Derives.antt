-- What growth keeps, and that what it makes is a derivation.
use Rattle.std.proofs.Common.{ℕ, zero, suc, ◌≡◌, inl, inr, ◌≤◌, false, not, ◌&&◌, List, [], ◌∷◌, ◌++◌, length, Option, Some, None, eqb, arith, refl, sym, subst, ◌∙◌}
use Rattle.std.specs.Prelude.{pos, ◌-ℤ◌, ◌+ℤ◌, slice_get, slice_index_or}
use Rattle.std.specs.Int.{int_min}
use Rattle.std.specs.List.{Contains}
use Rattle.std.proofs.lemmas.Bool.{cases_Bool, cases_lt, cond-true, cond-false, and_parts, eqb-true, not-true}
use Rattle.std.proofs.lemmas.List.Elements.{All-contains}
use Rattle.std.proofs.lemmas.Option.{slice_get_within}
use Rattle.cstn_label.specs.Labels.{Label, joined, without, empty}
use Rattle.cstn_label.proofs.MarkLemmas.{absent_or_not}
use Rattle.cstn_net.specs.Networks.{Network, IsNetwork, IsConstraint, Constraint, IsOnObserved, count}
use Rattle.cstn_label.specs.Bounds.{Bound}
use Rattle.cstn_label.specs.Marks.{is_absent, is_plain}
use Rattle.cstn_rules.specs.Rules.{finished, IsChain, IsWait}
use Rattle.cstn_rules.specs.Derivations.{Entry, IsEarlier, Follows, IsDerivation}
use Rattle.cstn_rules.specs.declared.entries.Why.{Why}
use Rattle.cstn_rules.specs.declared.entries.Why.TheVariants.{Base, Chain, Wait}
use Rattle.cstn_check.specs.Kept.{AllGood, MarksObserved}
use Rattle.cstn_rules.specs.Tests.{chain_of, wait_for as wait_by, wait_of}
use Rattle.cstn_check.specs.Growth.{Instance, why_of, is_covered, is_refuted, premises_live, of_one, of_two, conclusion, with_conclusion, step, tried, turn, grown}
use Rattle.cstn_log.specs.Entries.{bases}
use Rattle.cstn_label.proofs.PlainLabels.{true_plain}
use Rattle.cstn_check.proofs.Decided.{HasLetters, false_absent}
use Rattle.cstn_check.specs.Growth.Instance.{chain_at, wait_at}
use Rattle.cstn_check.proofs.Lists.{Extends, get_kept}
use Rattle.cstn_check.proofs.Grows.{Each, each_turn}
use Rattle.cstn_check.proofs.GoodLemmas.{good_at, good_more, joined_observed, conclusion_good}
use Rattle.cstn_label.specs.OnLetters.{IsOnLetters}

abbrev pub OfNetwork : Network → Instance → Type 0
OfNetwork net (chain_at c j) = Contains net.constraints c
OfNetwork net (wait_at i j) = Unit {0}

abbrev pub with_entry : List Entry → Instance → Bound → List Entry
with_entry L i r = L ++ record { bound = r; why = why_of i } ∷ []

-- a property of lists that stays true whenever a conclusion is appended is kept by growth
module _ (net : Network) (P : List Entry → Type 0)
    (keeps : (L : List Entry) (i : Instance) (r : Bound) → OfNetwork net i → P L → conclusion net L i ≡ Some r →
    is_covered L r ≡ false → is_refuted net L ≡ false → P (with_entry L i r)) where
  with_keeps : (L : List Entry) (i : Instance) (o : Option Bound) → OfNetwork net i → P L → conclusion net L i ≡ o →
      is_refuted net L ≡ false → P (with_conclusion L i o)
  with_keeps L i None of h e on = h
  with_keeps L i (Some r) of h e on = elim (cases_Bool (premises_live L i && not (is_covered L r))) [
    | inl new ↦ subst P (sym (cond-true _ _ _ new))
        (keeps L i r of h e (not-true (is_covered L r) (and_parts (premises_live L i) (not (is_covered L r)) new).1) on)
    | inr old ↦ subst P (sym (cond-false _ _ _ old)) h
  ]

  step_keeps : (L : List Entry) (i : Instance) → OfNetwork net i → P L → P (step net L i)
  unfolding step
  step_keeps L i of h = elim (cases_Bool (is_refuted net L)) [
    | inl over ↦ subst P (sym (cond-true _ _ _ over)) h
    | inr on ↦ subst P (sym (cond-false _ _ _ on)) (with_keeps L i (conclusion net L i) of h refl on)
  ]

  pub tried_keeps : (is : List Instance) (L : List Entry) → P L → Each (OfNetwork net) is → P (tried net L is)
  tried_keeps [] L h g = h
  tried_keeps (i ∷ is) L h g = tried_keeps is (step net L i) (step_keeps L i g.0 h) g.1

  pub grown_keeps : (L : List Entry) (n : ℕ) → P L → P (grown net L n)
  grown_keeps L zero h = h
  grown_keeps L (suc n) h =
      tried_keeps (turn net n) (grown net L n) (grown_keeps L n h)
      (each_turn (OfNetwork net) net n (λ c has. has) (λ i. (tt, tt)))

-- ---- derivations

earlier_kept : (L G : List Entry) (k i : ℕ) (b : Bound) → Extends L G → IsEarlier L k i b → IsEarlier G k i b
earlier_kept L G k i b ext e = record {
  before = e.before;
  entry = e.entry;
  there = get_kept L G i ext (slice_get_within L i e.entry e.there) ∙ e.there;
  bound = e.bound;
}

follows_kept : (net : Network) (L G : List Entry) (k : ℕ) (why : Why) (b : Bound) → Extends L G → Follows net L k why b →
    Follows net G k why b
follows_kept net L G k Base b ext f = f
follows_kept net L G k (Chain id i) b ext f = (f.0, f.1, f.2, f.3, earlier_kept L G k i f.1 ext f.4, f.5)
follows_kept net L G k (Wait i j) b ext f =
    (f.0, f.1, f.2, earlier_kept L G k i f.1 ext f.3, earlier_kept L G k j f.2 ext f.4, f.5)

pub get_last : {A : Type 0} (L : List A) (x e : A) (k : ℕ) → slice_get (L ++ x ∷ []) k ≡ Some e → length L ≤ k →
    (k ≡ length L) × (x ≡ e)
get_last [] x e zero h past = (omega arith, cc)
get_last [] x e (suc k) h past = let f : ⊥ = cc in absurd f
get_last (y ∷ ys) x e zero h past = absurd (omega arith)
get_last (y ∷ ys) x e (suc k) h past = let r = get_last ys x e k h (omega arith) in (let l = r.0 in omega arith, r.1)

derivation_more : (net : Network) (L : List Entry) (x : Entry) → IsDerivation net L →
    Follows net (L ++ x ∷ []) (length L) x.why x.bound → IsDerivation net (L ++ x ∷ [])
derivation_more net L x d f k e there =
    let ext : Extends L (L ++ x ∷ []) = record { more = x ∷ []; is = refl } in
    elim (cases_lt k (length L)) [
      | inl before ↦ follows_kept net L (L ++ x ∷ []) k e.why e.bound ext
          (d k e (sym (get_kept L (L ++ x ∷ []) k ext before) ∙ there))
      | inr past ↦
          let last = get_last L x e k there past in
          subst (λ j. Follows net (L ++ x ∷ []) j e.why e.bound) (sym last.0)
          (subst (λ y. Follows net (L ++ x ∷ []) (length L) y.why y.bound) last.1 f)
    ]

pub small_of : (net : Network) (a : Label) → HasLetters net → IsOnObserved net a → IsOnLetters a
small_of net a letters h = λ p past. elim (absent_or_not (a p)) [
  | inl none ↦ none
  | inr marked ↦ let o = h p marked in let l = letters o.0 p o.1 in absurd (omega arith)
]

pub chain_when : (net : Network) (c : Constraint) (b r : Bound) → IsOnLetters b.label → IsOnLetters (joined b.label c.label) →
    chain_of net c b ≡ Some r → IsChain net c b r
chain_when net c b r small joined_small e =
    let made = finished net (record { node = c.from; least = b.least -ℤ c.most; label = joined b.label c.label }) in
    elim (cases_Bool ((eqb b.node c.to) && (is_plain b.label && is_plain (joined b.label c.label)))) [
      | inl given ↦
          let at = cond-true _ (Some made) None given in
          let one = and_parts (eqb b.node c.to) (is_plain b.label && is_plain (joined b.label c.label)) given in
          let two = and_parts (is_plain b.label) (is_plain (joined b.label c.label)) one.1 in
          let same : r ≡ made = cc in
          record {
            at = eqb-true b.node c.to one.0;
            plain = true_plain b.label small two.0;
            together = true_plain (joined b.label c.label) joined_small two.1;
            gives = same;
          }
      | inr none ↦
          let at = cond-false _ (Some made) None none in
          let f : ⊥ = cc in absurd f
    ]

pub chain_is : (net : Network) (c : Constraint) (b r : Bound) → HasLetters net → IsConstraint net c → MarksObserved net b →
    chain_of net c b ≡ Some r → IsChain net c b r
chain_is net c b r letters good_c good e =
    chain_when net c b r (small_of net b.label letters good.observed)
    (small_of net (joined b.label c.label) letters (joined_observed net b.label c.label good.observed good_c.observed)) e

pub wait_is : (net : Network) (o : Option ℕ) (seen b r : Bound) → slice_index_or net.observes seen.node None ≡ o →
    wait_by net o seen b ≡ Some r → (p : ℕ) × IsWait net p seen b r
wait_is net None seen b r at e = let f : ⊥ = cc in absurd f
wait_is net (Some p) seen b r at e =
    let made : Bound = finished net (record {
      node = b.node;
      least = int_min (seen.least +ℤ pos (net.reaction p)) b.least;
      label = joined seen.label (without b.label p);
    }) in
    elim (cases_Bool (is_absent (b.label p))) [
      | inr marked ↦
          let c = cond-false (is_absent (b.label p)) None (Some made) marked in
          let same : r ≡ made = cc in
          (p, record { observes = record { what = at }; marked = false_absent (b.label p) marked; gives = same })
      | inl none ↦
          let c = cond-true (is_absent (b.label p)) None (Some made) none in
          let f : ⊥ = cc in absurd f
    ]

last_there : (L : List Entry) (x e : Entry) (j : ℕ) → slice_get L j ≡ Some e → IsEarlier (L ++ x ∷ []) (length L) j e.bound
last_there L x e j h =
    let here = slice_get_within L j e h in
    record {
      before = here;
      entry = e;
      there = get_kept L (L ++ x ∷ []) j (record { more = x ∷ []; is = refl }) here ∙ h;
      bound = refl;
    }

module _ (net : Network) (wf : IsNetwork net) (letters : HasLetters net) where
  one_follows : (L : List Entry) (c : Constraint) (j : ℕ) (o : Option Entry) (r : Bound) → Contains net.constraints c →
      AllGood net L → slice_get L j ≡ o → of_one (chain_of net c) o ≡ Some r →
      Follows net (with_entry L (chain_at c j) r) (length L) (Chain c.id j) r
  one_follows L c j None r has good at e = let f : ⊥ = cc in absurd f
  one_follows L c j (Some x) r has good at e = (
    c,
    x.bound,
    has,
    refl,
    last_there L _ x j at,
    chain_is net c x.bound r letters (All-contains (IsConstraint net) net.constraints c wf.constraints has)
        (good_at net L j x good at) e,
  )

  two_follows : (L : List Entry) (i j : ℕ) (o u : Option Entry) (r : Bound) → AllGood net L → slice_get L i ≡ o →
      slice_get L j ≡ u → of_two (wait_of net) o u ≡ Some r →
      Follows net (with_entry L (wait_at i j) r) (length L) (Wait i j) r
  two_follows L i j None u r good at_i at_j e = let f : ⊥ = cc in absurd f
  two_follows L i j (Some x) None r good at_i at_j e = let f : ⊥ = cc in absurd f
  two_follows L i j (Some x) (Some y) r good at_i at_j e =
      let w = wait_is net (slice_index_or net.observes x.bound.node None) x.bound y.bound r refl e in
      (w.0, x.bound, y.bound, last_there L _ x i at_i, last_there L _ y j at_j, w.1)

  pub Derived : List Entry → Type 0
  Derived L = AllGood net L × IsDerivation net L

  pub derived_more : (L : List Entry) (i : Instance) (r : Bound) → OfNetwork net i → Derived L → conclusion net L i ≡ Some r →
      is_covered L r ≡ false → is_refuted net L ≡ false → Derived (with_entry L i r)
  unfolding Derived
  derived_more L (chain_at c j) r of d e free on =
      let good_c = All-contains (IsConstraint net) net.constraints c wf.constraints of in (
        good_more net L _ d.0 (conclusion_good net L (chain_at c j) r d.0 good_c e, tt),
        derivation_more net L _ d.1 (one_follows L c j (slice_get L j) r of d.0 refl e),
      )
  derived_more L (wait_at i j) r of d e free on = (
    good_more net L _ d.0 (conclusion_good net L (wait_at i j) r d.0 tt e, tt),
    derivation_more net L _ d.1 (two_follows L i j (slice_get L i) (slice_get L j) r d.0 refl refl e),
  )

  pub bases_derived : (n : ℕ) → n ≤ count net → IsDerivation net (bases n)
  bases_derived zero h = λ k e there. let f : ⊥ = cc in absurd f
  bases_derived (suc n) h =
      derivation_more net (bases n) (record { bound = record { node = n; least = pos 0; label = empty }; why = Base })
      (bases_derived n (omega arith)) (record { node = h; gives = refl })

  -- from any derivation at time-points, with marks on observed propositions
  pub tried_derived : (is : List Instance) (L : List Entry) → AllGood net L → IsDerivation net L → Each (OfNetwork net) is →
      IsDerivation net (tried net L is)
  unfolding Derived
  tried_derived is L good derivation of = (tried_keeps net Derived derived_more is L (good, derivation) of).1

  pub grown_derived : (start : List Entry) (n : ℕ) → AllGood net start → IsDerivation net start →
      IsDerivation net (grown net start n)
  unfolding Derived
  grown_derived start n good derivation = (grown_keeps net Derived derived_more start n (good, derivation)).1
