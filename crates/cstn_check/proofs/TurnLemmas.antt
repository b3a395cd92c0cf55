-- What the calls of a turn make of a log.
use Rattle.std.proofs.Common.{ℕ, zero, suc, ◌≡◌, ◌+◌, ◌<◌, ◌≤◌, Bool, true, false, not, cond, ◌&&◌, ◌||◌, List, [], ◌∷◌, ◌++◌, length, Option, Some, None, arith, refl, sym, subst, ap, ◌∙◌, length-append}
use Rattle.std.specs.Prelude.{slice_get, slice_index_or, IsTrue, ◌↔◌}
use Rattle.std.specs.List.{Contains}
use Rattle.std.proofs.lemmas.Bool.{cond-true, cond-false, and_from, and_right}
use Rattle.std.proofs.lemmas.List.Elements.{All-contains}
use Rattle.std.proofs.lemmas.List.{map-append, append-nil}
use Rattle.std.proofs.lemmas.List.Folds.{list_any-append}
use Rattle.cstn_label.specs.declared.bounds.Bound.{Bound as DeclaredBound}
use Rattle.cstn_label.specs.Bounds.{Bound}
use Rattle.cstn_label.specs.Read.{the_bound}
use Rattle.cstn_net.specs.Networks.{Network, Constraint, IsConstraint, IsWellFormed}
use Rattle.cstn_rules.specs.declared.entries.Entry.{Entry}
use Rattle.cstn_rules.specs.Derivations.{Entry as TheEntry, Follows}
use Rattle.cstn_rules.specs.declared.entries.Why.TheVariants.{Chain, Wait}
use Rattle.cstn_rules.specs.Rules.{Refutes, IsChain, IsWait, IsBoundOf}
use Rattle.cstn_rules.specs.Read.{the_entry}
use Rattle.cstn_log.specs.Entries.{State, the_entries, IsBoundAt, IsCoveredBy, IsLive}
use Rattle.cstn_log.proofs.DerivedLemmas.{chain_follows, wait_follows}
use Rattle.cstn_facts.proofs.Places.{get_map}
use Rattle.cstn_rules.specs.Tests.{refutes, chain_of, wait_of}
use Rattle.cstn_check.specs.Growth.{Instance, why_of, is_covered, is_refuted, premises_live, is_live, of_one, of_two, conclusion, with_conclusion, step}
use Rattle.cstn_check.specs.Growth.Instance.{chain_at, wait_at}
use Rattle.cstn_check.specs.Turns.{IsOpen, HasBecome, IsCutShort, IsLongerLog}
use Rattle.cstn_check.specs.Waits.{HasBound}
use Rattle.cstn_check.proofs.Lists.{Extends, get_kept}
use Rattle.cstn_check.proofs.Reading.{covered_true, uncovered_false, live_true, dead_false, refutes_is}
use Rattle.cstn_check.proofs.Decided.{chain_gives, wait_gives}
use Rattle.cstn_check.proofs.GoodLemmas.{good_at}
use Rattle.cstn_check.proofs.Derives.{chain_is, wait_is}
use Rattle.cstn_log.proofs.StepLemmas.{entry_read}

-- the list with a conclusion, where no entry dominates it
abbrev pub put_to : List TheEntry → TheEntry → List TheEntry
put_to list e = cond (is_covered list e.bound) list (list ++ e ∷ [])

pub longer_itself : (s : State) → length s.entries ≤ s.cap → IsLongerLog s s
longer_itself s short = record { cap = refl; nodes = refl; ids = record { more = []; is = append-nil s.ids }; births = refl; short = short; longer = omega arith }

pub put_nothing : (net : Network) (s : State) (e : Entry) → IsOpen net s → IsCoveredBy s.entries e.bound →
    HasBecome net s s (put_to (the_entries s.entries) (the_entry e)) false
put_nothing net s e ready covered =
    let same = cond-true (is_covered (the_entries s.entries) (the_bound e.bound)) (the_entries s.entries)
    (the_entries s.entries ++ the_entry e ∷ []) (covered_true s.entries e.bound covered) in
    record {
      entries = sym same;
      refuted_is = sym (ap (is_refuted net) same ∙ ready.unrefuted);
      longer = longer_itself s ready.short;
    }

new_last : (s : State) (e : Entry) → ¬ IsCoveredBy s.entries e.bound →
    put_to (the_entries s.entries) (the_entry e) ≡ the_entries s.entries ++ the_entry e ∷ []
new_last s e free = cond-false _ _ _ (uncovered_false s.entries e.bound free)

pub put_last : (net : Network) (old new : State) (e : Entry) (slot : ℕ) (r : Bool) → IsOpen net old →
    ¬ IsCoveredBy old.entries e.bound → (length old.entries ≡ old.cap → ⊥) →
    new ≡ record old { entries = old.entries ++ e ∷ []; ids = old.ids ++ record { slot = slot; birth = old.births } ∷ []; births = old.births + 1 } →
    (IsTrue r ↔ Refutes net (the_bound e.bound)) → HasBecome net old new (put_to (the_entries old.entries) (the_entry e)) r
put_last net old new e slot r ready free room is iff =
    let last = new_last old e free in
    let list : new.entries ≡ old.entries ++ e ∷ [] = ap (λ (s : State). s.entries) is in
    let cap : new.cap ≡ old.cap = ap (λ (s : State). s.cap) is in
    let nodes : new.nodes ≡ old.nodes = ap (λ (s : State). s.nodes) is in
    let births : new.births ≡ old.births + 1 = ap (λ (s : State). s.births) is in
    let long : length new.entries ≡ length old.entries + 1 = ap length list ∙ length-append old.entries (e ∷ []) in
    let short = ready.short in
    record {
      entries = ap the_entries list ∙ map-append the_entry old.entries (e ∷ []) ∙ sym last;
      refuted_is = refutes_is net e.bound r iff ∙ sym (ap (is_refuted net) last
          ∙ list_any-append (λ (x : TheEntry). refutes net x.bound) (the_entries old.entries) (the_entry e ∷ [])
          ∙ ap (λ b. b || (refutes net (the_bound e.bound) || false)) ready.unrefuted ∙ or_none (refutes net (the_bound e.bound)));
      longer = record {
        cap = cap;
        nodes = nodes;
        ids = record { more = record { slot = slot; birth = old.births } ∷ []; is = sym (ap (λ (s : State). s.ids) is) };
        births = omega arith;
        short = omega arith;
        longer = omega arith;
      };
    }
  where
    or_none : (b : Bool) → (b || false) ≡ b
    or_none b = grind arith

pub put_cut : (old new : State) (e : Entry) → ¬ IsCoveredBy old.entries e.bound → length old.entries ≡ old.cap → new ≡ old →
    IsCutShort old new (put_to (the_entries old.entries) (the_entry e))
put_cut old new e free full is =
    subst (λ s. IsCutShort old s (put_to (the_entries old.entries) (the_entry e))) (sym is) (record {
      full = full;
      front = record { next = the_entry e; rest = []; is = sym (new_last old e free) };
      longer = longer_itself old (omega arith);
    })

-- ---- one instance

pub bound_of : (net : Network) (s : State) (k : ℕ) (e : Entry) → IsOpen net s → slice_get s.entries k ≡ Some e →
    IsBoundOf net (the_bound e.bound)
bound_of net s k e ready there =
    let at = entry_read s.entries k e there in
    let good = good_at net (the_entries s.entries) k (the_entry e) ready.kept.good at in
    let ranged = ready.kept.ranged k (the_entry e) at in
    record { node = good.node; low = ranged.low; high = ranged.high }

pub step_on : (net : Network) (L : List TheEntry) (i : Instance) → is_refuted net L ≡ false →
    step net L i ≡ with_conclusion L i (conclusion net L i)
unfolding step
step_on net L i on = cond-false _ _ _ on

pub with_dead : (L : List TheEntry) (i : Instance) (o : Option Bound) → premises_live L i ≡ false → with_conclusion L i o ≡ L
with_dead L i None dead = refl
with_dead L i (Some r) dead = cond-false _ _ _ (ap (λ b. b && not (is_covered L r)) dead)

pub idle : (net : Network) (s : State) (list : List TheEntry) → IsOpen net s → list ≡ the_entries s.entries →
    HasBecome net s s list false
idle net s list ready same = record {
  entries = sym same;
  refuted_is = sym (ap (is_refuted net) same ∙ ready.unrefuted);
  longer = longer_itself s ready.short;
}

pub idle_dead : (net : Network) (s : State) (i : Instance) → IsOpen net s → premises_live (the_entries s.entries) i ≡ false →
    HasBecome net s s (step net (the_entries s.entries) i) false
idle_dead net s i ready dead =
    idle net s (step net (the_entries s.entries) i) ready
    (step_on net (the_entries s.entries) i ready.unrefuted
    ∙ with_dead (the_entries s.entries) i (conclusion net (the_entries s.entries) i) dead)

pub idle_none : (net : Network) (s : State) (i : Instance) → IsOpen net s → conclusion net (the_entries s.entries) i ≡ None →
    HasBecome net s s (step net (the_entries s.entries) i) false
idle_none net s i ready none =
    idle net s (step net (the_entries s.entries) i) ready
    (step_on net (the_entries s.entries) i ready.unrefuted ∙ ap (with_conclusion (the_entries s.entries) i) none)

pub put_is_step : (net : Network) (s : State) (i : Instance) (r : Bound) → IsOpen net s →
    premises_live (the_entries s.entries) i ≡ true → conclusion net (the_entries s.entries) i ≡ Some r →
    put_to (the_entries s.entries) (record { bound = r; why = why_of i }) ≡ step net (the_entries s.entries) i
put_is_step net s i r ready live gives =
    let L = the_entries s.entries in
    sym (step_on net L i ready.unrefuted ∙ ap (with_conclusion L i) gives
    ∙ ap (λ b. cond (b && not (is_covered L r)) (L ++ record { bound = r; why = why_of i } ∷ []) L) live
    ∙ turned (is_covered L r) L (L ++ record { bound = r; why = why_of i } ∷ []))
  where
    turned : (b : Bool) (x y : List TheEntry) → cond (true && not b) y x ≡ cond b x y
    turned true x y = refl
    turned false x y = refl

pub entry_there : (entries : List Entry) (k : ℕ) → k < length entries → (e : Entry) × (slice_get entries k ≡ Some e)
entry_there [] k h = absurd (omega arith)
entry_there (x ∷ xs) zero h = (x, refl)
entry_there (x ∷ xs) (suc k) h = entry_there xs k (omega arith)

none_given : {X : Type 0} (o : Option X) → ((x : X) → o ≡ Some x → ⊥) → o ≡ None
none_given None h = refl
none_given (Some x) h = absurd (h x refl)

module _ (net : Network) (s : State) (good : IsWellFormed net) (ready : IsOpen net s) where
  pub live_chain : (c : Constraint) (j : ℕ) → j < length s.entries → IsLive s.entries j →
      premises_live (the_entries s.entries) (chain_at c j) ≡ true
  live_chain c j h live = live_true s.entries j h live

  pub dead_chain : (c : Constraint) (j : ℕ) → ¬ IsLive s.entries j →
      premises_live (the_entries s.entries) (chain_at c j) ≡ false
  dead_chain c j dead = dead_false s.entries j dead

  pub chain_concludes : (c : Constraint) (j : ℕ) (e : Entry) (r : Bound) → slice_get s.entries j ≡ Some e →
      IsChain net c (the_bound e.bound) r → conclusion net (the_entries s.entries) (chain_at c j) ≡ Some r
  chain_concludes c j e r there chain =
      ap (of_one (chain_of net c)) (entry_read s.entries j e there) ∙ chain_gives net c (the_bound e.bound) r chain

  pub chain_ends : (c : Constraint) (j : ℕ) (e : Entry) → Contains net.constraints c → slice_get s.entries j ≡ Some e →
      ((r : Bound) → IsChain net c (the_bound e.bound) r → ⊥) → conclusion net (the_entries s.entries) (chain_at c j) ≡ None
  chain_ends c j e has there none =
      ap (of_one (chain_of net c)) (entry_read s.entries j e there)
      ∙ none_given (chain_of net c (the_bound e.bound)) (λ r gives.
      none r (chain_is net c (the_bound e.bound) r good.letters
      (All-contains (IsConstraint net) net.constraints c good.network.constraints has)
      (good_at net (the_entries s.entries) j (the_entry e) ready.kept.good (entry_read s.entries j e there)) gives))

  pub live_wait : (i j : ℕ) → i < length s.entries → j < length s.entries → IsLive s.entries i → IsLive s.entries j →
      premises_live (the_entries s.entries) (wait_at i j) ≡ true
  live_wait i j h k first second =
      and_from (is_live (the_entries s.entries) i) (is_live (the_entries s.entries) j)
      (live_true s.entries i h first) (live_true s.entries j k second)

  pub dead_seen : (i j : ℕ) → ¬ IsLive s.entries i → premises_live (the_entries s.entries) (wait_at i j) ≡ false
  dead_seen i j dead = ap (λ b. b && is_live (the_entries s.entries) j) (dead_false s.entries i dead)

  pub dead_other : (i j : ℕ) → ¬ IsLive s.entries j → premises_live (the_entries s.entries) (wait_at i j) ≡ false
  dead_other i j dead =
      and_right (is_live (the_entries s.entries) i) (is_live (the_entries s.entries) j) (dead_false s.entries j dead)

  pub wait_concludes : (i j : ℕ) (e f : Entry) (p : ℕ) (r : Bound) → slice_get s.entries i ≡ Some e →
      slice_get s.entries j ≡ Some f → IsWait net p (the_bound e.bound) (the_bound f.bound) r →
      conclusion net (the_entries s.entries) (wait_at i j) ≡ Some r
  wait_concludes i j e f p r at_i at_j wait =
      ap (λ o. of_two (wait_of net) o (slice_get (the_entries s.entries) j)) (entry_read s.entries i e at_i)
      ∙ ap (λ o. of_two (wait_of net) (Some (the_entry e)) o) (entry_read s.entries j f at_j)
      ∙ wait_gives net p (the_bound e.bound) (the_bound f.bound) r wait

  pub wait_ends : (i j : ℕ) (e f : Entry) → slice_get s.entries i ≡ Some e → slice_get s.entries j ≡ Some f →
      ((p : ℕ) (r : Bound) → IsWait net p (the_bound e.bound) (the_bound f.bound) r → ⊥) →
      conclusion net (the_entries s.entries) (wait_at i j) ≡ None
  wait_ends i j e f at_i at_j none =
      ap (λ o. of_two (wait_of net) o (slice_get (the_entries s.entries) j)) (entry_read s.entries i e at_i)
      ∙ ap (λ o. of_two (wait_of net) (Some (the_entry e)) o) (entry_read s.entries j f at_j)
      ∙ none_given (wait_of net (the_bound e.bound) (the_bound f.bound)) (λ r gives.
      let w = wait_is net (slice_index_or net.observes e.bound.node.0 None) (the_bound e.bound) (the_bound f.bound) r refl gives in
      none w.0 r w.1)

-- ---- bounds that are read without their rules

-- a bound at a place of the log is one of the network
pub bound_in : (net : Network) (s : State) (k : ℕ) (b : DeclaredBound) → IsOpen net s → IsBoundAt s.entries k b → IsBoundOf net (the_bound b)
bound_in net s k b ready at = subst (λ z. IsBoundOf net (the_bound z)) at.is (bound_of net s k at.entry ready at.there)

-- chain of the bound at a place is chain of its entry
chain_from : (net : Network) (s : State) (c : Constraint) (j : ℕ) (b : DeclaredBound) (r : Bound) (at : IsBoundAt s.entries j b) → IsChain net c (the_bound b) r → IsChain net c (the_bound at.entry.bound) r
chain_from net s c j b r at is = subst (λ z. IsChain net c (the_bound z) r) (sym at.is) is

-- a bound that is read is one of the network
pub bound_had : (net : Network) (s : State) (k : ℕ) (b : Bound) → IsOpen net s → HasBound s.entries k b → IsBoundOf net b
bound_had net s k b ready at = subst (λ z. IsBoundOf net z) at.is (bound_of net s k at.entry ready at.there)

-- the bound that is read at a place is that of its entry
pub has_bound : (entries : List Entry) (k : ℕ) (b : DeclaredBound) → IsBoundAt entries k b → HasBound entries k (the_bound b)
has_bound entries k b at = record { entry = at.entry; there = at.there; is = ap the_bound at.is }

-- an entry has its bound while the list grows
pub bound_on : (L G : List Entry) (k : ℕ) (b : Bound) → Extends (the_entries L) (the_entries G) → k < length (the_entries L) → HasBound L k b → HasBound G k b
bound_on L G k b more inside at =
    let got = get_map the_entry G k (the_entry at.entry) (get_kept (the_entries L) (the_entries G) k more inside ∙ entry_read L k at.entry at.there) in
    record { entry = got.0; there = got.1; is = ap (λ (y : TheEntry). y.bound) got.2 ∙ at.is }

-- wait of the bounds at two places is wait of their entries
wait_from : (net : Network) (s : State) (i j p : ℕ) (seen b r : Bound) (one : HasBound s.entries i seen) (other : HasBound s.entries j b) → IsWait net p seen b r → IsWait net p (the_bound one.entry.bound) (the_bound other.entry.bound) r
wait_from net s i j p seen b r one other is =
    subst (λ z. IsWait net p (the_bound one.entry.bound) z r) (sym other.is) (subst (λ z. IsWait net p z b r) (sym one.is) is)

pub chain_follows_from : (net : Network) (s : State) (c : Constraint) (j : ℕ) (b : DeclaredBound) (r : Bound) → Contains net.constraints c → IsBoundAt s.entries j b → IsChain net c (the_bound b) r → Follows net (the_entries s.entries) (length s.entries) (Chain c.id j) r
chain_follows_from net s c j b r has at is = chain_follows net s.entries c j at.entry r has at.there (chain_from net s c j b r at is)

pub wait_follows_from : (net : Network) (s : State) (p i j : ℕ) (seen b r : Bound) → HasBound s.entries i seen → HasBound s.entries j b → IsWait net p seen b r → Follows net (the_entries s.entries) (length s.entries) (Wait i j) r
wait_follows_from net s p i j seen b r one other is =
    wait_follows net s.entries p i j one.entry other.entry r one.there other.there (wait_from net s i j p seen b r one other is)

module _ (net : Network) (s : State) (good : IsWellFormed net) (ready : IsOpen net s) where
  pub chain_concludes_from : (c : Constraint) (j : ℕ) (b : DeclaredBound) (r : Bound) → IsBoundAt s.entries j b → IsChain net c (the_bound b) r → conclusion net (the_entries s.entries) (chain_at c j) ≡ Some r
  chain_concludes_from c j b r at is = chain_concludes net s good ready c j at.entry r at.there (chain_from net s c j b r at is)

  pub chain_ends_from : (c : Constraint) (j : ℕ) (b : DeclaredBound) → Contains net.constraints c → IsBoundAt s.entries j b → ((r : Bound) → IsChain net c (the_bound b) r → ⊥) → conclusion net (the_entries s.entries) (chain_at c j) ≡ None
  chain_ends_from c j b has at none =
      chain_ends net s good ready c j at.entry has at.there (λ r is. none r (subst (λ z. IsChain net c (the_bound z) r) at.is is))

  pub wait_concludes_from : (i j : ℕ) (seen b : Bound) (p : ℕ) (r : Bound) → HasBound s.entries i seen → HasBound s.entries j b → IsWait net p seen b r → conclusion net (the_entries s.entries) (wait_at i j) ≡ Some r
  wait_concludes_from i j seen b p r one other is =
      wait_concludes net s good ready i j one.entry other.entry p r one.there other.there (wait_from net s i j p seen b r one other is)

  pub wait_ends_from : (i j : ℕ) (seen b : Bound) → HasBound s.entries i seen → HasBound s.entries j b → ((p : ℕ) (r : Bound) → IsWait net p seen b r → ⊥) → conclusion net (the_entries s.entries) (wait_at i j) ≡ None
  wait_ends_from i j seen b one other none =
      wait_ends net s good ready i j one.entry other.entry one.there other.there (λ p r is.
      none p r (subst (λ z. IsWait net p seen z r) other.is (subst (λ z. IsWait net p z (the_bound other.entry.bound) r) one.is is)))
