-- Chains of the constraints that end at a time-point, and waits.
use Rattle.std.proofs.Common.{ℕ, ◌≡◌, ◌≤◌, ◌<◌, List, Some, length, get_or, map, arith, inl, inr, refl, sym, subst, ap, ◌∙◌}
use Rattle.std.specs.Prelude.{slice_get, option_map}
use Rattle.std.specs.List.{AllPairs}
use Rattle.std.proofs.lemmas.Bool.{cases_lt, cases_eq}
use Rattle.std.proofs.lemmas.List.{get_or-map, get_or_default, length-map}
use Rattle.std.proofs.lemmas.Option.{slice_get-map, slice_get_within, get_or_from_slice_get, same_Some}
use Rattle.cstn_facts.proofs.Members.{there_is, is_there}
use Rattle.cstn_facts.proofs.Places.{one_there, get_map}
use Rattle.cstn_label.specs.declared.bounds.Bound.{Bound as DeclaredBound}
use Rattle.cstn_label.specs.Bounds.{Bound}
use Rattle.cstn_label.specs.Labels.{IsMarked}
use Rattle.cstn_label.specs.Read.{the_bound}
use Rattle.cstn_net.specs.declared.constraints.Constraint.{Constraint as Declared}
use Rattle.cstn_net.specs.Networks.{Network, Constraint, IsWellFormed, Observes}
use Rattle.cstn_net.specs.Links.{ends}
use Rattle.cstn_net.specs.Read.{NetworkParts, the_network, the_constraint}
use Rattle.cstn_rules.specs.Rules.{IsChain, IsWait}
use Rattle.cstn_rules.specs.Closed.{IsCovered}
use Rattle.cstn_closed.specs.Faults.{Fault, bad, no_base, no_chain, no_wait, IsFault, kind, place, other}
use Rattle.cstn_closed.specs.Instances.{IsChainCovered, AreChainsCovered, IsWaitCovered, AreWaitsCovered, IsSoBefore, IsFirstThere}
use Rattle.cstn_closed.specs.Marking.{marking}
use Rattle.cstn_closed.proofs.MarkingLemmas.{place_inside, marked_at, marked_before}
use Rattle.cstn_closed.proofs.WalkLemmas.{IsWalked}

-- what chain derives from the constraint at the place k and the bound is covered
abbrev pub IsChainedAt : NetworkParts → List Bound → Bound → ℕ → Type 0
IsChainedAt net bounds b k = (c : Declared) → slice_get net.constraints k ≡ Some c → IsChainCovered (the_network net) bounds (the_constraint c) b

-- from a constraint that ends at another time-point chain derives nothing
pub chained_elsewhere : (net : NetworkParts) (bounds : List Bound) (b : Bound) (k : ℕ) → k < length (ends net.constraints) →
    (get_or (ends net.constraints) k 0 ≡ b.node → ⊥) → IsChainedAt net bounds b k
chained_elsewhere net bounds b k inside other c there r is =
    let within = slice_get_within net.constraints k c there in
    absurd (other (get_or-map (λ (d : Declared). d.to.0) net.constraints k c 0 within
    ∙ ap (λ (d : Declared). d.to.0) (get_or_from_slice_get net.constraints k c c there) ∙ sym is.at))

-- the chain at the place k is covered where that of the constraint that was read there is
pub chained_here : (net : NetworkParts) (bounds : List Bound) (b : Bound) (k : ℕ) (c : Declared) → slice_get net.constraints k ≡ Some c →
    IsChainCovered (the_network net) bounds (the_constraint c) b → IsChainedAt net bounds b k
chained_here net bounds b k c is covered d there =
    subst (λ x. IsChainCovered (the_network net) bounds (the_constraint x) b) (one_there net.constraints k c d is there) covered

-- where the walk has ended, what chain derives from any constraint and the bound is covered
pub all_chained : (net : NetworkParts) (bounds : List Bound) (b : Bound) (p : ℕ) → IsWalked (IsChainedAt net bounds b) (ends net.constraints) b.node p →
    length net.constraints ≤ p → AreChainsCovered (the_network net) bounds b
all_chained net bounds b p walked ended c has r is =
    let there = there_is (map the_constraint net.constraints) c has in
    let from = get_map the_constraint net.constraints there.0 c there.1 in
    let within = slice_get_within net.constraints there.0 from.0 from.1 in
    walked.done there.0 (omega arith) (omega (arith, length-map net.constraints (λ (d : Declared). d.to.0))) from.0 from.1 r
    (subst (λ x. IsChain (the_network net) x b r) (sym from.2) is)

-- ids ascend with places
ascends : (cs : List Declared) (i j : ℕ) (c d : Declared) → AllPairs (λ (x y : Constraint). x.id < y.id) (map the_constraint cs) →
    slice_get cs i ≡ Some c → slice_get cs j ≡ Some d → i < j → c.id < d.id
ascends cs i j c d up at also less =
    let images = map the_constraint cs in
    let last = slice_get_within cs j d also in
    let one = image_at i c at in
    let other = image_at j d also in
    subst (λ (y : Constraint). c.id < y.id) other (subst (λ (x : Constraint). x.id < (get_or images j (the_constraint c)).id) one
    (up i j (the_constraint c) less (omega (arith, last, length-map cs the_constraint))))
  where
    image_at : (k : ℕ) (x : Declared) → slice_get cs k ≡ Some x → get_or (map the_constraint cs) k (the_constraint c) ≡ the_constraint x
    image_at k x there =
        get_or-map the_constraint cs k c (the_constraint c) (slice_get_within cs k x there) ∙ ap the_constraint (get_or_from_slice_get cs k x c there)

-- the first constraint of the walk from which chain derives what isn't covered is the one with the least id
pub first_chained : (net : NetworkParts) (bounds : List Bound) (b : Bound) (i p : ℕ) (c : Declared) → IsWellFormed (the_network net) →
    IsWalked (IsChainedAt net bounds b) (ends net.constraints) b.node p → slice_get bounds i ≡ Some b → slice_get net.constraints p ≡ Some c →
    (r : Bound) × IsChain (the_network net) (the_constraint c) b r × (IsCovered bounds r → ⊥) → IsFirstThere (the_network net) bounds (no_chain c.id i)
first_chained net bounds b i p c wf walked at here gives = record {
  fault = (the_constraint c, b, gives.0, is_there (map the_constraint net.constraints) p (the_constraint c) (slice_get-map the_constraint net.constraints p ∙ ap (option_map the_constraint) here), refl, at, gives.1, gives.2);
  before = earlier;
}
  where
    earlier : (g : Fault) → kind g ≡ 2 → place g ≡ i → other g < c.id → IsFault (the_network net) bounds g → ⊥
    earlier (bad j) same there less fault = omega arith
    earlier (no_base y) same there less fault = omega arith
    earlier (no_wait j k) same there less fault = omega arith
    earlier (no_chain id j) same there less fault =
        let found = there_is (map the_constraint net.constraints) fault.0 fault.3 in
        let from = get_map the_constraint net.constraints found.0 fault.0 found.1 in
        let within = slice_get_within net.constraints found.0 from.0 from.1 in
        let its : from.0.id ≡ id = ap {A = Constraint} (λ x. x.id) from.2 ∙ fault.4 in
        let its_bound : fault.1 ≡ b = one_there bounds i fault.1 b (subst (λ n. slice_get bounds n ≡ Some fault.1) there fault.5) at in
        elim (cases_lt found.0 p) [
          | inl before ↦ fault.7 (walked.done found.0 before (omega (arith, length-map net.constraints (λ (d : Declared). d.to.0))) from.0 from.1 fault.2
              (subst (λ x. IsChain (the_network net) x b fault.2) (sym from.2) (subst (λ x. IsChain (the_network net) fault.0 x fault.2) its_bound fault.6)))
          | inr past ↦ elim (cases_eq found.0 p) [
            | inl same_place ↦
                let one : from.0 ≡ c = one_there net.constraints p from.0 c (subst (λ n. slice_get net.constraints n ≡ Some from.0) same_place from.1) here in
                let same_id : from.0.id ≡ c.id = ap {A = Declared} (λ x. x.id) one in
                omega arith
            | inr behind ↦
                let higher = ascends net.constraints p found.0 c from.0 wf.ascending here from.1 (omega arith) in
                omega arith
          ]
        ]

-- the first bound from which wait, with `seen`, derives what isn't covered is the first fault of its kind at that place
first_awaited : (net : Network) (bounds : List Bound) (i j : ℕ) (seen b : Bound) → slice_get bounds i ≡ Some seen → slice_get bounds j ≡ Some b →
    IsSoBefore (IsWaitCovered net bounds seen) bounds j → (p : ℕ) × (r : Bound) × IsWait net p seen b r × (IsCovered bounds r → ⊥) →
    IsFirstThere net bounds (no_wait i j)
first_awaited net bounds i j seen b at here before gives = record {
  fault = (gives.0, seen, b, gives.1, at, here, gives.2, gives.3);
  before = earlier;
}
  where
    earlier : (g : Fault) → kind g ≡ 3 → place g ≡ i → other g < j → IsFault net bounds g → ⊥
    earlier (bad k) same there less fault = omega arith
    earlier (no_base y) same there less fault = omega arith
    earlier (no_chain id k) same there less fault = omega arith
    earlier (no_wait k l) same there less fault =
        let its : fault.1 ≡ seen = one_there bounds i fault.1 seen (subst (λ n. slice_get bounds n ≡ Some fault.1) there fault.4) at in
        fault.7 (before l fault.2 less fault.5 fault.0 fault.3 (subst (λ x. IsWait net fault.0 x fault.2 fault.3) its fault.6))

-- what wait derives from `seen` and the bound at the place k is covered
abbrev pub IsAwaitedAt : Network → List Bound → Bound → ℕ → Type 0
IsAwaitedAt net bounds seen k = (b : Bound) → slice_get bounds k ≡ Some b → IsWaitCovered net bounds seen b

-- wait derives something only from bounds that mark the observed proposition
awaited_marks : (net : Network) (seen b r : Bound) (p q : ℕ) → Observes net seen.node p → IsWait net q seen b r → IsMarked b.label p
awaited_marks net seen b r p q observes is = subst (IsMarked b.label) (same_Some q p (sym is.observes.what ∙ observes.what)) is.marked

-- what wait derives from any bound before the i-th that marks p is covered, where this holds for the first i that mark p
waits_before : (net : Network) (bounds : List Bound) (seen : Bound) (p i : ℕ) → Observes net seen.node p → i < length (marking p bounds) →
    ((n : ℕ) → n < i → IsAwaitedAt net bounds seen (get_or (marking p bounds) n 0)) →
    IsSoBefore (IsWaitCovered net bounds seen) bounds (get_or (marking p bounds) i 0)
waits_before net bounds seen p i observes inside done j b before there q r is =
    let at = marked_before p bounds i j b inside before there (awaited_marks net seen b r p q observes is) in
    done at.0 at.1 b (subst (λ k. slice_get bounds k ≡ Some b) (sym at.2) there) q r is

-- what wait derives from any bound is covered, where this holds for all bounds that mark p
waits_all : (net : Network) (bounds : List Bound) (seen : Bound) (p i : ℕ) → Observes net seen.node p → length (marking p bounds) ≤ i →
    ((n : ℕ) → n < i → IsAwaitedAt net bounds seen (get_or (marking p bounds) n 0)) → AreWaitsCovered net bounds seen
waits_all net bounds seen p i observes all done b has q r is =
    let there = there_is bounds b has in
    let at = marked_at p bounds there.0 b there.1 (awaited_marks net seen b r p q observes is) in
    done at.0 (omega (arith, at.1)) b (subst (λ k. slice_get bounds k ≡ Some b) (sym at.2) there.1) q r is

-- the place of a bound that marks p is one of the list
pub place_read : (bounds : List DeclaredBound) (places : List ℕ) (p i d : ℕ) → places ≡ marking p (map the_bound bounds) → i < length places → get_or places i d < length bounds
place_read bounds places p i d are inside =
    let within : i < length (marking p (map the_bound bounds)) = subst (λ (ps : List ℕ). i < length ps) are inside in
    let below = place_inside p (map the_bound bounds) i within in
    let at : get_or places i d ≡ get_or (marking p (map the_bound bounds)) i 0 =
    ap (λ (ps : List ℕ). get_or ps i d) are ∙ get_or_default (marking p (map the_bound bounds)) i d 0 within in
    omega (arith, at, below, length-map bounds the_bound)

-- the first of these bounds from which wait derives what isn't covered gives the first fault of its kind at that place
pub first_marked : (net : Network) (bounds : List Bound) (at p i d : ℕ) (places : List ℕ) (seen b : Bound) → places ≡ marking p bounds → i < length places →
    Observes net seen.node p → slice_get bounds at ≡ Some seen → slice_get bounds (get_or places i d) ≡ Some b →
    ((n : ℕ) → n < i → IsAwaitedAt net bounds seen (get_or places n 0)) → (q : ℕ) × (r : Bound) × IsWait net q seen b r × (IsCovered bounds r → ⊥) →
    IsFirstThere net bounds (no_wait at (get_or places i d))
first_marked net bounds at p i d places seen b are inside observes there here done gives =
    let within : i < length (marking p bounds) = subst (λ (ps : List ℕ). i < length ps) are inside in
    let same : get_or places i d ≡ get_or (marking p bounds) i 0 = ap (λ (ps : List ℕ). get_or ps i d) are ∙ get_or_default (marking p bounds) i d 0 within in
    let before = waits_before net bounds seen p i observes within (subst (λ (ps : List ℕ). (n : ℕ) → n < i → IsAwaitedAt net bounds seen (get_or ps n 0)) are done) in
    first_awaited net bounds at (get_or places i d) seen b there here (subst (IsSoBefore (IsWaitCovered net bounds seen) bounds) (sym same) before) gives

-- what wait derives from any bound is covered, where this holds for all of `places`
pub all_marked : (net : Network) (bounds : List Bound) (p i : ℕ) (places : List ℕ) (seen : Bound) → places ≡ marking p bounds → length places ≤ i →
    Observes net seen.node p → ((n : ℕ) → n < i → IsAwaitedAt net bounds seen (get_or places n 0)) → AreWaitsCovered net bounds seen
all_marked net bounds p i places seen are all observes done =
    waits_all net bounds seen p i observes (subst (λ (ps : List ℕ). length ps ≤ i) are all)
    (subst (λ (ps : List ℕ). (n : ℕ) → n < i → IsAwaitedAt net bounds seen (get_or ps n 0)) are done)

-- at a time-point that observes nothing, wait derives nothing
pub none_observed : (net : Network) (bounds : List Bound) (seen : Bound) → ((p : ℕ) → Observes net seen.node p → ⊥) → AreWaitsCovered net bounds seen
none_observed net bounds seen none b has p r is = absurd (none p is.observes)
