-- The constraints of a network of the program, and what a change leaves of them.
use Rattle.std.proofs.Common.{ℕ, zero, suc, inl, inr, ◌≡◌, ◌≢◌, ◌<◌, ◌≤◌, true, false, not, cond, Option, Some, None, List, [], ◌∷◌, ◌++◌, length, get_or, set, map, arith, refl, sym, subst, ap, ◌∙◌}
use Rattle.std.specs.Prelude.{ℤ}
use Rattle.std.specs.Prelude.{MatchResult, MatchOption, IsNone, ◌↔◌, Result, Ok, Err}
use Rattle.std.specs.List.{All, AllPairs, remove}
use Rattle.std.specs.List.Sorted.{IsSearchInRange, IsBinarySearchResult, IsNonDecreasingBy}
use Rattle.std.specs.Ordering.{nat_cmp, ordering_index}
use Rattle.std.proofs.lemmas.Cmp.{ranked}
use Rattle.std.proofs.lemmas.Bool.Decides.{nat_tests}
use Rattle.cstn_net.specs.Limits.{most_constraints}
use Rattle.cstn_net.specs.Links.{ends}
use Rattle.std.proofs.lemmas.Bool.{eq-eqb, ne_eqb, cases_lt}
use Rattle.std.proofs.lemmas.List.{length-map, length-append}
use Rattle.std.proofs.lemmas.List.Edits.{length-remove}
use Rattle.std.proofs.lemmas.List.Elements.{All-map, All-push, All-filter, All-head, All-tail, All-weaker}
use Rattle.std.proofs.lemmas.List.Quantifiers.{all_pairs_push}
use Rattle.std.proofs.lemmas.List.Filters.{length-filter_both}
use Rattle.std.proofs.lemmas.List.Kept.{AllPairs-filter}
use Rattle.cstn_facts.proofs.Pairs.{all_unmap, pairs_unmap, pairs_map, pairs_tail, pairs_head}
use Rattle.cstn_net.specs.declared.constraints.Constraint.{Constraint}
use Rattle.cstn_net.specs.declared.points.TimePoint.{TimePoint}
use Rattle.cstn_net.specs.Networks.{Network, IsConstraint, IsValue, IsWellFormed}
use Rattle.cstn_net.specs.Read.{NetworkParts, the_network, the_constraint, has_id, without_id, with_most, observed, IsInRange}
use Rattle.cstn_net.proofs.WellFormed.{well_formed_with}

-- the constraints are those of a well-formed network with these time-points
pub record AreKept (net : Network) (cs : List Constraint) : Type 0 where
  pub few : length cs ≤ most_constraints
  pub constraints : All (λ c. IsConstraint net (the_constraint c)) cs
  pub ascending : AllPairs (λ b c. b.id < c.id) cs
  pub values : All (λ c. IsValue c.most) cs

abbrev pub net_of : ℕ → List TimePoint → List Constraint → Network
net_of deadline points cs = the_network (record { deadline = deadline; points = points; constraints = cs; spare = 0 })

pub kept_in : (net : Network) (cs : List Constraint) → net.constraints ≡ map the_constraint cs → IsWellFormed net → AreKept net cs
kept_in net cs is h = record {
  few = let few = h.few_constraints in let same = length-map cs the_constraint in let long = ap length is in omega arith;
  constraints = all_unmap (IsConstraint net) the_constraint cs (subst (All (IsConstraint net)) is h.network.constraints);
  ascending = pairs_unmap (λ b c. b.id < c.id) the_constraint cs (subst (AllPairs (λ b c. b.id < c.id)) is h.ascending);
  values = all_unmap (λ c. IsValue c.most) the_constraint cs (subst (All (λ c. IsValue c.most)) is h.values);
}

-- the ids of a network of the program ascend, and its constraints end at time-points
pub ids_ascend : (deadline : ℕ) (points : List TimePoint) (cs : List Constraint) → IsWellFormed (net_of deadline points cs) →
    AllPairs (λ b c. b.id < c.id) cs
ids_ascend deadline points cs h = (kept_in (net_of deadline points cs) cs refl h).ascending

pub ends_inside : (deadline n : ℕ) (points : List TimePoint) (cs : List Constraint) → IsWellFormed (net_of deadline points cs) → length points ≡ n →
    All (λ c. c.to.0 < n) cs
ends_inside deadline n points cs h is = λ k d inside.
    let one = (kept_in (net_of deadline points cs) cs refl h).constraints k d inside in
    let to = one.to in
    let same = length-map points observed in
    omega arith

-- a well-formed network stays so with other constraints that are those of such a network
pub changed : (deadline : ℕ) (points : List TimePoint) (cs ds : List Constraint) → IsWellFormed (net_of deadline points cs) →
    AreKept (net_of deadline points cs) ds → IsWellFormed (net_of deadline points ds)
changed deadline points cs ds h kept =
    well_formed_with (net_of deadline points cs) (map the_constraint ds) h
    (let few = kept.few in let same = length-map ds the_constraint in omega arith)
    (All-map (IsConstraint (net_of deadline points cs)) the_constraint ds kept.constraints)
    (pairs_map (λ b c. b.id < c.id) the_constraint ds kept.ascending)
    (All-map (λ c. IsValue c.most) the_constraint ds kept.values)

-- a constraint with another value keeps its id
pub same_id : (id : ℕ) (most : ℤ) (c : Constraint) → (with_most id most c).id ≡ c.id
same_id id most c = elim (has_id id c) as (λ b. (cond b (record c { most = most }) c).id ≡ c.id) [ true ↦ refl | false ↦ refl ]

module _ (net : Network) where
  pub kept_push : (cs : List Constraint) (c : Constraint) → AreKept net cs → length cs < most_constraints →
      All (λ d. d.id < c.id) cs → IsConstraint net (the_constraint c) → IsValue c.most → AreKept net (cs ++ c ∷ [])
  kept_push cs c kept few above one value = record {
    few = let long = length-append cs (c ∷ []) in omega arith;
    constraints = All-push (λ c. IsConstraint net (the_constraint c)) cs c kept.constraints one;
    ascending = all_pairs_push (λ b c. b.id < c.id) cs c kept.ascending (λ k d inside. above k d inside);
    values = All-push (λ c. IsValue c.most) cs c kept.values value;
  }

  pub kept_without : (cs : List Constraint) (id : ℕ) → AreKept net cs → AreKept net (without_id id cs)
  kept_without cs id kept = record {
    few = let few = kept.few in let both = length-filter_both (has_id id) (λ c. not (has_id id c)) (λ c. refl) cs in omega arith;
    constraints = All-filter (λ c. not (has_id id c)) (λ c. IsConstraint net (the_constraint c)) cs kept.constraints;
    ascending = AllPairs-filter (λ b c. b.id < c.id) (λ c. not (has_id id c)) cs kept.ascending;
    values = All-filter (λ c. not (has_id id c)) (λ c. IsValue c.most) cs kept.values;
  }

  one_with : (id : ℕ) (most : ℤ) (c : Constraint) → IsConstraint net (the_constraint c) →
      IsConstraint net (the_constraint (with_most id most c))
  one_with id most c h = elim (has_id id c) as (λ b. IsConstraint net (the_constraint (cond b (record c { most = most }) c))) [
    | true ↦ record { from = h.from; to = h.to; plain = h.plain; observed = h.observed }
    | false ↦ h
  ]

  value_with : (id : ℕ) (most : ℤ) (c : Constraint) → IsValue most → IsValue c.most → IsValue (with_most id most c).most
  value_with id most c new old = elim (has_id id c) as (λ b. IsValue (cond b (record c { most = most }) c).most) [ true ↦ new | false ↦ old ]

  pub kept_with : (cs : List Constraint) (id : ℕ) (most : ℤ) → AreKept net cs → IsValue most → AreKept net (map (with_most id most) cs)
  kept_with cs id most kept value = record {
    few = let few = kept.few in let same = length-map cs (with_most id most) in omega arith;
    constraints = All-map (λ c. IsConstraint net (the_constraint c)) (with_most id most) cs
        (All-weaker _ _ (one_with id most) cs kept.constraints);
    ascending = pairs_map (λ b c. b.id < c.id) (with_most id most) cs (λ i j d before inside.
        let ordered = kept.ascending i j d before inside in
        let one = same_id id most (get_or cs i d) in
        let other = same_id id most (get_or cs j d) in
        omega arith);
    values = All-map (λ c. IsValue c.most) (with_most id most) cs (All-weaker _ _ (λ c. value_with id most c value) cs kept.values);
  }

has_it : (id : ℕ) (c : Constraint) → c.id ≡ id → has_id id c ≡ true
has_it id c e = eq-eqb c.id id e

has_other : (id : ℕ) (c : Constraint) → c.id ≢ id → has_id id c ≡ false
has_other id c n = ne_eqb c.id id n

same_end : (id : ℕ) (most : ℤ) (c : Constraint) → (with_most id most c).to.0 ≡ c.to.0
same_end id most c = elim (has_id id c) as (λ b. (cond b (record c { most = most }) c).to.0 ≡ c.to.0) [ true ↦ refl | false ↦ refl ]

pub others_stay : (id : ℕ) (most : ℤ) (cs : List Constraint) → All (λ c. c.id ≢ id) cs → map (with_most id most) cs ≡ cs
others_stay id most [] others = refl
others_stay id most (c ∷ cs) others =
    rw (has_other id c (All-head (λ c. c.id ≢ id) c cs others))
    (ap (λ ds. c ∷ ds) (others_stay id most cs (All-tail (λ c. c.id ≢ id) c cs others)))

pub none_taken : (id : ℕ) (cs : List Constraint) → All (λ c. c.id ≢ id) cs → without_id id cs ≡ cs
none_taken id [] others = refl
none_taken id (c ∷ cs) others =
    rw (has_other id c (All-head (λ c. c.id ≢ id) c cs others))
    (ap (λ ds. c ∷ ds) (none_taken id cs (All-tail (λ c. c.id ≢ id) c cs others)))

later_others : (id : ℕ) (c : Constraint) (cs : List Constraint) → c.id ≡ id → All (λ d. c.id < d.id) cs → All (λ d. d.id ≢ id) cs
later_others id c cs e later = λ k d inside same. let above = later k d inside in omega arith

-- removing the constraint at the place of an id leaves the constraints without that id
pub remove_is : (id : ℕ) (cs : List Constraint) (at : ℕ) → at < length cs → ((d : Constraint) → (get_or cs at d).id ≡ id) →
    AllPairs (λ b c. b.id < c.id) cs → remove cs at ≡ without_id id cs
remove_is id [] at inside is ascending = absurd (omega arith)
remove_is id (c ∷ cs) zero inside is ascending =
    rw (has_it id c (is c)) (sym (none_taken id cs (later_others id c cs (is c) (pairs_head (λ b c. b.id < c.id) c cs ascending))))
remove_is id (c ∷ cs) (suc at) inside is ascending =
    let before = pairs_head (λ b c. b.id < c.id) c cs ascending at c (omega arith) in
    let here = is c in
    rw (has_other id c (λ e. omega arith))
    (ap (λ ds. c ∷ ds) (remove_is id cs at (omega arith) is (pairs_tail (λ b c. b.id < c.id) c cs ascending)))

-- setting the value at the place of an id sets that of the constraint with the id, and no other
pub set_is : (id : ℕ) (most : ℤ) (cs : List Constraint) (at : ℕ) (old new : Constraint) → at < length cs →
    ((d : Constraint) → (get_or cs at d).id ≡ id) → old ≡ get_or cs at old → new ≡ record old { most = most } →
    AllPairs (λ b c. b.id < c.id) cs → set cs at new ≡ map (with_most id most) cs
set_is id most [] at old new inside is stood made ascending = absurd (omega arith)
set_is id most (c ∷ cs) zero old new inside is stood made ascending =
    rw (has_it id c (is c), made, stood)
    (ap (λ ds. record c { most = most } ∷ ds)
    (sym (others_stay id most cs (later_others id c cs (is c) (pairs_head (λ b c. b.id < c.id) c cs ascending)))))
set_is id most (c ∷ cs) (suc at) old new inside is stood made ascending =
    let before = pairs_head (λ b c. b.id < c.id) c cs ascending at c (omega arith) in
    let here = is c in
    rw (has_other id c (λ e. omega arith))
    (ap (λ ds. c ∷ ds)
    (set_is id most cs at old new (omega arith) is stood made (pairs_tail (λ b c. b.id < c.id) c cs ascending)))

module _ (id : ℕ) (cs : List Constraint) (ascending : AllPairs (λ b c. b.id < c.id) cs) where
  -- the comparisons with an id rise along the constraints, as binary search requires
  comparisons_rise : IsNonDecreasingBy (λ c. ordering_index (nat_cmp c.id id)) cs
  comparisons_rise i j d upto inside = elim (cases_lt i j) [
    | inl before ↦ let ordered = ascending i j d before inside in grind (arith, nat_tests)
    | inr after ↦ let same : i ≡ j = omega arith in subst (λ k. ordering_index (nat_cmp (get_or cs i d).id id) ≤ ordering_index (nat_cmp (get_or cs k d).id id)) same (omega arith)
  ]

  -- where a binary search finds a place, the id stands there; where it finds none, no constraint has the id
  pub searched : (r : Result ℕ ℕ) → IsSearchInRange r (length cs) → IsBinarySearchResult (λ c. nat_cmp c.id id) cs r →
      MatchResult r (λ k. (k < length cs) × ((d : Constraint) → (get_or cs k d).id ≡ id)) (λ _. All (λ c. c.id ≢ id) cs)
  searched (Ok k) inside equal = (inside, λ d. ranked (get_or cs k d).id id _ (sym (equal d)))
  searched (Err k) inside parted = λ i d within same. elim (cases_lt i k) [
    | inl before ↦ let less = ranked (get_or cs i d).id id _ (sym ((parted comparisons_rise).0 i d (omega arith) before)) in omega arith
    | inr after ↦ let greater = ranked (get_or cs i d).id id _ (sym ((parted comparisons_rise).1 i d after within)) in omega arith
  ]

-- no place is found exactly where no constraint has the id
pub found_or_none : (id : ℕ) (cs : List Constraint) (o : Option ℕ) →
    MatchOption o (All (λ c. c.id ≢ id) cs) (λ k. (k < length cs) × ((d : Constraint) → (get_or cs k d).id ≡ id)) → IsNone o ↔ All (λ c. c.id ≢ id) cs
found_or_none id cs None none = (λ e. none, λ others. refl)
found_or_none id [] (Some k) found = (λ e. cc, λ others. let inside = found.0 in absurd (omega arith))
found_or_none id (c ∷ cs) (Some k) found = (λ e. cc, λ others. absurd (others k c found.0 (found.1 c)))

-- a constraint with another value ends where it did
pub same_ends : (id : ℕ) (most : ℤ) (cs : List Constraint) → ends (map (with_most id most) cs) ≡ ends cs
same_ends id most [] = refl
same_ends id most (c ∷ cs) = rw (same_ends id most cs) (ap (λ x. x ∷ ends cs) (same_end id most c))

-- networks with the same deadline and time-points are equal to contracts where their constraints and their room are equal
pub same_parts : (deadline : ℕ) (points : List TimePoint) (cs ds : List Constraint) (m n : ℕ) → cs ≡ ds → m ≡ n →
    ◌≡◌ {A = NetworkParts} (record { deadline = deadline; points = points; constraints = cs; spare = m })
    (record { deadline = deadline; points = points; constraints = ds; spare = n })
same_parts deadline points cs ds m n e f = cc

-- the constraints of a well-formed network are in range
pub ranges : (deadline n : ℕ) (points : List TimePoint) (cs : List Constraint) → IsWellFormed (net_of deadline points cs) →
    length points ≡ n → All (IsInRange n) cs
ranges deadline n points cs h is =
    let kept = kept_in (net_of deadline points cs) cs refl h in
    λ k d inside.
    let one = kept.constraints k d inside in
    let from = one.from in
    let to = one.to in
    let same = length-map points observed in
    record { from = omega arith; to = omega arith; value = kept.values k d inside }

-- the constraints that are left when the one with the id is taken out: those without the id, which are fewer and still make a
-- well-formed network
pub record IsLeft (deadline id : ℕ) (points : List TimePoint) (cs left : List Constraint) : Type 0 where
  pub is : left ≡ without_id id cs
  pub well_formed : IsWellFormed (net_of deadline points left)
  pub inside : All (λ c. c.to.0 < length points) left
  pub fewer : length left < length cs

pub left_over : (deadline id at : ℕ) (points : List TimePoint) (cs left : List Constraint) → IsWellFormed (net_of deadline points cs) →
    (at < length cs) × ((d : Constraint) → (get_or cs at d).id ≡ id) → left ≡ remove cs at → IsLeft deadline id points cs left
left_over deadline id at points cs left good found removed =
    let net = net_of deadline points cs in
    let is : left ≡ without_id id cs = removed ∙ remove_is id cs at found.0 found.1 (ids_ascend deadline points cs good) in
    let left_good = subst (λ cs. IsWellFormed (net_of deadline points cs)) (sym is) (changed deadline points cs _ good (kept_without net cs id (kept_in net cs refl good))) in
    let inside = found.0 in
    record {
      is = is;
      well_formed = left_good;
      inside = ends_inside deadline (length points) points left left_good refl;
      fewer = omega (arith, ap length removed, length-remove cs at inside);
    }
