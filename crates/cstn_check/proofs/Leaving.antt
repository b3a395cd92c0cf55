-- What is left of a network when constraints are left out in turn.
use Rattle.std.proofs.Common.{ℕ, suc, ◌≡◌, ◌+◌, ◌<◌, Bool, true, false, not, eqb, inl, inr, Option, Some, None, List, [], ◌∷◌, length, get_or, drop, arith, refl, sym, subst, ap, ◌∙◌}
use Rattle.std.specs.Prelude.{option_map, option_and_then}
use Rattle.std.specs.List.{AllPairs, Contains}
use Rattle.std.proofs.Math.Seq.{drop-cons}
use Rattle.std.proofs.lemmas.Bool.{and_parts, or_cases, eqb-true, both_ways}
use Rattle.std.proofs.lemmas.Grind.{get_or_default_zero}
use Rattle.std.proofs.lemmas.List.Kept.{AllPairs-filter}
use Rattle.cstn_net.specs.Networks.{Network}
use Rattle.cstn_check.specs.Givers.{ids_of, is_of, but, with_some, with_ids, network_without, IsPart}
use Rattle.cstn_check.specs.Search.{narrowed, left_by, left_over, ids_left}
use Rattle.cstn_check.proofs.Parts.{of_contains, contains_of, but_itself, but_more, whole_same, without_one, ids_some, some_passes, part_ids}

-- the next id to try
pub next_id : (ids : List ℕ) (k id : ℕ) → k < length ids → id ≡ get_or ids k id → drop k ids ≡ id ∷ drop (k + 1) ids
next_id ids k id inside is =
    drop-cons ids k 0 inside ∙ ap (λ n. get_or ids k 0 ∷ drop n ids) (let e : suc k ≡ k + 1 = omega arith in e)
    ∙ ap (λ i. i ∷ drop (k + 1) ids) (sym (is ∙ get_or_default_zero ids k id inside))

module _ (says : Network → Option Bool) (id : ℕ) (ids : List ℕ) (now : Network) (all : Option Network) (is : left_by says (id ∷ ids) now ≡ all) where
  pub left_next : (next : Network) → narrowed (says (network_without id now)) id now ≡ Some next → left_by says ids next ≡ all
  left_next next found = sym (ap (option_and_then (left_by says ids)) found) ∙ is

  pub left_stop : narrowed (says (network_without id now)) id now ≡ None → all ≡ None
  left_stop none = sym is ∙ ap (option_and_then (left_by says ids)) none

module _ (says : Network → Option Bool) where
  -- an id that was tried was kept after a yes, or left out after a no
  left_cases : (P : Type 0) (o : Option Bool) (id : ℕ) (ids : List ℕ) (now left : Network) → option_and_then (left_by says ids) (narrowed o id now) ≡ Some left →
      (o ≡ Some true → left_by says ids now ≡ Some left → P) → (o ≡ Some false → left_by says ids (network_without id now) ≡ Some left → P) → P
  left_cases P None id ids now left go kept out = absurd (cc)
  left_cases P (Some true) id ids now left go kept out = kept refl go
  left_cases P (Some false) id ids now left go kept out = out refl go

  -- where no is said at first, no is said of what is left
  pub left_said : (ids : List ℕ) (now left : Network) → says now ≡ Some false → left_by says ids now ≡ Some left → says left ≡ Some false
  left_said [] now left fails is = let same : now ≡ left = cc in ap says (sym same) ∙ fails
  left_said (id ∷ ids) now left fails is = left_cases (says left ≡ Some false) (says (network_without id now)) id ids now left is
      (λ t go. left_said ids now left fails go)
      (λ f go. left_said ids (network_without id now) left f go)

  module _ (whole : Network) where
    -- what is left are those constraints that pass a test, which is no weaker than before
    record IsLeft (before : ℕ → Bool) (left : Network) : Type 0 where
      test : ℕ → Bool
      is : left ≡ with_some whole test
      among : (id : ℕ) → test id ≡ true → before id ≡ true

    left_is : (ids : List ℕ) (now left : Network) (before : ℕ → Bool) → now ≡ with_some whole before → left_by says ids now ≡ Some left → IsLeft before left
    left_is [] now left before now_is is = let same : now ≡ left = cc in record { test = before; is = sym same ∙ now_is; among = λ id e. e }
    left_is (id ∷ ids) now left before now_is is = left_cases (IsLeft before left) (says (network_without id now)) id ids now left is
        (λ t go. left_is ids now left before now_is go)
        (λ f go.
        let less = left_is ids (network_without id now) left (but id before) (ap (network_without id) now_is ∙ without_one whole before id) go in
        record { test = less.test; is = less.is; among = λ i e. (and_parts (before i) (not (eqb i id)) (less.among i e)).0 })

    left_part : (left : Network) → left_over says whole ≡ Some left → IsPart whole left
    left_part left is = let l = left_is (ids_of whole) whole left (λ id. true) (sym (whole_same whole)) is in (l.test, l.is)

    left_ascends : (left : Network) → AllPairs (λ a b. a < b) (ids_of whole) → left_over says whole ≡ Some left → AllPairs (λ a b. a < b) (ids_of left)
    left_ascends left ascending is =
        let part = left_part left is in
        subst (AllPairs (λ a b. a < b)) (sym (ap ids_of part.1 ∙ ids_some whole part.0)) (AllPairs-filter (λ a b. a < b) part.0 (ids_of whole) ascending)

    -- where what goes by some constraints goes by fewer, and yes and no say whether it goes
    module _ (Goes : Network → Type 0)
        (holds : (test : ℕ → Bool) → says (with_some whole test) ≡ Some true → Goes (with_some whole test))
        (fails : (test : ℕ → Bool) → says (with_some whole test) ≡ Some false → Goes (with_some whole test) → ⊥)
        (fewer : (a b : ℕ → Bool) → ((id : ℕ) → a id ≡ true → b id ≡ true) → Goes (with_some whole b) → Goes (with_some whole a)) where
      -- where it doesn't go by the constraints that there are, it doesn't by those that are left
      stops_by : (ids : List ℕ) (now left : Network) (before : ℕ → Bool) → now ≡ with_some whole before → left_by says ids now ≡ Some left → (Goes now → ⊥) → Goes left → ⊥
      stops_by [] now left before now_is is never = let same : now ≡ left = cc in subst (λ n. Goes n → ⊥) same never
      stops_by (id ∷ ids) now left before now_is is never = left_cases (Goes left → ⊥) (says (network_without id now)) id ids now left is
          (λ t go. stops_by ids now left before now_is go never)
          (λ f go.
          let less = ap (network_without id) now_is ∙ without_one whole before id in
          stops_by ids (network_without id now) left (but id before) less go
          (subst (λ n. Goes n → ⊥) (sym less) (fails (but id before) (sym (ap says less) ∙ f))))

      -- it goes without an id that was tried and is left
      goes_by : (ids : List ℕ) (now left : Network) (before : ℕ → Bool) (id : ℕ) → now ≡ with_some whole before → left_by says ids now ≡ Some left →
          is_of ids id ≡ true → is_of (ids_of left) id ≡ true → Goes (network_without id left)
      goes_by [] now left before id now_is is tried there = absurd (both_ways false refl tried)
      goes_by (i ∷ ids) now left before id now_is is tried there =
          let less = ap (network_without i) now_is ∙ without_one whole before i in
          left_cases (Goes (network_without id left)) (says (network_without i now)) i ids now left is
          (λ t go. elim (or_cases (eqb id i) (is_of ids id) tried) [
            | inr later ↦ goes_by ids now left before id now_is go later there
            | inl here ↦
                let l = left_is ids now left before now_is go in
                subst Goes (sym (ap (network_without id) l.is ∙ without_one whole l.test id))
                (fewer (but id l.test) (but id before) (λ j e. but_more id j l.test before (l.among j) e)
                (subst (λ j. Goes (with_some whole (but j before))) (sym (eqb-true id i here)) (holds (but i before) (sym (ap says less) ∙ t))))
          ])
          (λ f go. elim (or_cases (eqb id i) (is_of ids id) tried) [
            | inr later ↦ goes_by ids (network_without i now) left (but i before) id less go later there
            | inl here ↦
                let l = left_is ids (network_without i now) left (but i before) less go in
                let passes = l.among id (some_passes whole l.test id (sym (ap (λ n. is_of (ids_of n) id) l.is) ∙ there)).0 in
                absurd (but_itself i before (subst (λ j. but i before j ≡ true) (eqb-true id i here) passes))
          ])

      module _ (left : Network) (is : left_over says whole ≡ Some left) where
        left_stops : (Goes whole → ⊥) → Goes left → ⊥
        left_stops = stops_by (ids_of whole) whole left (λ id. true) (sym (whole_same whole)) is

        left_needed : (id : ℕ) → Contains (ids_of left) id → Goes (network_without id left)
        left_needed id has =
            let part = left_part left is in
            let there = of_contains (ids_of left) id has in
            let own = (some_passes whole part.0 id (sym (ap (λ n. is_of (ids_of n) id) part.1) ∙ there)).1 in
            goes_by (ids_of whole) whole left (λ j. true) id (sym (whole_same whole)) is own there

-- ---- what is found, by its ids

left_by_ids : (ids : List ℕ) (o : Option Network) → option_map ids_of o ≡ Some ids → (left : Network) × (o ≡ Some left) × (ids_of left ≡ ids)
left_by_ids ids None e = absurd (cc)
left_by_ids ids (Some left) e = let same : ids_of left ≡ ids = cc in (left, refl, same)

module _ (says : Network → Option Bool) (whole : Network) (ids : List ℕ) (is : ids_left says whole ≡ Some ids) where
  found_left : (left : Network) × (left_over says whole ≡ Some left) × (ids_of left ≡ ids)
  found_left = left_by_ids ids (left_over says whole) is

  same_left : with_ids whole ids ≡ found_left.0
  same_left = ap (with_ids whole) (sym found_left.2) ∙ part_ids whole found_left.0 (left_part says whole found_left.0 found_left.1)

  -- what is left are the constraints of these ids
  pub found_is : left_over says whole ≡ Some (with_ids whole ids)
  found_is = found_left.1 ∙ ap (λ n. Some n) (sym same_left)

  pub found_ids : ids_of (with_ids whole ids) ≡ ids
  found_ids = ap ids_of same_left ∙ found_left.2

  pub found_ascends : AllPairs (λ a b. a < b) (ids_of whole) → AllPairs (λ a b. a < b) ids
  found_ascends ascending = subst (AllPairs (λ a b. a < b)) found_ids (left_ascends says whole (with_ids whole ids) ascending found_is)

  -- each of them is one of the network's
  pub found_own : (id : ℕ) → Contains ids id → Contains (ids_of whole) id
  found_own id has =
      let there = of_contains (ids_of (with_ids whole ids)) id (subst (λ l. Contains l id) (sym found_ids) has) in
      contains_of (ids_of whole) id (some_passes whole (is_of ids) id there).1

  module _ (Goes : Network → Type 0)
      (holds : (test : ℕ → Bool) → says (with_some whole test) ≡ Some true → Goes (with_some whole test))
      (fails : (test : ℕ → Bool) → says (with_some whole test) ≡ Some false → Goes (with_some whole test) → ⊥)
      (fewer : (a b : ℕ → Bool) → ((id : ℕ) → a id ≡ true → b id ≡ true) → Goes (with_some whole b) → Goes (with_some whole a)) where
    -- where it doesn't go by all constraints, it doesn't by those of the ids alone
    pub found_stops : (Goes whole → ⊥) → Goes (with_ids whole ids) → ⊥
    found_stops = left_stops says whole Goes holds fails fewer (with_ids whole ids) found_is

    -- and without any one of them it goes
    pub found_needed : (id : ℕ) → Contains ids id → Goes (network_without id (with_ids whole ids))
    found_needed id has = left_needed says whole Goes holds fails fewer (with_ids whole ids) found_is id (subst (λ l. Contains l id) (sym found_ids) has)

-- what is left is left by any test that says the same where the first says something
pub left_same : (a b : Network → Option Bool) → ((net : Network) (v : Bool) → a net ≡ Some v → b net ≡ Some v) → (ids : List ℕ) (now left : Network) →
    left_by a ids now ≡ Some left → left_by b ids now ≡ Some left
left_same a b more [] now left is = is
left_same a b more (id ∷ ids) now left is = left_cases a (left_by b (id ∷ ids) now ≡ Some left) (a (network_without id now)) id ids now left is
    (λ t go. ap (λ o. option_and_then (left_by b ids) (narrowed o id now)) (more (network_without id now) true t) ∙ left_same a b more ids now left go)
    (λ f go. ap (λ o. option_and_then (left_by b ids) (narrowed o id now)) (more (network_without id now) false f) ∙ left_same a b more ids (network_without id now) left go)

-- where nothing is left, nothing is said of some of the constraints
pub found_none : (says : Network → Option Bool) (whole : Network) → ids_left says whole ≡ None → (test : ℕ → Bool) × (says (with_some whole test) ≡ None)
found_none says whole none = go (ids_of whole) whole (λ id. true) (sym (whole_same whole)) (nothing (left_over says whole) none)
  where
    nothing : (o : Option Network) → option_map ids_of o ≡ None → o ≡ None
    nothing None e = refl
    nothing (Some left) e = absurd (cc)

    Found : Type 0
    Found = (test : ℕ → Bool) × (says (with_some whole test) ≡ None)

    by : (o : Option Bool) (id : ℕ) (ids : List ℕ) (now : Network) → option_and_then (left_by says ids) (narrowed o id now) ≡ None → (o ≡ None → Found) →
        (left_by says ids now ≡ None → Found) → (left_by says ids (network_without id now) ≡ None → Found) → Found
    by None id ids now e here kept out = here refl
    by (Some true) id ids now e here kept out = kept e
    by (Some false) id ids now e here kept out = out e

    go : (ids : List ℕ) (now : Network) (before : ℕ → Bool) → now ≡ with_some whole before → left_by says ids now ≡ None → Found
    go [] now before now_is e = absurd (cc)
    go (id ∷ ids) now before now_is e =
        let less = ap (network_without id) now_is ∙ without_one whole before id in
        by (says (network_without id now)) id ids now e
        (λ none. (but id before, sym (ap says less) ∙ none))
        (go ids now before now_is)
        (go ids (network_without id now) (but id before) less)
