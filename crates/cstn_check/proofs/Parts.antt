-- Networks with some of the constraints of another, and their ids.
use Rattle.std.proofs.Common.{ℕ, zero, suc, ◌≡◌, ◌<◌, Bool, true, false, not, eqb, ◌&&◌, inl, inr, List, [], ◌∷◌, map, arith, refl, sym, subst, ap, ◌∙◌}
use Rattle.std.specs.Prelude.{if◌then◌else◌}
use Rattle.std.specs.List.{AllPairs, Contains, filter}
use Rattle.std.proofs.lemmas.Bool.{cases_Bool, or_left, or_right, or_cases, and_parts, and_from, eqb-true, eq-eqb, not-true, both_ways}
use Rattle.cstn_net.specs.Networks.{Network, Constraint, IsWellFormed}
use Rattle.cstn_facts.proofs.Pairs.{pairs_map}
use Rattle.cstn_facts.proofs.Filters.{filter_twice}
use Rattle.cstn_check.specs.Givers.{ids_of, is_of, but, with_some, with_ids, network_without, IsPart}
use Rattle.cstn_check.proofs.Fewer.{some_well_formed}

-- ---- ids

pub of_contains : (ids : List ℕ) (id : ℕ) → Contains ids id → is_of ids id ≡ true
of_contains [] id (k, inside, at) = absurd (omega arith)
of_contains (i ∷ is) id (zero, inside, at) = or_left (eqb id i) (is_of is id) (eq-eqb id i (sym at))
of_contains (i ∷ is) id (suc k, inside, at) = or_right (eqb id i) (is_of is id) (of_contains is id (k, omega arith, at))

pub contains_of : (ids : List ℕ) (id : ℕ) → is_of ids id ≡ true → Contains ids id
contains_of [] id e = absurd (cc)
contains_of (i ∷ is) id e = elim (or_cases (eqb id i) (is_of is id) e) [
  | inl same ↦ (0, omega arith, sym (eqb-true id i same))
  | inr later ↦ let c = contains_of is id later in (suc c.0, (let h = c.1 in omega arith), c.2)
]

filter_case : (test : ℕ → Bool) (i : ℕ) (is : List ℕ) (id : ℕ) (b : Bool) → test i ≡ b →
    (is_of (filter test is) id ≡ true → (test id ≡ true) × (is_of is id ≡ true)) → is_of (if b then i ∷ filter test is else filter test is) id ≡ true →
    (test id ≡ true) × (is_of (i ∷ is) id ≡ true)
filter_case test i is id false f later h = let r = later h in (r.0, or_right (eqb id i) (is_of is id) r.1)
filter_case test i is id true t later h = elim (or_cases (eqb id i) (is_of (filter test is) id) h) [
  | inl same ↦ (ap test (eqb-true id i same) ∙ t, or_left (eqb id i) (is_of is id) same)
  | inr among ↦ let r = later among in (r.0, or_right (eqb id i) (is_of is id) r.1)
]

-- those of the ids that pass a test are ids, and do
of_filter : (test : ℕ → Bool) (ids : List ℕ) (id : ℕ) → is_of (filter test ids) id ≡ true → (test id ≡ true) × (is_of ids id ≡ true)
of_filter test [] id e = absurd (cc)
of_filter test (i ∷ is) id e = filter_case test i is id (test i) refl (of_filter test is id) e

-- what passes a test is one of those of the ids that do
pub filter_of : (test : ℕ → Bool) (ids : List ℕ) (id : ℕ) → test id ≡ true → is_of ids id ≡ true → is_of (filter test ids) id ≡ true
filter_of test [] id t e = e
filter_of test (i ∷ is) id t e = elim (or_cases (eqb id i) (is_of is id) e) [
  | inl same ↦
      let here : test i ≡ true = sym (ap test (eqb-true id i same)) ∙ t in
      rw here (or_left (eqb id i) (is_of (filter test is) id) same)
  | inr later ↦ elim (cases_Bool (test i)) [
    | inl here ↦ rw here (or_right (eqb id i) (is_of (filter test is) id) (filter_of test is id t later))
    | inr gone ↦ rw gone (filter_of test is id t later)
  ]
]

pub but_itself : (id : ℕ) (test : ℕ → Bool) → but id test id ≡ true → ⊥
but_itself id test e =
    let other = (and_parts (test id) (not (eqb id id)) e).1 in
    both_ways (eqb id id) (not-true (eqb id id) other) (eq-eqb id id refl)

pub but_more : (id i : ℕ) (a b : ℕ → Bool) → (a i ≡ true → b i ≡ true) → but id a i ≡ true → but id b i ≡ true
but_more id i a b more e = let both = and_parts (a i) (not (eqb i id)) e in and_from (b i) (not (eqb i id)) (more both.0) both.1

-- ---- networks

-- tests that agree on the ids of the constraints
pub some_same : (net : Network) (a b : ℕ → Bool) → ((id : ℕ) → is_of (ids_of net) id ≡ true → a id ≡ b id) → with_some net a ≡ with_some net b
some_same net a b same = ap (λ cs. record net { constraints = cs }) (go net.constraints same)
  where
    go : (cs : List Constraint) → ((id : ℕ) → is_of (map (λ (c : Constraint). c.id) cs) id ≡ true → a id ≡ b id) → filter (λ c. a c.id) cs ≡ filter (λ c. b c.id) cs
    go [] agree = refl
    go (c ∷ cs) agree =
        let here = agree c.id (or_left (eqb c.id c.id) (is_of (map (λ (d : Constraint). d.id) cs) c.id) (eq-eqb c.id c.id refl)) in
        let rest = go cs (λ id among. agree id (or_right (eqb id c.id) (is_of (map (λ (d : Constraint). d.id) cs) id) among)) in
        elim (cases_Bool (b c.id)) [
          | inl t ↦ rw (here ∙ t) (rw t (ap (λ l. c ∷ l) rest))
          | inr f ↦ rw (here ∙ f) (rw f rest)
        ]

all_pass : {X : Type 0} (xs : List X) → filter (λ x. true) xs ≡ xs
all_pass [] = refl
all_pass (x ∷ xs) = ap (λ l. x ∷ l) (all_pass xs)

pub whole_same : (net : Network) → with_some net (λ id. true) ≡ net
whole_same net = ap (λ cs. record net { constraints = cs }) (all_pass net.constraints)

-- all constraints of a network are some of them
pub whole_part : (net : Network) → IsPart net net
whole_part net = ((λ id. true), sym (whole_same net))

-- some of some constraints
pub some_twice : (net : Network) (a b : ℕ → Bool) → with_some (with_some net a) b ≡ with_some net (λ i. a i && b i)
some_twice net a b = ap (λ cs. record net { constraints = cs }) (filter_twice (λ c. b c.id) (λ c. a c.id) net.constraints)

pub without_one : (net : Network) (test : ℕ → Bool) (id : ℕ) → network_without id (with_some net test) ≡ with_some net (but id test)
without_one net test id = some_twice net test (λ i. not (eqb i id))

-- the ids of those that pass
pub ids_some : (net : Network) (test : ℕ → Bool) → ids_of (with_some net test) ≡ filter test (ids_of net)
ids_some net test = go net.constraints
  where
    go : (cs : List Constraint) → map (λ (c : Constraint). c.id) (filter (λ c. test c.id) cs) ≡ filter test (map (λ (c : Constraint). c.id) cs)
    go [] = refl
    go (c ∷ cs) = elim (cases_Bool (test c.id)) [
      | inl t ↦ rw t (ap (λ is. c.id ∷ is) (go cs))
      | inr f ↦ rw f (go cs)
    ]

-- an id of a part passes its test, and is one of the network's
pub some_passes : (net : Network) (test : ℕ → Bool) (id : ℕ) → is_of (ids_of (with_some net test)) id ≡ true → (test id ≡ true) × (is_of (ids_of net) id ≡ true)
some_passes net test id among = of_filter test (ids_of net) id (sym (ap (λ l. is_of l id) (ids_some net test)) ∙ among)

-- a part has the constraints of its ids alone
pub part_ids : (net part : Network) → IsPart net part → with_ids net (ids_of part) ≡ part
part_ids net part (test, is) =
    some_same net (is_of (ids_of part)) test (λ id among. same (is_of (ids_of part) id) (test id)
    (λ e. (some_passes net test id (sym (ap (λ n. is_of (ids_of n) id) is) ∙ e)).0)
    (λ e. ap (λ n. is_of (ids_of n) id) is ∙ ap (λ l. is_of l id) (ids_some net test) ∙ filter_of test (ids_of net) id e among))
    ∙ sym is
  where
    same : (a b : Bool) → (a ≡ true → b ≡ true) → (b ≡ true → a ≡ true) → a ≡ b
    same true b there back = sym (there refl)
    same false true there back = back refl
    same false false there back = refl

-- a network with all of its own ids is the network itself
pub whole_ids : (net : Network) → with_ids net (ids_of net) ≡ net
whole_ids net = part_ids net net (whole_part net)

-- the ids ascend
pub ids_ascend : (net : Network) → IsWellFormed net → AllPairs (λ a b. a < b) (ids_of net)
ids_ascend net good = pairs_map (λ a b. a < b) (λ (c : Constraint). c.id) net.constraints good.ascending

pub part_well_formed : (net part : Network) → IsWellFormed net → IsPart net part → IsWellFormed part
part_well_formed net part good (test, is) = subst IsWellFormed (sym is) (some_well_formed net (λ c. test c.id) good)
