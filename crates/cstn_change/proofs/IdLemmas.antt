-- Ids of constraints: what is above them, and which constraints have them.
use Rattle.std.proofs.Common.{ℕ, zero, suc, ◌≡◌, ◌≢◌, ◌<◌, ◌≤◌, ◌+◌, inl, inr, true, false, not, List, [], ◌∷◌, ◌++◌, length, map, get_or, Option, Some, None}
use Rattle.std.proofs.Common.{arith, refl, sym, subst, ap, ◌∙◌}
use Rattle.std.specs.Prelude.{ℤ, ◌==◌, is_some, IsNone, ◌↔◌, if◌then◌else◌}
use Rattle.std.specs.List.{All, AllPairs, list_any}
use Rattle.std.proofs.lemmas.Bool.{cases_Bool, or_parts, eqb-false, true_from_ne_false}
use Rattle.std.proofs.lemmas.List.{length-map, get_or-map}
use Rattle.std.proofs.lemmas.List.Elements.{All-cons, All-map, All-filter, All-push, All-weaker}
use Rattle.cstn_net.specs.declared.constraints.Constraint.{Constraint}
use Rattle.cstn_net.specs.Networks.{Constraint as TheConstraint, IsWellFormed}
use Rattle.cstn_net.specs.Read.{NetworkParts, the_network, the_constraint, has_id, without_id, with_most}
use Rattle.cstn_net.proofs.ChangeLemmas.{same_id, none_taken}
use Rattle.cstn_change.specs.Changes.{Change, adds, removes, revalues, id_above, has_constraint, constraints_without, with_value, constraints_after, fresh_after}

-- ---- an id above all

pub above_each : (cs : List TheConstraint) → All (λ c. c.id < id_above cs) cs
above_each [] = λ k d inside. absurd (omega arith)
above_each (c ∷ cs) =
    All-cons (λ d. d.id < id_above (c ∷ cs)) c cs (omega arith)
    (All-weaker (λ d. d.id < id_above cs) (λ d. d.id < id_above (c ∷ cs)) (λ d below. omega (arith, below)) cs (above_each cs))

pub above_small : (n : ℕ) (cs : List TheConstraint) → All (λ c. c.id < n) cs → id_above cs ≤ n
above_small n [] below = omega arith
above_small n (c ∷ cs) below =
    let here = below 0 c (omega arith) in
    let more = above_small n cs (λ k d inside. below (suc k) d (omega arith)) in
    omega (arith, here, more)

-- it is the one after the last, where the ids ascend
above_last : (cs : List TheConstraint) (d : TheConstraint) (k : ℕ) → suc k ≡ length cs → AllPairs (λ b c. b.id < c.id) cs → suc (get_or cs k d).id ≡ id_above cs
above_last [] d k last ascending = absurd (omega arith)
above_last (c ∷ []) d zero last ascending = omega arith
above_last (c ∷ []) d (suc k) last ascending = absurd (omega arith)
above_last (c ∷ e ∷ cs) d zero last ascending = absurd (omega arith)
above_last (c ∷ e ∷ cs) d (suc k) last ascending =
    let more = above_last (e ∷ cs) d k (omega arith) (λ i j f before inside. ascending (suc i) (suc j) f (omega arith) (omega arith)) in
    let less = ascending 0 1 e (omega arith) (omega arith) in
    omega (arith, more, less)

pub last_above : (net : NetworkParts) (d : Constraint) (k : ℕ) → IsWellFormed (the_network net) → suc k ≡ length net.constraints
    → suc (get_or net.constraints k d).id ≡ id_above (the_network net).constraints
last_above net d k good last =
    let long = length-map net.constraints the_constraint in
    let at = ap (λ (c : TheConstraint). suc c.id) (get_or-map the_constraint net.constraints k d (the_constraint d) (omega arith)) in
    sym at ∙ above_last (map the_constraint net.constraints) (the_constraint d) k (omega arith) good.ascending

-- ids that are below a number are so in the program's constraints, and the other way round
pub ids_in : (n : ℕ) (cs : List Constraint) → All (λ c. c.id < n) (map the_constraint cs) → All (λ c. c.id < n) cs
ids_in n cs below = λ k d inside.
    let long = length-map cs the_constraint in
    subst (λ (c : TheConstraint). c.id < n) (get_or-map the_constraint cs k d (the_constraint d) inside) (below k (the_constraint d) (omega arith))

pub ids_of : (n : ℕ) (cs : List Constraint) → All (λ c. c.id < n) cs → All (λ c. c.id < n) (map the_constraint cs)
ids_of n cs below = All-map (λ (c : TheConstraint). c.id < n) the_constraint cs below

-- ---- the constraint of an id

has_none : (id : ℕ) (cs : List Constraint) → All (λ c. c.id ≢ id) cs → list_any (λ c. c.id == id) (map the_constraint cs) ≡ false
has_none id [] others = refl
has_none id (c ∷ cs) others =
    let here : (c.id == id) ≡ false = let other = others 0 c (omega arith) in grind arith in
    rw (here, has_none id cs (λ k d inside. others (suc k) d (omega arith))) refl

none_has : (id : ℕ) (cs : List Constraint) → list_any (λ c. c.id == id) (map the_constraint cs) ≡ false → All (λ c. c.id ≢ id) cs
none_has id [] none = λ k d inside. absurd (omega arith)
none_has id (c ∷ cs) none =
    let both = or_parts (c.id == id) (list_any (λ d. d.id == id) (map the_constraint cs)) none in
    All-cons (λ d. d.id ≢ id) c cs (eqb-false c.id id both.0) (none_has id cs both.1)

pub has_seen : (id : ℕ) (net : NetworkParts) (o : Option ℕ) → IsNone o ↔ All (λ c. c.id ≢ id) net.constraints
    → is_some o ≡ has_constraint (the_network net) id
has_seen id net None none = sym (has_none id net.constraints (none.0 refl))
has_seen id net (Some k) none = sym (true_from_ne_false (has_constraint (the_network net) id) (λ no.
    let absent = none.1 (none_has id net.constraints no) in absurd (cc)))

-- ---- the constraints without one, or with another value of one

pub without_seen : (id : ℕ) (cs : List Constraint) → map the_constraint (without_id id cs) ≡ constraints_without id (map the_constraint cs)
without_seen id [] = refl
without_seen id (c ∷ cs) = elim (cases_Bool (has_id id c)) [
  | inl t ↦ rw t (without_seen id cs)
  | inr f ↦ rw f (ap (λ ds. the_constraint c ∷ ds) (without_seen id cs))
]

pub without_none : (id : ℕ) (cs : List Constraint) → All (λ c. c.id ≢ id) cs → map the_constraint cs ≡ constraints_without id (map the_constraint cs)
without_none id cs others = ap (map the_constraint) (sym (none_taken id cs others)) ∙ without_seen id cs

one_with_seen : (id : ℕ) (most : ℤ) (c : Constraint) → the_constraint (with_most id most c) ≡ with_value id most (the_constraint c)
one_with_seen id most c = elim (cases_Bool (has_id id c)) [
  | inl t ↦ rw t refl
  | inr f ↦ rw f refl
]

pub with_most_seen : (id : ℕ) (most : ℤ) (cs : List Constraint) →
    map the_constraint (map (with_most id most) cs) ≡ map (with_value id most) (map the_constraint cs)
with_most_seen id most [] = refl
with_most_seen id most (c ∷ cs) =
    ap (λ d. d ∷ map the_constraint (map (with_most id most) cs)) (one_with_seen id most c)
    ∙ ap (λ ds. with_value id most (the_constraint c) ∷ ds) (with_most_seen id most cs)

-- ---- ids stay below a number that they were below

pub with_most_below : (n id : ℕ) (most : ℤ) (cs : List Constraint) → All (λ c. c.id < n) cs → All (λ c. c.id < n) (map (with_most id most) cs)
with_most_below n id most cs below = All-map (λ c. c.id < n) (with_most id most) cs
    (All-weaker (λ c. c.id < n) (λ c. (with_most id most c).id < n) (λ c here. subst (λ (k : ℕ). k < n) (sym (same_id id most c)) here) cs below)

pub without_below : (n id : ℕ) (cs : List Constraint) → All (λ c. c.id < n) cs → All (λ c. c.id < n) (without_id id cs)
without_below n id cs below = All-filter (λ c. not (has_id id c)) (λ c. c.id < n) cs below

pub added_below : (n : ℕ) (cs : List Constraint) (c : Constraint) → c.id ≡ n → All (λ d. d.id < n) cs → All (λ d. d.id < n + 1) (cs ++ c ∷ [])
added_below n cs c is below =
    All-push (λ d. d.id < n + 1) cs c (All-weaker (λ d. d.id < n) (λ d. d.id < n + 1) (λ d here. omega arith) cs below) (omega arith)

-- ---- and after a change

pub value_id : (id : ℕ) (most : ℤ) (c : TheConstraint) → (with_value id most c).id ≡ c.id
value_id id most c = elim (c.id == id) as (λ b. (if b then record c { most = most } else c).id ≡ c.id) [ true ↦ refl | false ↦ refl ]

pub ids_below : (cs : List TheConstraint) (fresh : ℕ) (change : Change) → All (λ c. c.id < fresh) cs → All (λ c. c.id < fresh_after fresh change) (constraints_after cs fresh change)
ids_below cs fresh (adds from to most a) below =
    All-push (λ c. c.id < fresh + 1) cs _ (All-weaker (λ c. c.id < fresh) (λ c. c.id < fresh + 1) (λ c here. omega arith) cs below) (omega arith)
ids_below cs fresh (removes id) below = All-filter (λ c. not (c.id == id)) (λ c. c.id < fresh) cs below
ids_below cs fresh (revalues id most) below = All-map (λ c. c.id < fresh) (with_value id most) cs
    (All-weaker (λ c. c.id < fresh) (λ c. (with_value id most c).id < fresh) (λ c here. subst (λ (k : ℕ). k < fresh) (sym (value_id id most c)) here) cs below)

pub one_id : (fresh : ℕ) (change : Change) → fresh_after fresh change ≤ fresh + 1
one_id fresh (adds from to most a) = omega arith
one_id fresh (removes id) = omega arith
one_id fresh (revalues id most) = omega arith
