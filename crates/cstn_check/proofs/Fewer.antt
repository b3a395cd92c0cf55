-- Networks with some of their constraints.
use Rattle.std.proofs.Common.{ℕ, zero, suc, ◌≡◌, ◌≢◌, ◌+◌, ◌<◌, Bool, true, false, not, cond, eqb, inl, inr, Option, Some, None, List, [], ◌∷◌, ◌++◌, length, get_or, map, take, arith, refl, sym, ap, ◌∙◌}
use Rattle.std.specs.Prelude.{◌↔◌, IsNone, IfNone, IfSome, slice_get}
use Rattle.std.specs.List.{All, Contains, filter}
use Rattle.std.proofs.lemmas.Bool.{cases_Bool}
use Rattle.std.proofs.lemmas.List.{map_more}
use Rattle.std.proofs.lemmas.List.Elements.{All-filter}
use Rattle.std.proofs.lemmas.List.Filters.{length-filter_both}
use Rattle.std.proofs.lemmas.List.Kept.{AllPairs-filter}
use Rattle.std.proofs.lemmas.Option.{slice_get_within, get_or_from_slice_get}
use Rattle.cstn_net.specs.Networks.{Network, Constraint, IsConstraint, IsValue, IsWellFormed}
use Rattle.cstn_net.specs.Read.{NetworkParts, the_network, the_constraint, without_id}
use Rattle.cstn_net.specs.declared.constraints.Constraint.{Constraint as DeclaredConstraint}
use Rattle.cstn_net.proofs.ChangeLemmas.{none_taken}
use Rattle.cstn_net.proofs.WellFormed.{well_formed_with}
use Rattle.cstn_check.specs.Givers.{network_without}

-- ---- lists

-- what a function makes of the first items and of one more
pub map_next : {X Y : Type 0} (f : X → Y) (xs : List X) (k : ℕ) (x : X) → slice_get xs k ≡ Some x → map f (take (k + 1) xs) ≡ map f (take k xs) ++ f x ∷ []
map_next f xs k x there =
    map_more f xs k x (slice_get_within xs k x there)
    ∙ ap (λ y. map f (take k xs) ++ f y ∷ []) (get_or_from_slice_get xs k x x there)

-- an item of a list is still one where another may be put before the list
contains_behind : {X : Type 0} (y : X) (ys : List X) (b : Bool) (x : X) → Contains ys x → Contains (cond b (y ∷ ys) ys) x
contains_behind y ys true x h = (suc h.0, (let less = h.1 in omega arith), h.2)
contains_behind y ys false x h = h

-- an item that passes is one of those that pass
pub contains_passing : {X : Type 0} (p : X → Bool) (xs : List X) (x : X) → p x ≡ true → Contains xs x → Contains (filter p xs) x
contains_passing p [] x passes h = h
contains_passing p (y ∷ ys) x passes h = go (contains_passing p ys x passes) h.0 h.1 h.2
  where
    go : (Contains ys x → Contains (filter p ys) x) → (k : ℕ) → k < length (y ∷ ys) → get_or (y ∷ ys) k x ≡ x → Contains (filter p (y ∷ ys)) x
    go rest zero inside at = let t : p y ≡ true = ap p at ∙ passes in rw t (0, omega arith, at)
    go rest (suc k) inside at = contains_behind y (filter p ys) (p y) x (rest (k, omega arith, at))

-- ---- networks

-- a network with some of its constraints is well-formed
pub some_well_formed : (net : Network) (test : Constraint → Bool) → IsWellFormed net → IsWellFormed (record net { constraints = filter test net.constraints })
some_well_formed net test good =
    let cs = net.constraints in
    well_formed_with net (filter test cs) good
    (let few = good.few_constraints in
    let both = length-filter_both test (λ c. not (test c)) (λ c. refl) cs in omega arith)
    (All-filter test (IsConstraint net) cs good.network.constraints)
    (AllPairs-filter (λ b c. b.id < c.id) test cs good.ascending)
    (All-filter test (λ c. IsValue c.most) cs good.values)

-- ---- the program's networks

pub the_ids : (cs : List DeclaredConstraint) → map (λ (c : Constraint). c.id) (map the_constraint cs) ≡ map (λ (c : DeclaredConstraint). c.id) cs
the_ids [] = refl
the_ids (c ∷ cs) = ap (λ ids. c.id ∷ ids) (the_ids cs)

pub map_without : (id : ℕ) (cs : List DeclaredConstraint) → map the_constraint (without_id id cs) ≡ filter (λ c. not (eqb c.id id)) (map the_constraint cs)
map_without id [] = refl
map_without id (c ∷ cs) = elim (cases_Bool (not (eqb c.id id))) [
  | inl t ↦ rw t (ap (λ ds. the_constraint c ∷ ds) (map_without id cs))
  | inr f ↦ rw f (map_without id cs)
]

-- what is left when the constraint of an id was taken out, if it was there
pub taken_out : (id : ℕ) (old new : NetworkParts) (r : Option DeclaredConstraint) → (IsNone r ↔ All (λ c. c.id ≢ id) old.constraints) → IfNone r (new ≡ old) →
    IfSome r (λ _. new ≡ record old { constraints = without_id id old.constraints; spare = old.spare + 1 }) →
    the_network new ≡ network_without id (the_network old)
taken_out id old new None absent same gone =
    ap the_network (same)
    ∙ ap (λ cs. record (the_network old) { constraints = cs })
    (sym (sym (map_without id old.constraints) ∙ ap (map the_constraint) (none_taken id old.constraints (absent.0 refl))))
taken_out id old new (Some c) absent same gone =
    ap the_network gone ∙ ap (λ cs. record (the_network old) { constraints = cs }) (map_without id old.constraints)

-- a copy stands for the same network
pub copied : (old new : NetworkParts) → new ≡ record old { spare = 0 } → the_network new ≡ the_network old
copied old new is = ap the_network is
