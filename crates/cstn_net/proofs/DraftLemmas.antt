-- The constraints of drafts, and the time-points of a builder.
use Rattle.std.proofs.Common.{ℕ, zero, suc, set, ◌≡◌, ◌+◌, ◌<◌, List, [], ◌∷◌, ◌++◌, length, take, get_or, refl, ap, arith}
use Rattle.std.specs.List.{All, AllPairs}
use Rattle.std.proofs.lemmas.List.{take_more, length-take-le}
use Rattle.std.proofs.lemmas.List.Elements.{All-cons, All-nil, All-head, All-tail}
use Rattle.std.proofs.lemmas.List.Kept.{AllPairs-cons}
use Rattle.cstn_net.specs.declared.constraints.Constraint.{Constraint}
use Rattle.cstn_net.specs.declared.drafts.Draft.{Draft}
use Rattle.cstn_net.specs.declared.points.TimePoint.{TimePoint}
use Rattle.cstn_net.specs.Drafts.{constraint_of, constraints_from, with_reaction}

-- one more draft gives one more constraint
pub constraints_more : (k i : ℕ) (ds : List Draft) (d : Draft) → i ≡ k + length ds →
    constraints_from k (ds ++ d ∷ []) ≡ constraints_from k ds ++ constraint_of i d ∷ []
constraints_more k i [] d is = let e : i ≡ k = omega arith in rw e refl
constraints_more k i (x ∷ ds) d is = ap (λ cs. constraint_of k x ∷ cs) (constraints_more (k + 1) i ds d (omega arith))

-- a turn of the loop: the next draft gives the next constraint
pub constraints_turn : (ds : List Draft) (items new : List Constraint) (i id : ℕ) (d : Draft) (c : Constraint) →
    i < length ds → id ≡ i → items ≡ constraints_from 0 (take i ds) → c ≡ constraint_of id (get_or ds i d) →
    new ≡ items ++ c ∷ [] → new ≡ constraints_from 0 (take (i + 1) ds)
constraints_turn ds items new i id d c inside id_is before c_is new_is =
    let len : id ≡ 0 + length (take i ds) = omega (arith, length-take-le i ds (omega arith)) in
    rw (new_is, before, c_is, take_more ds i d inside, constraints_more 0 id (take i ds) (get_or ds i d) len)

pub constraints_length : (k : ℕ) (ds : List Draft) → length (constraints_from k ds) ≡ length ds
constraints_length k [] = refl
constraints_length k (d ∷ ds) = ap suc (constraints_length (k + 1) ds)

-- what holds of each draft's constraint, under any id, holds of each constraint
pub all_constraints : (P : Constraint → Type 0) (k : ℕ) (ds : List Draft) →
    All (λ d. (id : ℕ) → P (constraint_of id d)) ds → All P (constraints_from k ds)
all_constraints P k [] all = All-nil P
all_constraints P k (d ∷ ds) all =
    All-cons P (constraint_of k d) (constraints_from (k + 1) ds) (All-head (λ d. (id : ℕ) → P (constraint_of id d)) d ds all k)
    (all_constraints P (k + 1) ds (All-tail (λ d. (id : ℕ) → P (constraint_of id d)) d ds all))

above : (m k : ℕ) (ds : List Draft) → m < k → All (λ c. m < c.id) (constraints_from k ds)
above m k [] lt = All-nil (λ c. m < c.id)
above m k (d ∷ ds) lt =
    All-cons (λ c. m < c.id) (constraint_of k d) (constraints_from (k + 1) ds) lt (above m (k + 1) ds (omega arith))

pub ids_ascend : (k : ℕ) (ds : List Draft) → AllPairs (λ b c. b.id < c.id) (constraints_from k ds)
ids_ascend k [] = λ i j d before inside. absurd (omega arith)
ids_ascend k (d ∷ ds) =
    AllPairs-cons (λ b c. b.id < c.id) (constraint_of k d) (constraints_from (k + 1) ds) (above k (k + 1) ds (omega arith))
    (ids_ascend (k + 1) ds)

-- setting the reaction at the place of a time-point gives the list of `with_reaction`
pub reaction_is_set : (ticks : ℕ) (points : List TimePoint) (node : ℕ) (t : TimePoint) → t ≡ get_or points node t →
    set points node (record t { reaction = ticks }) ≡ with_reaction node ticks points
reaction_is_set ticks [] node t stood = refl
reaction_is_set ticks (u ∷ us) zero t stood = ap {A = TimePoint} (λ t. record t { reaction = ticks } ∷ us) stood
reaction_is_set ticks (u ∷ us) (suc node) t stood = ap (λ ts. u ∷ ts) (reaction_is_set ticks us node t stood)
