-- What a list that is made from another one contains.
use Rattle.std.proofs.Common.{ℕ, zero, suc, ◌≡◌, ◌+◌, ◌<◌, ◌≤◌, List, [], ◌∷◌, ◌++◌, length, arith, refl, subst, ap, ◌∙◌}
use Rattle.std.specs.List.{All, AllPairs, Contains}
use Rattle.std.proofs.lemmas.List.Elements.{All-nil, All-cons, All-head, All-tail, All-weaker}
use Rattle.std.proofs.lemmas.List.Kept.{AllPairs-cons}
use Rattle.cstn_facts.proofs.Members.{contains_head, contains_tail}
use Rattle.cstn_net.specs.Networks.{Constraint}
use Rattle.cstn_lift.specs.Lowered.{numbered}

-- each constraint is in the numbered list under some id
pub numbered_contains : (k : ℕ) (cs : List Constraint) (c : Constraint) → Contains cs c →
    (id : ℕ) × Contains (numbered k cs) (record c { id = id })
numbered_contains k [] c has = let inside = has.1 in absurd (omega arith)
numbered_contains k (d ∷ ds) c (zero, inside, here) =
    (k, subst (λ e. Contains (numbered k (d ∷ ds)) (record e { id = k })) here (contains_head (record d { id = k }) (numbered (k + 1) ds)))
numbered_contains k (d ∷ ds) c (suc i, inside, here) =
    let rest = numbered_contains (k + 1) ds c (i, omega arith, here) in
    (rest.0, contains_tail (record d { id = k }) (record c { id = rest.0 }) (numbered (k + 1) ds) rest.1)

-- what holds of each constraint under any id holds of each in the numbered list
pub numbered_all : (P : Constraint → Type 0) (k : ℕ) (cs : List Constraint) → All (λ c. (id : ℕ) → P (record c { id = id })) cs →
    All P (numbered k cs)
numbered_all P k [] all = All-nil P
numbered_all P k (c ∷ cs) all =
    All-cons P (record c { id = k }) (numbered (k + 1) cs) (All-head (λ c. (id : ℕ) → P (record c { id = id })) c cs all k)
    (numbered_all P (k + 1) cs (All-tail (λ c. (id : ℕ) → P (record c { id = id })) c cs all))

pub numbered_length : (k : ℕ) (cs : List Constraint) → length (numbered k cs) ≡ length cs
numbered_length k [] = refl
numbered_length k (c ∷ cs) = ap suc (numbered_length (k + 1) cs)

pub numbered_append : (k : ℕ) (cs ds : List Constraint) → numbered k (cs ++ ds) ≡ numbered k cs ++ numbered (k + length cs) ds
numbered_append k [] ds = ap (λ n. numbered n ds) (omega arith)
numbered_append k (c ∷ cs) ds =
    let next : (k + 1) + length cs ≡ k + length (c ∷ cs) = omega arith in
    ap (λ es. record c { id = k } ∷ es) (numbered_append (k + 1) cs ds ∙ ap (λ n. numbered (k + 1) cs ++ numbered n ds) next)

pub numbered_ascending : (k : ℕ) (cs : List Constraint) → All (λ c. k ≤ c.id) (numbered k cs) × AllPairs (λ b c. b.id < c.id) (numbered k cs)
numbered_ascending k [] = (All-nil (λ c. k ≤ c.id), λ i j d before inside. absurd (omega arith))
numbered_ascending k (c ∷ cs) =
    let first = record c { id = k } in
    let rest = numbered (k + 1) cs in
    let below = numbered_ascending (k + 1) cs in (
      All-cons (λ c. k ≤ c.id) first rest (omega arith) (All-weaker (λ c. k + 1 ≤ c.id) (λ c. k ≤ c.id) (λ c low. omega arith) rest below.0),
      AllPairs-cons (λ b c. b.id < c.id) first rest (All-weaker (λ c. k + 1 ≤ c.id) (λ c. k < c.id) (λ c low. omega arith) rest below.0) below.1,
    )
