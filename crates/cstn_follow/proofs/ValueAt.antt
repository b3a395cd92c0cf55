-- The value of a constraint, which is found by its place.
use Rattle.std.proofs.Common.{ℕ, zero, suc, ◌≡◌, ◌<◌, List, [], ◌∷◌, Some, None, length, map, arith, refl, sym, subst, ap, ◌∙◌}
use Rattle.std.specs.Prelude.{ℤ, pos, negsuc, ◌≤ℤ◌, ◌≢◌, ◌^◌, FitsSigned, slice_index_or, if◌then◌else◌}
use Rattle.std.specs.Int.{w32}
use Rattle.std.specs.List.{All, AllPairs}
use Rattle.std.proofs.lemmas.Int.{ints}
use Rattle.std.proofs.lemmas.Bool.{eq-eqb, ne_eqb}
use Rattle.std.proofs.lemmas.List.{length-map}
use Rattle.cstn_facts.proofs.Pairs.{pairs_head, pairs_tail}
use Rattle.cstn_net.specs.Limits.{most_value, least_value}
use Rattle.cstn_net.specs.declared.constraints.Constraint.{Constraint as Declared}
use Rattle.cstn_net.specs.Networks.{Constraint, IsValue}
use Rattle.cstn_net.specs.Read.{the_constraint}
use Rattle.cstn_net.proofs.Values.{value_fits}
use Rattle.cstn_lift.specs.Labelled.{Labelled}
use Rattle.cstn_history.specs.Histories.{edited}
use Rattle.cstn_history.specs.Read.{HistoryParts, the_history, IsKeptFor}
use Rattle.cstn_history.proofs.Edited.{timely_edited}
use Rattle.cstn_follow.specs.Raises.{value_among}

-- no constraint has the id
pub nowhere : (id : ℕ) (cs : List Declared) → All (λ c. c.id ≢ id) cs → value_among id (map the_constraint cs) ≡ None
nowhere id [] all = refl
nowhere id (c ∷ cs) all =
    ap (λ b. if b then Some c.most else value_among id (map the_constraint cs)) (ne_eqb c.id id (all 0 c (omega arith)))
    ∙ nowhere id cs (λ k d inside. all (suc k) d (omega arith))

at_place : (low : ℕ) (ds : List Declared) (j : ℕ) (d : Declared) → j < length ds → low < (slice_index_or (map the_constraint ds) j (the_constraint d)).id
    → low < (slice_index_or ds j d).id
at_place low [] j d short less = absurd (omega arith)
at_place low (e ∷ es) zero d short less = less
at_place low (e ∷ es) (suc j) d short less = at_place low es j d (omega arith) less

long : (ds : List Declared) (j : ℕ) → j < length ds → j < length (map the_constraint ds)
long ds j short = let same = length-map ds the_constraint in omega arith

-- the one at this place has it
pub value_at : (id : ℕ) (cs : List Declared) (k : ℕ) (d : Declared) → AllPairs (λ (b c : Constraint). b.id < c.id) (map the_constraint cs) → k < length cs
    → (slice_index_or cs k d).id ≡ id → value_among id (map the_constraint cs) ≡ Some (slice_index_or cs k d).most
value_at id [] k d ascend inside is = absurd (omega arith)
value_at id (c ∷ cs) zero d ascend inside is =
    ap (λ b. if b then Some c.most else value_among id (map the_constraint cs)) (eq-eqb c.id id is)
value_at id (c ∷ cs) (suc k) d ascend inside is =
    let above = pairs_head (λ (a b : Constraint). a.id < b.id) (the_constraint c) (map the_constraint cs) ascend in
    let less = at_place c.id cs k d (omega arith) (above k (the_constraint d) (long cs k (omega arith))) in
    ap (λ b. if b then Some c.most else value_among id (map the_constraint cs)) (ne_eqb c.id id (λ same. omega arith))
    ∙ value_at id cs k d (pairs_tail (λ (a b : Constraint). a.id < b.id) (the_constraint c) (map the_constraint cs) ascend) (omega arith) is

-- what has happened is kept for a network that is edited
pub kept_edited : (l m : Labelled) (h : HistoryParts) (deadline : ℕ) (cs : List Constraint) → IsKeptFor l h → m ≡ edited l deadline cs → IsKeptFor m h
kept_edited l m h deadline cs kept is =
    let timely = timely_edited l (the_history h) deadline cs kept.history kept.in_time in
    subst (λ (n : Labelled). IsKeptFor n h) (sym is)
    (record { one_each = kept.one_each; wide = kept.wide; ready_each = kept.ready_each; history = timely.history; in_time = timely.in_time })
