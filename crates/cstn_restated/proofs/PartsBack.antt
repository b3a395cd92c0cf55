-- The parts of a document or of a plan are those of its network.
use Rattle.std.proofs.Common.{◌≡◌, ℕ, zero, suc, ◌+◌, Bool, true, false, List, [], ◌∷◌, map, refl, ap, ◌∙◌, arith, Option, Some, None}
use Rattle.std.specs.Prelude.{slice_index_or}
use Rattle.std.proofs.lemmas.Bool.{eq-eqb}
use Rattle.cstn_net.specs.Networks.{IsNetwork, is_prop}
use Rattle.cstn_net.specs.Read.{first_reaction}
use Rattle.cstn_net.proofs.Observed.{prop_true}
use Rattle.cstn_graphml.specs.DrawnGraph.{Observation, DrawnConstraint}
use Rattle.cstn_graphml.specs.Document.{Parts}
use Rattle.cstn_graphml.specs.Networks.{numbered_drawn, observed_prop, observed_reaction, network_of, labelled_of}
use Rattle.cstn_save.specs.Canonical.{observation_by, timed_observations}
use Rattle.cstn_save.specs.ReadBack.{without_its_id, parts}

-- ---- constraints

drawn_again : (k : ℕ) (cs : List DrawnConstraint) → map without_its_id (numbered_drawn k cs) ≡ cs
drawn_again k [] = refl
drawn_again k (c ∷ cs) = ap (λ (later : List DrawnConstraint). c ∷ later) (drawn_again (k + 1) cs)

-- ---- observations

abbrev first_of : List (Option Observation) → ℕ → ℕ
first_of os p = first_reaction observed_prop observed_reaction os p

prop_at : (os : List (Option Observation)) (x : ℕ) → slice_index_or (map observed_prop os) x None ≡ observed_prop (slice_index_or os x None)
prop_at [] x = refl
prop_at (o ∷ os) zero = refl
prop_at (o ∷ os) (suc x) = prop_at os x

-- a proposition has the reaction of its one observer
reaction_at : (os : List (Option Observation)) (x : ℕ) (o : Observation) → slice_index_or os x None ≡ Some o
    → ((y : ℕ) → slice_index_or (map observed_prop os) y None ≡ Some o.prop → y ≡ x) → first_of os o.prop ≡ o.reaction
reaction_at [] x o e one = let none : None ≡ Some o = e in absurd (cc none)
reaction_at (b ∷ os) zero o e one = let here : b ≡ Some o = e in rw (here, eq-eqb o.prop o.prop refl) refl
reaction_at (b ∷ os) (suc x) o e one =
    at (is_prop o.prop (observed_prop b)) refl (reaction_at os x o e (λ y h. let same : suc y ≡ suc x = one (suc y) h in omega (arith, same)))
  where
    at : (here : Bool) → is_prop o.prop (observed_prop b) ≡ here → first_of os o.prop ≡ o.reaction → first_of (b ∷ os) o.prop ≡ o.reaction
    at true f later = let first : 0 ≡ suc x = one 0 (prop_true o.prop (observed_prop b) f) in absurd (omega (arith, first))
    at false f later = rw f later

observed_again : (reaction : ℕ → ℕ) (os : List (Option Observation))
    → ((x : ℕ) (o : Observation) → slice_index_or os x None ≡ Some o → reaction o.prop ≡ o.reaction)
    → map (observation_by reaction) (map observed_prop os) ≡ os
observed_again reaction [] same = refl
observed_again reaction (None ∷ os) same = ap (λ (later : List (Option Observation)). None ∷ later) (observed_again reaction os (λ x o e. same (suc x) o e))
observed_again reaction (Some o ∷ os) same =
    ap (λ (n : ℕ). let first : Observation = record { prop = o.prop; reaction = n } in Some first ∷ map (observation_by reaction) (map observed_prop os))
    (same 0 o refl)
    ∙ ap (λ (later : List (Option Observation)). Some o ∷ later) (observed_again reaction os (λ x b e. same (suc x) b e))

timed_again : (p : Parts) → IsNetwork (network_of p) → timed_observations (network_of p) ≡ p.observes
timed_again p is =
    let os : List (Option Observation) = p.observes in
    observed_again (first_of os) os
    (λ x o e. reaction_at os x o e (λ y h. is.one_observer y x o.prop (record { what = h }) (record { what = prop_at os x ∙ ap observed_prop e })))

-- the parts of the network that parts make are these parts
pub parts_again : (p : Parts) → IsNetwork (network_of p) → parts (labelled_of p) p.names ≡ p
parts_again p is =
    ap (λ (os : List (Option Observation)). let q : Parts = record p { observes = os; constraints = map without_its_id (numbered_drawn 0 p.constraints) } in q)
    (timed_again p is)
    ∙ ap (λ (cs : List DrawnConstraint). let q : Parts = record p { constraints = cs } in q) (drawn_again 0 p.constraints)
