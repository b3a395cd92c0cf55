-- Constraints that are put in behind those of a network, one after the other.
use Rattle.std.proofs.Common.{ℕ, ◌≡◌, ◌+◌, ◌<◌, ◌++◌, List, None, length, take, arith, sym, subst, ap, ◌∙◌}
use Rattle.std.specs.Prelude.{map, slice_index_or}
use Rattle.std.specs.List.{All, Contains}
use Rattle.std.proofs.Math.Seq.{take-append-add}
use Rattle.std.proofs.lemmas.List.{length-map, length-append, length-take-le, get_or-append-add, get_or-take, get_or-map}
use Rattle.std.proofs.lemmas.List.Elements.{All-contains, All-from_get_or}
use Rattle.cstn_net.specs.Limits.{most_constraints}
use Rattle.cstn_net.specs.declared.constraints.Constraint.{Constraint}
use Rattle.cstn_net.specs.Networks.{Network, Constraint as TheConstraint, IsConstraint, IsValue, AreConstraintsFor}
use Rattle.cstn_net.specs.Read.{NetworkParts, the_network, the_constraint, observed}

-- a constraint of a network is one of each that observes the same
pub same_constraint : (a b : Network) (d : TheConstraint) → a.observes ≡ b.observes → IsConstraint b d → IsConstraint a d
same_constraint a b d same fits =
    let long = ap length same in
    let from = fits.from in
    let to = fits.to in
    record {
      from = omega arith;
      to = omega arith;
      plain = fits.plain;
      observed = λ p marked. let o = fits.observed p marked in (o.0, record { what = ap (λ os. slice_index_or os o.0 None) same ∙ o.1.what });
    }

module _ (net : NetworkParts) (more : List Constraint) (fit : AreConstraintsFor (the_network net) (map the_constraint (net.constraints ++ more)))
    (now : NetworkParts) (i : ℕ) (c : Constraint) (inside : i < length more) (is : c ≡ slice_index_or more i c)
    (so_far : now.constraints ≡ net.constraints ++ take i more) (points : now.points ≡ net.points) where
  abbrev all : List Constraint
  all = net.constraints ++ more

  abbrev place : ℕ
  place = length net.constraints + i

  place_inside : place < length all
  place_inside = let long = length-append net.constraints more in omega arith

  there : slice_index_or all place c ≡ c
  there = get_or-append-add net.constraints more i c ∙ sym is

  mapped_there : slice_index_or (map the_constraint all) place (the_constraint c) ≡ the_constraint c
  mapped_there = get_or-map the_constraint all place c (the_constraint c) place_inside ∙ ap the_constraint there

  has : Contains (map the_constraint all) (the_constraint c)
  has = (place, (let long = length-map all the_constraint in let in_all = place_inside in omega arith), mapped_there)

  same_observes : map observed now.points ≡ map observed net.points
  same_observes = ap (map observed) points

  pub constraint_fits : IsConstraint (the_network now) (the_constraint c)
  constraint_fits =
      same_constraint (the_network now) (the_network net) (the_constraint c) same_observes
      (All-contains (IsConstraint (the_network net)) (map the_constraint all) (the_constraint c) fit.each has)

  pub value_fits : IsValue c.most
  value_fits = All-contains (λ d. IsValue d.most) (map the_constraint all) (the_constraint c) fit.values has

  pub so_many : length now.constraints ≡ place
  so_many = ap length so_far ∙ length-append net.constraints (take i more) ∙ ap (λ n. length net.constraints + n) (length-take-le i more (omega arith))

  pub few_so_far : length now.constraints < most_constraints
  few_so_far = let at = so_many in let long = length-map all the_constraint in let few = fit.few in let in_all = place_inside in omega arith

  -- the constraint at an earlier place has a lower id
  below : (j : ℕ) → j < place → (slice_index_or (net.constraints ++ take i more) j c).id < c.id
  below j before =
      let long = length-map all the_constraint in
      let in_all = place_inside in
      let pair = fit.ascending j place (the_constraint c) before (omega arith) in
      let left : slice_index_or (map the_constraint all) j (the_constraint c) ≡ the_constraint (slice_index_or (net.constraints ++ take i more) j c) =
      get_or-map the_constraint all j c (the_constraint c) (omega arith)
      ∙ ap the_constraint (sym (get_or-take place all j c before) ∙ ap (λ l. slice_index_or l j c) (take-append-add net.constraints more i)) in
      subst (λ (d : TheConstraint). d.id < c.id) left
      (subst (λ (d : TheConstraint). (slice_index_or (map the_constraint all) j (the_constraint c)).id < d.id) mapped_there pair)

  pub all_below : All (λ d. d.id < c.id) now.constraints
  all_below = subst (All (λ d. d.id < c.id)) (sym so_far) (All-from_get_or (λ d. d.id < c.id) (net.constraints ++ take i more) c (λ j before.
      below j (let at = so_many in let long = ap length so_far in omega arith)))
