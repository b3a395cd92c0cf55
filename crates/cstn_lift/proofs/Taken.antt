-- A builder that was handed the lowered network of a labelled one.
use Rattle.std.proofs.Common.{ℕ, ◌≡◌, inl, inr, ◌<◌, ◌≤◌, None, List, length, arith, sym, ap, ◌∙◌}
use Rattle.std.specs.Prelude.{map, slice_index_or}
use Rattle.std.proofs.Math.Path.{fun_ext}
use Rattle.std.proofs.lemmas.Bool.{cases_lt}
use Rattle.std.proofs.lemmas.List.{length-map, take_all}
use Rattle.cstn_net.specs.Limits.{most_constraints}
use Rattle.cstn_net.specs.declared.points.TimePoint.{TimePoint}
use Rattle.cstn_net.specs.declared.errors.NetError.{NetError}
use Rattle.cstn_net.specs.declared.errors.NetError.TheVariants.{TooManyConstraints}
use Rattle.cstn_net.specs.Networks.{Network, IsWellFormed, count}
use Rattle.cstn_net.specs.Read.{NetworkParts, the_network, observed, reaction_of, the_constraint}
use Rattle.cstn_net.specs.Drafts.{BuilderParts, HasNetFault, IsNetRefusal, net_number, constraints_from}
use Rattle.cstn_net.specs.Handed.{IsHanded}
use Rattle.cstn_lift.specs.Labelled.{Labelled}
use Rattle.cstn_lift.specs.WellFormed.{IsLabelled}
use Rattle.cstn_lift.specs.Lowered.{lowered}
use Rattle.cstn_lift.specs.Handed.{HasPoints}
use Rattle.cstn_lift.proofs.Built.{reaction_told, reaction_untold}
use Rattle.cstn_lift.proofs.WellFormed.{lowered_well_formed}

module _ (net : NetworkParts) (points : List TimePoint) (has : HasPoints (the_network net) (count (the_network net)) points) where
  pub same_observes : map observed points ≡ (the_network net).observes
  same_observes = has.observes ∙ take_all (count (the_network net)) (the_network net).observes (omega arith)

  pub same_reaction : (p : ℕ) → reaction_of points p ≡ (the_network net).reaction p
  same_reaction p = reaction_told (the_network net).reaction points p has.reactions (λ none.
      reaction_untold net.points p (λ x e. none x (ap (λ os. slice_index_or os x None) same_observes ∙ e)))

-- a builder that is closed gives the lowered network
pub closed_is : (m : Labelled) (net n : NetworkParts) (b : BuilderParts) → m.base ≡ the_network net →
    HasPoints (the_network net) (count (the_network net)) b.points →
    b.deadline ≡ net.deadline → map the_constraint (constraints_from 0 b.drafts) ≡ (lowered m).constraints →
    n.deadline ≡ b.deadline → n.points ≡ b.points → n.constraints ≡ constraints_from 0 b.drafts → the_network n ≡ lowered m
closed_is m net n b base has deadline constraints n_deadline n_points n_constraints =
    let low = lowered m in
    let d : n.deadline ≡ low.deadline = n_deadline ∙ deadline ∙ sym (ap (λ k. k.deadline) base) in
    let o : map observed n.points ≡ low.observes = ap (map observed) n_points ∙ same_observes net b.points has ∙ sym (ap (λ k. k.observes) base) in
    let r : reaction_of n.points ≡ low.reaction = ap reaction_of n_points ∙ fun_ext (same_reaction net b.points has) ∙ sym (ap (λ k. k.reaction) base) in
    let c : map the_constraint n.constraints ≡ low.constraints = ap (map the_constraint) n_constraints ∙ constraints in
    ap (λ v. record { deadline = v; observes = map observed n.points; reaction = reaction_of n.points; constraints = map the_constraint n.constraints }) d
    ∙ ap (λ v. record { deadline = low.deadline; observes = v; reaction = reaction_of n.points; constraints = map the_constraint n.constraints }) o
    ∙ ap (λ v. record { deadline = low.deadline; observes = low.observes; reaction = v; constraints = map the_constraint n.constraints }) r
    ∙ ap (λ v. record { deadline = low.deadline; observes = low.observes; reaction = low.reaction; constraints = v }) c

-- A builder that was handed a well-formed network is refused only for want of memory. So one that was handed a lowered network
-- and is refused otherwise has too many constraints.
pub refused_long : ((b : BuilderParts) (net : Network) → IsWellFormed net → IsHanded b net → (e : NetError) → IsNetRefusal b e → net_number e ≡ 0) →
    (m : Labelled) → IsLabelled m → (b : BuilderParts) → b.deadline ≡ m.base.deadline → map observed b.points ≡ m.base.observes →
    ((p : ℕ) → reaction_of b.points p ≡ m.base.reaction p) → map the_constraint (constraints_from 0 b.drafts) ≡ (lowered m).constraints →
    (e : NetError) → IsNetRefusal b e → (net_number e ≡ 0 → ⊥) → most_constraints < length (lowered m).constraints
refused_long for_memory m good b deadline observes reaction constraints e refusal other = elim (cases_lt most_constraints (length (lowered m).constraints)) [
  | inl long ↦ long
  | inr few ↦ absurd (other (for_memory b (lowered m) (lowered_well_formed m good few) (record {
    deadline = deadline;
    observes = observes;
    reaction = reaction;
    constraints = constraints;
  }) e refusal))
]

-- a builder without a fault, which has a constraint for each draft, has at most 16,384 of them
pub closed_few : (m : Labelled) (b : BuilderParts) → length (constraints_from 0 b.drafts) ≡ length b.drafts → map the_constraint (constraints_from 0 b.drafts) ≡ (lowered m).constraints →
    ((e : NetError) → HasNetFault b e → ⊥) → length (lowered m).constraints ≤ most_constraints
closed_few m b long constraints faultless = elim (cases_lt most_constraints (length (lowered m).constraints)) [
  | inr few ↦ few
  | inl many ↦
      let same = ap length constraints in
      absurd (faultless TooManyConstraints (omega (arith, same, length-map (constraints_from 0 b.drafts) the_constraint, long)))
]
