-- Parts make one labelled network or have one lowest fault: what builders of the same parts hold has the same faults.
use Rattle.std.proofs.Common.{◌≡◌, ℕ, ◌<◌, ◌≤◌, List, length, map, get_or, refl, ap, sym, ◌∙◌, subst, arith, Option, Some, None}
use Rattle.std.specs.Prelude.{IsSome, option_map}
use Rattle.std.specs.List.{HoldsAt}
use Rattle.std.proofs.lemmas.List.{length-map, get_or-map}
use Rattle.cstn_label.specs.Labels.{IsPlain}
use Rattle.cstn_label.specs.Read.{marks}
use Rattle.cstn_label.specs.declared.props.Prop.{Prop}
use Rattle.cstn_net.specs.Limits.{most_reaction}
use Rattle.cstn_net.specs.declared.drafts.Draft.{Draft}
use Rattle.cstn_net.specs.declared.points.TimePoint.{TimePoint}
use Rattle.cstn_net.specs.declared.errors.NetError.{NetError}
use Rattle.cstn_net.specs.declared.errors.NetError.TheVariants.{TooManyNodes, NoOrigin, TooManyConstraints, DeadlineRange, ValueRange, NotObserved, TwoObservers, NotPlain, ReactionRange, Memory}
use Rattle.cstn_net.specs.Faults.{IsFirst}
use Rattle.cstn_net.specs.Networks.{IsValue, IsWellFormed}
use Rattle.cstn_net.specs.Drafts.{BuilderParts, HasReaction, IsLeastOfFirst, LacksObserver, AreFirstTwins, HasNetFault, IsLowestNetFault, observations}
use Rattle.cstn_net.proofs.HandedLemmas.{no_fault}
use Rattle.cstn_net.specs.Read.{first_reaction}
use Rattle.cstn_graphml.specs.Document.{Parts}
use Rattle.cstn_graphml.specs.DrawnGraph.{Observation, observation, DrawnConstraint}
use Rattle.cstn_graphml.specs.DrawnGraphLaws.{IsWithReaction}
use Rattle.cstn_graphml.specs.Networks.{HasParts, IsUnfit, network_of, numbered_drawn, observed_prop, observation_of, drawn_of, observed_reaction}
use Rattle.cstn_graphml.proofs.Built.{props_kept, reactions_kept, made_constraints}

-- parts that make a well-formed network have no fault
pub fits : (parts : Parts) (error : NetError) → IsWellFormed (network_of parts) → IsUnfit parts error → ⊥
fits parts error good unfit =
    no_fault unfit.builder (network_of parts) good
    (record {
      deadline = unfit.parts_are.deadline;
      observes = props_kept unfit.builder.points ∙ ap (map observed_prop) unfit.parts_are.observes;
      reaction = λ p. reactions_kept unfit.builder.points p ∙ ap (λ os. first_reaction observed_prop observed_reaction os p) unfit.parts_are.observes;
      constraints = made_constraints 0 unfit.builder.drafts ∙ ap (numbered_drawn 0) unfit.parts_are.constraints;
    })
    error unfit.fault.has

-- lists with the same images are as long
alike_length : {X Z : Type 0} (f : X → Z) (xs ys : List X) → map f xs ≡ map f ys → length xs ≡ length ys
alike_length f xs ys same = sym (length-map xs f) ∙ ap length same ∙ length-map ys f

-- what holds of the image of an element holds of the image at the same place
holds_alike : {X Z : Type 0} (f : X → Z) (Q : Z → Type 0) (xs ys : List X) → map f xs ≡ map f ys → (k : ℕ) → k < length xs → HoldsAt (λ x. Q (f x)) xs k → HoldsAt (λ x. Q (f x)) ys k
holds_alike f Q xs ys same k inside holds = λ d.
    let there : k < length ys = omega (arith, alike_length f xs ys same) in
    subst Q (sym (get_or-map f xs k d (f d) inside) ∙ ap (λ zs. get_or zs k (f d)) same ∙ get_or-map f ys k d (f d) there) (holds d)

-- lists with the same images have the same first place
first_alike : {X Z : Type 0} (f : X → Z) (Q : Z → Type 0) (xs ys : List X) (k : ℕ) → map f xs ≡ map f ys → IsFirst (λ x. Q (f x)) xs k → IsFirst (λ x. Q (f x)) ys k
first_alike f Q xs ys k same first =
    let inside = first.inside in
    let as_long = alike_length f xs ys same in
    record {
      inside = omega (arith, inside, as_long);
      here = holds_alike f Q xs ys same k inside first.here;
      before = λ j below holds. first.before j below (holds_alike f Q ys xs (sym same) j (omega (arith, below, inside, as_long)) holds);
    }

least_alike : {X Z : Type 0} (f : X → Z) (Q : ℕ → Z → Type 0) (xs ys : List X) (p : ℕ) → map f xs ≡ map f ys → IsLeastOfFirst (λ q x. Q q (f x)) xs p → IsLeastOfFirst (λ q x. Q q (f x)) ys p
least_alike f Q xs ys p same h = record {
  place = h.place;
  first = first_alike f (λ z. (q : ℕ) × Q q z) xs ys h.place same h.first;
  has = holds_alike f (Q p) xs ys same h.place h.first.inside h.has;
  least = λ q below. holds_alike f (λ z. Q q z → ⊥) xs ys same h.place h.first.inside (h.least q below);
}

-- facts that imply each other have the same first place
first_as : {X : Type 0} (P Q : X → Type 0) (xs : List X) (k : ℕ) → ((x : X) → P x → Q x) → ((x : X) → Q x → P x) → IsFirst P xs k → IsFirst Q xs k
first_as P Q xs k there back first = record {
  inside = first.inside;
  here = λ d. there _ (first.here d);
  before = λ j below holds. first.before j below (λ d. back _ (holds d));
}

timely_by : (o : Option Prop) (ticks : ℕ) → (IsSome o → (0 < ticks) × (ticks ≤ most_reaction)) → IsWithReaction (observation (option_map (λ p. p.index) o) ticks)
timely_by (Some p) ticks h = h refl
timely_by None ticks h = tt

pub timely_back : (o : Option Prop) (ticks : ℕ) → IsWithReaction (observation (option_map (λ p. p.index) o) ticks) → IsSome o → (0 < ticks) × (ticks ≤ most_reaction)
timely_back (Some p) ticks h = λ some. h
timely_back None ticks h = λ some. absurd (cc)

-- Two builders that were handed the same parts.
module _ (b c : BuilderParts) (parts : Parts) (one : HasParts b parts) (other : HasParts c parts) where
  same_points : map observation_of b.points ≡ map observation_of c.points
  same_points = one.observes ∙ sym other.observes

  same_drafts : map drawn_of b.drafts ≡ map drawn_of c.drafts
  same_drafts = one.constraints ∙ sym other.constraints

  same_props : observations b ≡ observations c
  same_props = props_kept b.points ∙ ap (map observed_prop) same_points ∙ sym (props_kept c.points)

  same_deadline : b.deadline ≡ c.deadline
  same_deadline = one.deadline ∙ sym other.deadline

  -- they have the same faults
  pub fault_alike : (e : NetError) → HasNetFault b e → HasNetFault c e
  fault_alike TooManyNodes h = omega (arith, h, alike_length observation_of b.points c.points same_points)
  fault_alike NoOrigin h = sym (alike_length observation_of b.points c.points same_points) ∙ h
  fault_alike TooManyConstraints h = omega (arith, h, alike_length drawn_of b.drafts c.drafts same_drafts)
  fault_alike (DeadlineRange deadline) h = (h.0 ∙ same_deadline, omega (arith, h.1, same_deadline))
  fault_alike (ValueRange constraint) h = first_alike drawn_of (λ (d : DrawnConstraint). IsValue d.most → ⊥) b.drafts c.drafts constraint same_drafts h
  fault_alike (NotObserved prop) h =
      least_alike drawn_of (λ q (d : DrawnConstraint). LacksObserver (observations c) d.label q) b.drafts c.drafts prop.index same_drafts
      (subst (λ (os : List (Option ℕ)). IsLeastOfFirst (λ q (d : Draft). LacksObserver os (marks d.label) q) b.drafts prop.index) same_props h)
  fault_alike (TwoObservers prop first second) h = subst (λ (os : List (Option ℕ)). AreFirstTwins os prop.index first.0 second.0) same_props h
  fault_alike (NotPlain constraint) h = first_alike drawn_of (λ (d : DrawnConstraint). IsPlain d.label → ⊥) b.drafts c.drafts constraint same_drafts h
  fault_alike (ReactionRange node) h =
      first_as (λ (t : TimePoint). IsWithReaction (observation_of t) → ⊥) (λ (t : TimePoint). HasReaction t → ⊥) c.points node.0
      (λ t late timely. late (timely_by t.observes t.reaction timely)) (λ t late timely. late (timely_back t.observes t.reaction timely))
      (first_alike observation_of (λ (o : Option Observation). IsWithReaction o → ⊥) b.points c.points node.0 same_points
      (first_as (λ (t : TimePoint). HasReaction t → ⊥) (λ (t : TimePoint). IsWithReaction (observation_of t) → ⊥) b.points node.0
      (λ t late timely. late (timely_back t.observes t.reaction timely)) (λ t late timely. late (timely_by t.observes t.reaction timely)) h))
  fault_alike (Memory e) h = h

-- parts have one lowest fault at most
pub one_unfit : ((b : BuilderParts) (e f : NetError) → IsLowestNetFault b e → IsLowestNetFault b f → e ≡ f) → (parts : Parts) (e f : NetError) → IsUnfit parts e → IsUnfit parts f → e ≡ f
one_unfit law parts e f one other =
    law other.builder e f
    (record {
      has = fault_alike one.builder other.builder parts one.parts_are other.parts_are e one.fault.has;
      lowest = λ g has. one.fault.lowest g (fault_alike other.builder one.builder parts other.parts_are one.parts_are g has);
    })
    other.fault
