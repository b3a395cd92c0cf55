-- Labels have at most one lowest fault.
use Rattle.std.proofs.Common.{ℕ, ◌≡◌, refl, sym, subst, arith}
use Rattle.cstn_label.specs.declared.nodes.NodeId.{NodeId}
use Rattle.cstn_label.specs.declared.props.Prop.{Prop}
use Rattle.cstn_label.specs.Labels.{IsPlain}
use Rattle.cstn_net.specs.Networks.{IsUnobserved, IsLeastUnobserved, count}
use Rattle.cstn_net.specs.Faults.{IsFirstBelow}
use Rattle.cstn_net.proofs.Same.{same_prop, same_node}
use Rattle.cstn_net.proofs.Lowest.{first_once, least_once, lowest_once}
use Rattle.cstn_lift.specs.declared.errors.LiftError.{LiftError}
use Rattle.cstn_lift.specs.declared.errors.LiftError.TheVariants.{OriginLabel, NotPlain, NotObserved, Circle, Never, TooManyConstraints, Memory}
use Rattle.cstn_lift.specs.Labelled.{Labelled, label_of}
use Rattle.cstn_lift.specs.Completion.{completed_label}
use Rattle.cstn_lift.specs.Faults.{NamesUnobserved, ObservesMark, HasLiftFault, IsLowestLiftFault, lift_number}

module _ (m : Labelled) where
  first_node : (P : ℕ → Type 0) (x y : NodeId) → IsFirstBelow (count m.base) P x.0 → IsFirstBelow (count m.base) P y.0 → x ≡ y
  first_node P x y one other = same_node x y (first_once (count m.base) P x.0 y.0 one other)

  least_prop : (x y : NodeId) (p q : Prop) → x ≡ y → IsLeastUnobserved m.base (label_of m x.0) p.index →
      IsLeastUnobserved m.base (label_of m y.0) q.index → p ≡ q
  least_prop x y p q same one other =
      let there = subst (λ (z : NodeId). IsLeastUnobserved m.base (label_of m z.0) q.index) (sym same) other in
      same_prop p q (least_once (IsUnobserved m.base (label_of m x.0)) p.index q.index one.0 one.1 there.0 there.1)

  -- two faults with one number are one
  one_by_number : (e f : LiftError) → HasLiftFault m e → HasLiftFault m f → lift_number e ≡ lift_number f → e ≡ f
  one_by_number OriginLabel OriginLabel one other same = refl
  one_by_number (NotPlain x) (NotPlain y) one other same =
      let e = first_node (λ z. IsPlain (label_of m z) → ⊥) x y one other in cc
  one_by_number (NotObserved x p) (NotObserved y q) one other same =
      let e = first_node (λ z. NamesUnobserved m.base (label_of m z)) x y one.0 other.0 in
      let d = least_prop x y p q e one.1 other.1 in
      cc
  one_by_number (Circle x) (Circle y) one other same =
      let e = first_node (λ z. ObservesMark m.base (completed_label m z) z) x y one other in cc
  one_by_number (Never x) (Never y) one other same =
      let e = first_node (λ z. IsPlain (completed_label m z) → ⊥) x y one other in cc
  one_by_number TooManyConstraints TooManyConstraints one other same = refl
  one_by_number (Memory d) f one other same = absurd one
  one_by_number e (Memory d) one other same = absurd other
  one_by_number e f one other same = absurd (omega arith)

  pub one_lowest : (e f : LiftError) → IsLowestLiftFault m e → IsLowestLiftFault m f → e ≡ f
  one_lowest e f one other = lowest_once (HasLiftFault m) lift_number one_by_number e f one other
