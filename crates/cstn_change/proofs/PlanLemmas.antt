-- Copies of a network with other constraints, and labelled networks with these.
use Rattle.std.proofs.Common.{ℕ, ◌≡◌, ◌≢◌, ◌+◌, ◌<◌, ◌≤◌, inl, inr, List, [], ◌∷◌, ◌++◌, Option, None, Some, length, map, refl, ap, sym, subst, ◌∙◌}
use Rattle.std.specs.Prelude.{ℤ, ◌↔◌, IsNone, IfNone, IfSome}
use Rattle.std.specs.List.{All}
use Rattle.std.proofs.lemmas.Bool.{cases_lt}
use Rattle.std.proofs.lemmas.List.{map-append}
use Rattle.cstn_label.specs.declared.labels.Label.{Label as Words}
use Rattle.cstn_label.specs.Labels.{Label, IsPlain}
use Rattle.cstn_label.specs.Read.{marks}
use Rattle.cstn_net.specs.Limits.{most_constraints}
use Rattle.cstn_net.specs.declared.constraints.Constraint.{Constraint}
use Rattle.cstn_net.specs.declared.points.TimePoint.{TimePoint}
use Rattle.cstn_net.specs.Networks.{Constraint as TheConstraint, IsWellFormed}
use Rattle.cstn_net.specs.Read.{NetworkParts, the_network, the_constraint, observed, reaction_of, without_id, with_most}
use Rattle.cstn_lift.specs.declared.errors.LiftError.{LiftError}
use Rattle.cstn_lift.specs.Faults.{HasLiftFault, IsLiftRefusal, lift_number}
use Rattle.cstn_lift.specs.Labelled.{Labelled, label_of}
use Rattle.cstn_lift.specs.Lowered.{lowered}
use Rattle.cstn_lift.specs.Read.{LabelledParts, the_labelled, with_labels}
use Rattle.cstn_lift.specs.WellFormed.{IsLabelled}
use Rattle.cstn_history.specs.Histories.{edited}
use Rattle.cstn_history.proofs.Edited.{completed_new}
use Rattle.cstn_change.specs.Changes.{constraints_without, with_value}
use Rattle.cstn_change.specs.Read.{OnlyConstraintsDiffer}
use Rattle.cstn_change.proofs.IdLemmas.{without_seen, without_none, with_most_seen}

-- ---- labelled networks

-- a network with the same time-points, with the same labels, is the labelled network as edited
pub relabelled_is : (m : LabelledParts) (net : NetworkParts) (labels : List Words) → net.points ≡ m.base.points → map marks labels ≡ map marks m.labels
    → with_labels net labels ≡ edited (the_labelled m) net.deadline (the_network net).constraints
relabelled_is m net labels points same =
    ap (labelled_on net.points) same ∙ ap (λ (ps : List TimePoint). labelled_on ps (map marks m.labels)) points
  where
    labelled_on : List TimePoint → List Label → Labelled
    labelled_on points labels = record {
      base = record {
        deadline = net.deadline;
        observes = map observed points;
        reaction = reaction_of points;
        constraints = map the_constraint net.constraints;
      };
      labels = labels;
    }

-- labels that were in order are so with other constraints and another deadline
pub edited_labelled : (m : Labelled) (deadline : ℕ) (cs : List TheConstraint) → IsLabelled m → IsWellFormed (edited m deadline cs).base → IsLabelled (edited m deadline cs)
edited_labelled m deadline cs good wf = record {
  base = wf;
  one_each = good.one_each;
  origin = good.origin;
  plain = good.plain;
  observed = λ x here p marked. let o = good.observed x here p marked in (o.0, record { what = o.1.what });
  no_circle = λ x p o. ap (λ (a : Label). a p) (completed_new m deadline cs (label_of m x)) ∙ good.no_circle x p (record { what = o.what });
  completed_plain = λ x here. subst IsPlain (sym (completed_new m deadline cs (label_of m x))) (good.completed_plain x here);
}

-- where a labelled network in order can't be lifted, there are too many constraints
pub lift_many : ((m : Labelled) (e : LiftError) → IsLabelled m → length (lowered m).constraints ≤ most_constraints → HasLiftFault m e → ⊥)
    → (m : Labelled) (e : LiftError) → IsLabelled m → (lift_number e ≡ 0 → ⊥) → IsLiftRefusal m e → most_constraints < length (lowered m).constraints
lift_many never m e good other (inl memory) = absurd (other memory)
lift_many never m e good other (inr lowest) = elim (cases_lt most_constraints (length (lowered m).constraints)) [
  | inl many ↦ many
  | inr few ↦ absurd (never m e good few lowest.has)
]

-- ---- copies of networks

-- one constraint more
pub constraint_added : (old new : NetworkParts) (c : Constraint) (spare : ℕ) → new ≡ record old { constraints = old.constraints ++ c ∷ []; spare = spare }
    → OnlyConstraintsDiffer old new ((the_network old).constraints ++ the_constraint c ∷ [])
constraint_added old new c spare is = record {
  points = ap (λ (n : NetworkParts). n.points) is;
  deadline = ap (λ (n : NetworkParts). n.deadline) is;
  constraints = ap (λ (n : NetworkParts). (the_network n).constraints) is ∙ map-append the_constraint old.constraints (c ∷ []);
}

pub constraint_taken : (old new : NetworkParts) (id : ℕ) (o : Option Constraint) → IsNone o ↔ All (λ c. c.id ≢ id) old.constraints → IfNone o (new ≡ old)
    → IfSome o (λ c. new ≡ record old { constraints = without_id id old.constraints; spare = old.spare + 1 })
    → OnlyConstraintsDiffer old new (constraints_without id (the_network old).constraints)
constraint_taken old new id None none same gone = record {
  points = ap (λ (n : NetworkParts). n.points) same;
  deadline = ap (λ (n : NetworkParts). n.deadline) same;
  constraints = ap (λ (n : NetworkParts). (the_network n).constraints) same
      ∙ without_none id old.constraints (none.0 refl);
}
constraint_taken old new id (Some c) none same gone = record {
  points = ap (λ (n : NetworkParts). n.points) gone;
  deadline = ap (λ (n : NetworkParts). n.deadline) gone;
  constraints = ap (λ (n : NetworkParts). (the_network n).constraints) gone ∙ without_seen id old.constraints;
}

pub value_changed : (old new : NetworkParts) (id : ℕ) (most : ℤ) → new ≡ record old { constraints = map (with_most id most) old.constraints }
    → OnlyConstraintsDiffer old new (map (with_value id most) (the_network old).constraints)
value_changed old new id most is = record {
  points = ap (λ (n : NetworkParts). n.points) is;
  deadline = ap (λ (n : NetworkParts). n.deadline) is;
  constraints = ap (λ (n : NetworkParts). (the_network n).constraints) is ∙ with_most_seen id most old.constraints;
}

-- what is edited of a copy is edited of the network
pub copy_edited : (old copy new : NetworkParts) (cs : List TheConstraint → List TheConstraint) (spare : ℕ) → copy ≡ record old { spare = spare }
    → OnlyConstraintsDiffer copy new (cs (the_network copy).constraints) → OnlyConstraintsDiffer old new (cs (the_network old).constraints)
copy_edited old copy new cs spare is edited = record {
  points = edited.points ∙ ap (λ (n : NetworkParts). n.points) is;
  deadline = edited.deadline ∙ ap (λ (n : NetworkParts). n.deadline) is;
  constraints = edited.constraints ∙ ap (λ (n : NetworkParts). cs (the_network n).constraints) is;
}
