-- What keeps a network and labels from being a labelled network.
use Rattle.std.specs.Prelude.{ℕ, List, ◌≢◌, ◌≡◌, ◌<◌, length}
use Rattle.cstn_label.specs.Labels.{Label, IsMarked, IsPlain, empty}
use Rattle.cstn_net.specs.Limits.{most_constraints}
use Rattle.cstn_net.specs.Networks.{Network, IsOnObserved, IsUnobserved, IsLeastUnobserved, Observes, count}
use Rattle.cstn_net.specs.Faults.{IsFirstBelow, IsLowestFault, IsRefusal}
use Rattle.cstn_lift.specs.declared.errors.LiftError.{LiftError}
use Rattle.cstn_lift.specs.declared.errors.LiftError.TheVariants.{OriginLabel, NotPlain, NotObserved, Circle, Never, TooManyConstraints, Memory}
use Rattle.cstn_lift.specs.Labelled.{Labelled, label_in, label_of}
use Rattle.cstn_lift.specs.Completion.{completed_label}
use Rattle.cstn_lift.specs.Lowered.{lowered}

-- the label names a proposition that nothing observes
abbrev pub NamesUnobserved : Network → Label → Type 0
NamesUnobserved net a = (p : ℕ) × IsUnobserved net a p

-- x observes a proposition that the label marks
abbrev pub ObservesMark : Network → Label → ℕ → Type 0
ObservesMark net a x = (p : ℕ) × Observes net x p × IsMarked a p

-- each of the labels of the network's time-points is plain
abbrev pub ArePlain : Network → List Label → Type 0
ArePlain net labels = (x : ℕ) → x < count net → IsPlain (label_in labels x)

-- x is the first time-point whose label isn't plain
abbrev pub IsFirstUnplain : Network → List Label → ℕ → Type 0
IsFirstUnplain net labels x = IsFirstBelow (count net) (λ y. IsPlain (label_in labels y) → ⊥) x

-- each of the labels names observed propositions alone
abbrev pub AreOnObserved : Network → List Label → Type 0
AreOnObserved net labels = (x : ℕ) → x < count net → IsOnObserved net (label_in labels x)

-- x is the first time-point whose label names a proposition that nothing observes, and p is the least such proposition
abbrev pub IsFirstUnobserved : Network → List Label → ℕ → ℕ → Type 0
IsFirstUnobserved net labels x p =
    IsFirstBelow (count net) (λ y. NamesUnobserved net (label_in labels y)) x × IsLeastUnobserved net (label_in labels x) p

-- no time-point observes what its label marks
abbrev pub AreInNoCircle : Network → List Label → Type 0
AreInNoCircle net labels = (x : ℕ) → x < count net → ObservesMark net (label_in labels x) x → ⊥

-- x is the first time-point that observes what its label marks
abbrev pub IsFirstInCircle : Network → List Label → ℕ → Type 0
IsFirstInCircle net labels x = IsFirstBelow (count net) (λ y. ObservesMark net (label_in labels y) y) x

-- the fault that each refusal names
abbrev pub HasLiftFault : Labelled → LiftError → Type 0
HasLiftFault m OriginLabel = label_of m 0 ≢ empty
HasLiftFault m (NotPlain node) = IsFirstUnplain m.base m.labels node.0
HasLiftFault m (NotObserved node prop) = IsFirstUnobserved m.base m.labels node.0 prop.index
HasLiftFault m (Circle node) = IsFirstBelow (count m.base) (λ x. ObservesMark m.base (completed_label m x) x) node.0
HasLiftFault m (Never node) = IsFirstBelow (count m.base) (λ x. IsPlain (completed_label m x) → ⊥) node.0
HasLiftFault m TooManyConstraints = most_constraints < length (lowered m).constraints
HasLiftFault m (Memory e) = ⊥

-- the number of a refusal, and 0 for want of memory
abbrev pub lift_number : LiftError → ℕ
lift_number (Memory e) = 0
lift_number OriginLabel = 1
lift_number (NotPlain node) = 2
lift_number (NotObserved node prop) = 3
lift_number (Circle node) = 4
lift_number (Never node) = 5
lift_number TooManyConstraints = 6

-- the fault that the lowered network has too many constraints, which it has
abbrev pub IsTooMany : Labelled → LiftError → Type 0
IsTooMany m e = (e ≡ TooManyConstraints) × (most_constraints < length (lowered m).constraints)

-- there is this fault, and none with a lower number
abbrev pub IsLowestLiftFault : Labelled → LiftError → Type 0
IsLowestLiftFault m e = IsLowestFault (HasLiftFault m) lift_number e

-- want of memory, or the lowest fault
abbrev pub IsLiftRefusal : Labelled → LiftError → Type 0
IsLiftRefusal m e = IsRefusal (HasLiftFault m) lift_number e

-- labels without the faults of L1 to L3
pub record HasGoodLabels (m : Labelled) : Type 0 where
  pub origin : label_of m 0 ≡ empty
  pub plain : ArePlain m.base m.labels
  pub observed : AreOnObserved m.base m.labels
