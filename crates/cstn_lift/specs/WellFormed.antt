-- When the labels of time-points are in order.
use Rattle.std.specs.Prelude.{ℕ, ◌≡◌, ◌<◌, length}
use Rattle.cstn_label.specs.declared.marks.Mark.TheVariants.{Absent}
use Rattle.cstn_label.specs.Labels.{IsPlain, empty}
use Rattle.cstn_net.specs.Networks.{IsWellFormed, IsOnObserved, Observes, count}
use Rattle.cstn_lift.specs.Labelled.{Labelled, label_of}
use Rattle.cstn_lift.specs.Completion.{completed_label}

-- A labelled network: each time-point has a plain label that names observed propositions alone, and that of the origin is
-- empty. Each completed label is plain, and that of an observer doesn't mark what it observes.
pub record IsLabelled (m : Labelled) : Type 0 where
  pub base : IsWellFormed m.base
  pub one_each : length m.labels ≡ count m.base
  pub origin : label_of m 0 ≡ empty
  pub plain : (x : ℕ) → x < count m.base → IsPlain (label_of m x)
  pub observed : (x : ℕ) → x < count m.base → IsOnObserved m.base (label_of m x)
  pub no_circle : (x p : ℕ) → Observes m.base x p → completed_label m x p ≡ Absent
  pub completed_plain : (x : ℕ) → x < count m.base → IsPlain (completed_label m x)
