-- Labelled networks at other deadlines.
use Rattle.std.specs.Prelude.{ℕ, ◌≡◌, ◌⊎◌, ◌-◌}
use Rattle.cstn_lift.specs.Labelled.{Labelled}
use Rattle.cstn_lift.specs.Strategies.{IsLabelledConsistent}
use Rattle.cstn_tight.specs.Deadlines.{at_deadline}

-- the labelled network with the deadline h, and all else the same
abbrev pub labelled_at : Labelled → ℕ → Labelled
labelled_at m h = record m { base = at_deadline m.base h }

-- the labelled network is consistent at h, and isn't at one tick less, unless h is 0
pub record IsLabelledLeastDeadline (m : Labelled) (h : ℕ) : Type 0 where
  pub consistent : IsLabelledConsistent (labelled_at m h)
  pub least : (h ≡ 0) ⊎ (IsLabelledConsistent (labelled_at m (h - 1)) → ⊥)
