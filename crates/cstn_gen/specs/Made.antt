-- What a builder holds on the way to a network.
use Rattle.std.specs.Prelude.{ℕ, ◌≡◌, List, ◌∷◌, None, map}
use Rattle.std.specs.List.{All, range_with_len}
use Rattle.cstn_net.specs.declared.points.TimePoint.{TimePoint}
use Rattle.cstn_net.specs.declared.drafts.Draft.{Draft}
use Rattle.cstn_net.specs.Read.{observed, the_constraint}
use Rattle.cstn_net.specs.Drafts.{constraints_from}
use Rattle.cstn_gen.specs.Generated.{observed_by, props_of, constraint_at}

-- the origin and the first n time-points after it
pub record HasDrawnPoints (size n : ℕ) (points : List TimePoint) : Type 0 where
  pub observes : map observed points ≡ None ∷ map (observed_by (props_of size)) (range_with_len 0 n)
  pub prompt : All (λ t. t.reaction ≡ 1) points

-- the first n constraints
abbrev pub HasDrawnConstraints : ℕ → ℕ → ℕ → List Draft → Type 0
HasDrawnConstraints number size n drafts =
    map the_constraint (constraints_from 0 drafts) ≡ map (constraint_at number size) (range_with_len 0 n)
