-- The limits of trees.
use Rattle.std.specs.Prelude.{ℕ}

-- the most observed propositions of a network whose tree is told
abbrev pub most_observed : ℕ
most_observed = 10
