-- The limits of steps.
use Rattle.std.specs.Prelude.{ℕ, ◌+◌}
use Rattle.cstn_net.specs.Limits.{most_deadline}

-- the greatest least value of a step: one tick past the greatest deadline
abbrev pub most_least : ℕ
most_least = most_deadline + 1
