-- The limits of time-points.
use Rattle.std.specs.Prelude.{ℕ}

-- how many ids of time-points there are
abbrev pub most_ids : ℕ
most_ids = 65536
