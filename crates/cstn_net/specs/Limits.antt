-- The limits of networks, of their logs and of their edits.
use Rattle.std.specs.Prelude.{ℕ, ℤ, negsuc}

-- the most time-points of a network
abbrev pub most_time_points : ℕ
most_time_points = 1024

-- the most constraints of a network
abbrev pub most_constraints : ℕ
most_constraints = 16384

-- the greatest deadline, in ticks
abbrev pub most_deadline : ℕ
most_deadline = 1000000

-- the longest reaction, in ticks
abbrev pub most_reaction : ℕ
most_reaction = 1000

-- the greatest value of a constraint, in ticks
abbrev pub most_value : ℕ
most_value = 1000000000

-- the least value of a constraint, which is as far below 0
abbrev pub least_value : ℤ
least_value = negsuc 999999999

-- the most bounds that a log may have, which is the greatest load and the greatest cap
abbrev pub most_load : ℕ
most_load = 4194304

-- the most edits of a network that a session accepts
abbrev pub most_edits : ℕ
most_edits = 1000000
