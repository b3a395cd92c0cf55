-- The limits of plans in sentences.
use Rattle.std.specs.Prelude.{ℕ}

-- the most bytes of a plan
abbrev pub most_plan : ℕ
most_plan = 8388608

-- the most bytes of a line
abbrev pub most_line : ℕ
most_line = 4096

-- the most ticks of a number
abbrev pub most_ticks : ℕ
most_ticks = 1000000000

-- the most bytes of a task's name
abbrev pub most_task : ℕ
most_task = 60

-- the minutes of a day
abbrev pub day : ℕ
day = 1440
