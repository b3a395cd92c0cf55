-- Until when a time-point can wait, by halving.
use Rattle.std.specs.Prelude.{ℕ, ◌+◌, ◌<◌, Bool, length, Option, pos, ◌-ℤ◌}
use Rattle.std.specs.List.{All}
use Rattle.cstn_net.specs.Limits.{most_constraints}
use Rattle.cstn_net.specs.Networks.{Constraint, count}
use Rattle.cstn_check.specs.Needs.{said}
use Rattle.cstn_check.specs.Search.{halving}
use Rattle.cstn_lift.specs.Labelled.{Labelled}
use Rattle.cstn_lift.specs.Lowered.{lowered}
use Rattle.cstn_lift.specs.WellFormed.{IsLabelled}
use Rattle.cstn_history.specs.Histories.{History}
use Rattle.cstn_history.specs.Rest.{number_left, bare, rest, with_constraint}
use Rattle.cstn_follow.specs.declared.errors.WaitError.{WaitError}
use Rattle.cstn_follow.specs.declared.errors.WaitError.TheVariants.{TooManyConstraints, Full, Memory}

-- the time-point with the number k is at t or later; the id is above all ids of what is left, in which what was added has ids from
-- `fresh` on
abbrev pub waiting_one : ℕ → ℕ → ℕ → Constraint
waiting_one fresh k t = record (bare k 0 (pos 0 -ℤ pos t)) { id = fresh + most_constraints }

-- what is left, in which x is at t or later
abbrev pub rest_until : Labelled → History → ℕ → ℕ → ℕ → Labelled
rest_until m h fresh x t = with_constraint (rest m h fresh) (waiting_one fresh (number_left m h x) t)

-- what is left, and its lowered network, has room for one constraint more
pub record HasRoomToWait (m : Labelled) (h : History) (fresh : ℕ) : Type 0 where
  pub base : length (rest m h fresh).base.constraints < most_constraints
  pub lowered : length (lowered (rest m h fresh)).constraints < most_constraints

-- a labelled network that takes the constraint by which the time-point with the number k waits
pub record TakesWaiting (m : Labelled) (fresh k : ℕ) : Type 0 where
  pub labelled : IsLabelled m
  pub inside : k < count m.base
  pub below : All (λ c. c.id < fresh + most_constraints) m.base.constraints
  pub base : length m.base.constraints < most_constraints
  pub lowered : length (lowered m).constraints < most_constraints

-- what is said of a labelled network in which the time-point with the number k is at t or later
abbrev pub said_until : Labelled → ℕ → ℕ → ℕ → ℕ → Option Bool
said_until m fresh k cap t = said cap (lowered (with_constraint m (waiting_one fresh k t)))

-- what is said of what is left with x at t or later
abbrev pub tried_until : Labelled → History → ℕ → ℕ → ℕ → ℕ → Option Bool
tried_until m h fresh x cap t = said_until (rest m h fresh) fresh (number_left m h x) cap t

-- until when x can wait, from now up to the deadline, by at most 20 tries; none where a log that was tried is full
abbrev pub waits_until : Labelled → History → ℕ → ℕ → ℕ → Option ℕ
waits_until m h fresh x cap = halving (tried_until m h fresh x cap) 20 (record { low = h.now; high = m.base.deadline })

-- the number of a refusal, and 0 for want of memory
abbrev pub wait_number : WaitError → ℕ
wait_number (Memory e) = 0
wait_number Full = 1
wait_number TooManyConstraints = 8
