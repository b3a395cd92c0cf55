-- Numbers drawn by a linear recurrence.
use Rattle.std.specs.Prelude.{ℕ, zero, suc, ◌+◌, ◌*◌, ◌%◌, ◌/◌, ◌^◌}

-- the state that follows the state x
unfoldable pub next : ℕ → ℕ
next x = (x * 6364136223846793005 + 1442695040888963407) % 2 ^ 64

-- the number below m that a state gives, by its upper bits
unfoldable pub number_below : ℕ → ℕ → ℕ
number_below m x = x / 2 ^ 33 % m

-- the state n steps after x
abbrev pub nth_state : ℕ → ℕ → ℕ
nth_state zero x = x
nth_state (suc n) x = next (nth_state n x)

-- the n-th number below m that is drawn from a state
abbrev pub drawn : ℕ → ℕ → ℕ → ℕ
drawn n m x = number_below m (nth_state n x)
