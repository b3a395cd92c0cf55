-- The recurrence as the code computes it.
use Rattle.std.proofs.Common.{ℕ, ◌≡◌, ◌+◌, ◌*◌, ◌/◌, ◌%◌, ◌^◌, ap}
use Rattle.std.proofs.Math.Nat.{mod-add-mod}
use Rattle.cstn_gen.specs.Draws.{next, number_below, drawn}

pub next_is : (x : ℕ) → (x * 6364136223846793005 % 2 ^ 64 + 1442695040888963407) % 2 ^ 64 ≡ next x
unfolding next
next_is x = mod-add-mod (x * 6364136223846793005) (2 ^ 64) 1442695040888963407

pub drawn_is : (m x : ℕ) → (x * 6364136223846793005 % 2 ^ 64 + 1442695040888963407) % 2 ^ 64 / 2 ^ 33 % m ≡ drawn 1 m x
unfolding number_below
drawn_is m x = ap (λ y. y / 2 ^ 33 % m) (next_is x)
