-- A value in range fits an integer of 32 bits.
use Rattle.std.proofs.Common.{ℕ, ◌<◌, arith}
use Rattle.std.specs.Prelude.{ℤ, pos, negsuc, ◌≤ℤ◌, ◌^◌, FitsSigned}
use Rattle.std.specs.Int.{w32}
use Rattle.std.proofs.lemmas.Int.{ints}
use Rattle.cstn_net.specs.Limits.{most_value, least_value}
use Rattle.cstn_net.specs.Networks.{IsValue}

below_top : (n : ℕ) → pos n ≤ℤ pos most_value → n < 2 ^ 31
below_top n h = omega (arith, ints)

above_bottom : (n : ℕ) → least_value ≤ℤ negsuc n → n < 2 ^ 31
above_bottom n h = omega (arith, ints)

pub value_fits : (v : ℤ) → IsValue v → FitsSigned w32 v
value_fits (pos n) h = record { sfits = below_top n h.1 }
value_fits (negsuc n) h = record { sfits = above_bottom n h.0 }
