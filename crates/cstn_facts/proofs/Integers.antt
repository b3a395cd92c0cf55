-- The test whether one integer is less than another tells whether it is.
use Rattle.std.proofs.Common.{◌≡◌, true, false, arith}
use Rattle.std.specs.Prelude.{ℤ, ◌≤ℤ◌, ◌<ℤ◌, int_lt}
use Rattle.std.proofs.lemmas.Int.{ints}

pub int_lt-true : (a b : ℤ) → int_lt a b ≡ true → a <ℤ b
int_lt-true a b h = grind (arith, ints)

pub int_lt-false : (a b : ℤ) → int_lt a b ≡ false → b ≤ℤ a
int_lt-false a b h = grind (arith, ints)

pub lt-int_lt : (a b : ℤ) → a <ℤ b → int_lt a b ≡ true
lt-int_lt a b h = grind (arith, ints)

pub le-int_lt : (a b : ℤ) → b ≤ℤ a → int_lt a b ≡ false
le-int_lt a b h = grind (arith, ints)
