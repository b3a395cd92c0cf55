-- What a value asks for once done ends are put at the origin and it is cut to the range of values.
use Rattle.std.proofs.Common.{ℕ, ◌≡◌, ◌+◌, ◌≤◌, arith}
use Rattle.std.specs.Prelude.{ℤ, pos, ◌+ℤ◌, ◌-ℤ◌, ◌≤ℤ◌}
use Rattle.std.proofs.lemmas.Int.{ints, clamps}
use Rattle.cstn_net.specs.Limits.{most_deadline}
use Rattle.cstn_history.specs.Rest.{value_cut}

-- in a schedule of the network `to` and `from` are at t and f, and in one of the rest at u and g; a and b are the moments of done ends
pub value_moved : (most : ℤ) (f t g u a b : ℕ) → g + a ≡ f → u + b ≡ t → g ≤ most_deadline → u ≤ most_deadline →
    (pos t -ℤ pos f) ≤ℤ most → (pos u -ℤ pos g) ≤ℤ value_cut ((most +ℤ pos a) -ℤ pos b)
value_moved most f t g u a b at_f at_t low high h = omega (arith, ints, clamps)

pub value_back : (most : ℤ) (f t g u a b : ℕ) → g + a ≡ f → u + b ≡ t → g ≤ most_deadline → u ≤ most_deadline →
    (pos u -ℤ pos g) ≤ℤ value_cut ((most +ℤ pos a) -ℤ pos b) → (pos t -ℤ pos f) ≤ℤ most
value_back most f t g u a b at_f at_t low high h = omega (arith, ints, clamps)
