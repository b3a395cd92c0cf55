-- Truth values. `Rattle.std.proofs.lemmas.Bool` has what std proves of them.
use Rattle.std.proofs.Common.{◌≡◌, ℕ, suc, Bool, true, List, arith, refl}
use Rattle.std.specs.Prelude.{◌==◌}
use Rattle.std.specs.Str.{bytes_eq}
use Rattle.std.proofs.lemmas.Slice.Eq.{bytes_eq-Decides}

-- two answers are one where each is true if the other is
pub same_truth : (a b : Bool) → (a ≡ true → b ≡ true) → (b ≡ true → a ≡ true) → a ≡ b
same_truth a b there back = grind arith

-- a text is equal to itself
pub bytes_same : (text : List ℕ) → bytes_eq text text ≡ true
bytes_same text = (bytes_eq-Decides text text).1 refl

-- a number that is not 0 where the test says that it is
pub some_there : (k : ℕ) (none : Bool) (n : ℕ) → none ≡ (n == 0) → none ≡ true → n ≡ suc k → ⊥
some_there k none n test is some = grind arith
