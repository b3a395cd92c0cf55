-- Runs of bytes in front of others.
use Rattle.std.proofs.Common.{◌≡◌, ℕ, suc, ◌+◌, List, [], ◌∷◌, ◌++◌, length, drop, refl, ◌∙◌, arith, Bool, true, false, append_assoc}
use Rattle.std.specs.List.{prefix_len, list_all}
use Rattle.std.proofs.Math.Seq.{drop-append-add}
use Rattle.std.proofs.lemmas.Bool.{and_parts}

-- where p implies q of each byte, it does of all bytes of a list
pub all_for : (p q : ℕ → Bool) (xs : List ℕ) → ((b : ℕ) → p b ≡ true → q b ≡ true) → list_all p xs ≡ true → list_all q xs ≡ true
all_for p q [] f h = refl
all_for p q (x ∷ xs) f h =
    let both = and_parts (p x) (list_all p xs) h in
    rw (f x both.0, all_for p q xs f both.1) refl

pub both_all : (p : ℕ → Bool) (xs ys : List ℕ) → list_all p xs ≡ true → list_all p ys ≡ true → list_all p (xs ++ ys) ≡ true
both_all p [] ys h k = k
both_all p (x ∷ xs) ys h k =
    let both = and_parts (p x) (list_all p xs) h in
    rw (both.0, both_all p xs ys both.1 k) refl

-- a run ends at the first byte that isn't of it
pub run_len : (p : ℕ → Bool) (xs : List ℕ) (stop : ℕ) (rest : List ℕ) → list_all p xs ≡ true → p stop ≡ false → prefix_len p (xs ++ stop ∷ rest) ≡ length xs
run_len p [] stop rest h s = rw s refl
run_len p (x ∷ xs) stop rest h s =
    let both = and_parts (p x) (list_all p xs) h in
    let more : 1 + length xs ≡ suc (length xs) = omega arith in
    rw (both.0, run_len p xs stop rest both.1 s) more

-- behind a run and the byte that ends it stands the rest
pub past_stop : (xs : List ℕ) (stop : ℕ) (rest : List ℕ) → drop (length xs + 1) (xs ++ stop ∷ rest) ≡ rest
past_stop xs stop rest = drop-append-add xs (stop ∷ rest) 1

pub joined_five : (a b c d e : List ℕ) → a ++ b ++ c ++ d ++ e ≡ a ++ (b ++ (c ++ (d ++ e)))
joined_five a b c d e = append_assoc (a ++ b ++ c) d e ∙ append_assoc (a ++ b) c (d ++ e) ∙ append_assoc a b (c ++ (d ++ e))
