-- Pieces that are put one after the other at the end of a text.
use Rattle.std.proofs.Common.{◌≡◌, ℕ, List, [], ◌∷◌, ◌++◌, ◌∙◌, ap, append_assoc}

pub two : (old a b t1 t2 : List ℕ) → t1 ≡ old ++ a → t2 ≡ t1 ++ b → t2 ≡ old ++ (a ++ b)
two old a b t1 t2 e1 e2 = e2 ∙ ap (λ (t : List ℕ). t ++ b) e1 ∙ append_assoc old a b

pub three : (old a b c t1 t2 t3 : List ℕ) → t1 ≡ old ++ a → t2 ≡ t1 ++ b → t3 ≡ t2 ++ c → t3 ≡ old ++ (a ++ b ++ c)
three old a b c t1 t2 t3 e1 e2 e3 = two old (a ++ b) c t2 t3 (two old a b t1 t2 e1 e2) e3

pub four : (old a b c d t1 t2 t3 t4 : List ℕ) → t1 ≡ old ++ a → t2 ≡ t1 ++ b → t3 ≡ t2 ++ c → t4 ≡ t3 ++ d → t4 ≡ old ++ (a ++ b ++ c ++ d)
four old a b c d t1 t2 t3 t4 e1 e2 e3 e4 = two old (a ++ b ++ c) d t3 t4 (three old a b c t1 t2 t3 e1 e2 e3) e4

pub five : (old a b c d e t1 t2 t3 t4 t5 : List ℕ) → t1 ≡ old ++ a → t2 ≡ t1 ++ b → t3 ≡ t2 ++ c → t4 ≡ t3 ++ d → t5 ≡ t4 ++ e → t5 ≡ old ++ (a ++ b ++ c ++ d ++ e)
five old a b c d e t1 t2 t3 t4 t5 e1 e2 e3 e4 e5 = two old (a ++ b ++ c ++ d) e t4 t5 (four old a b c d t1 t2 t3 t4 e1 e2 e3 e4) e5

-- a letter between two texts
pub around : (old a c t1 t2 t3 : List ℕ) (b : ℕ) → t1 ≡ old ++ a → t2 ≡ t1 ++ b ∷ [] → t3 ≡ t2 ++ c → t3 ≡ old ++ (a ++ b ∷ c)
around old a c t1 t2 t3 b e1 e2 e3 = three old a (b ∷ []) c t1 t2 t3 e1 e2 e3 ∙ ap (λ (t : List ℕ). old ++ t) (append_assoc a (b ∷ []) c)
