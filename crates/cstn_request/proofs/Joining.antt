-- Texts that are put together.
use Rattle.std.proofs.Common.{◌≡◌, ℕ, List, [], ◌∷◌, ◌++◌, sym, ◌∙◌}
use Rattle.std.proofs.lemmas.List.{append_assoc}

-- a byte between two texts
pub between : (a b : List ℕ) (x : ℕ) → (a ++ x ∷ []) ++ b ≡ a ++ x ∷ b
between a b x = append_assoc a (x ∷ []) b

-- a text of four parts
pub four_parts : (a b c d : List ℕ) → a ++ (b ++ (c ++ d)) ≡ ((a ++ b) ++ c) ++ d
four_parts a b c d = sym (append_assoc (a ++ b) c d ∙ append_assoc a b (c ++ d))
