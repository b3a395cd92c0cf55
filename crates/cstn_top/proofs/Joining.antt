-- Texts that are put together.
use Rattle.std.proofs.Common.{◌≡◌, ℕ, List, [], ◌∷◌, ◌++◌, sym, ◌∙◌}
use Rattle.std.proofs.lemmas.List.{append_assoc}

-- a line of four parts
line_of_four : (a b c d : List ℕ) → a ++ (b ++ (c ++ (d ++ 10 ∷ []))) ≡ (((a ++ b) ++ c) ++ d) ++ 10 ∷ []
line_of_four a b c d = sym (append_assoc ((a ++ b) ++ c) d (10 ∷ []) ∙ append_assoc (a ++ b) c (d ++ 10 ∷ []) ∙ append_assoc a b (c ++ (d ++ 10 ∷ [])))

-- a line of six parts
pub line_of_six : (a b c d e f : List ℕ) → a ++ (b ++ (c ++ (d ++ (e ++ (f ++ 10 ∷ []))))) ≡ (((((a ++ b) ++ c) ++ d) ++ e) ++ f) ++ 10 ∷ []
line_of_six a b c d e f =
    let rest : List ℕ = d ++ (e ++ (f ++ 10 ∷ [])) in
    sym (append_assoc (a ++ b) c rest ∙ append_assoc a b (c ++ rest)) ∙ line_of_four ((a ++ b) ++ c) d e f
