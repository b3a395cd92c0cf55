-- The texts of a data element, joined.
use Rattle.std.proofs.Common.{◌≡◌, ℕ, Bool, true, List, [], ◌∷◌, ◌++◌, length, ap, sym, ◌∙◌, refl, Ok, Some}
use Rattle.std.specs.Prelude.{◌==◌}
use Rattle.cstn_facts.proofs.Booleans.{some_there}
use Rattle.cstn_markup.specs.Bytes.{resolved}
use Rattle.cstn_element.specs.Elements.{or_no_bytes, texts_reading}

pub text_put : (found raw bytes done : List ℕ) (at : ℕ) → resolved raw ≡ Some bytes → done ≡ found ++ bytes → texts_reading.runs found at raw ≡ Ok done
text_put found raw bytes done at e d = ap (λ x. Ok (found ++ or_no_bytes x)) e ∙ ap (λ x. Ok x) (sym d)

-- the first text is all of the text so far, as nothing was found before it
pub alone : (found bytes : List ℕ) (none : Bool) (n : ℕ) → none ≡ (n == 0) → none ≡ true → n ≡ length found → bytes ≡ found ++ bytes
alone [] bytes none n e f g = refl
alone (b ∷ found) bytes none n e f g = absurd (some_there (length found) none n e f g)
