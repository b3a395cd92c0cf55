-- Texts cut at a byte.
use Rattle.std.proofs.Common.{ℕ, ◌≡◌, ◌≢◌, ◌+◌, ◌<◌, Option, None, Some, List, ◌∷◌, ◌++◌, length, get_or, take, drop, arith, refl, sym, ap, subst, ◌∙◌}
use Rattle.std.specs.Prelude.{◌==◌, position}
use Rattle.std.specs.Option.{option_map}
use Rattle.std.specs.List.{All}
use Rattle.std.proofs.Common.{take-append-drop}
use Rattle.std.proofs.Math.Seq.{take-append_seam, drop-append-add, get_or-append_seam}
use Rattle.std.proofs.Math.ListN.{get_or-append}
use Rattle.std.proofs.lemmas.Bool.{eq-eqb, eqb-true, ne_eqb}
use Rattle.std.proofs.lemmas.List.{drop_more}
use Rattle.std.proofs.lemmas.List.Elements.{All-get_or}
use Rattle.std.proofs.lemmas.List.Quantifiers.{position-Some}
use Rattle.std.proofs.lemmas.Grind.{common_steps}
use Rattle.cstn_facts.proofs.Filters.{position_at}
use Rattle.cstn_text.specs.Cuts.{cut_at}

-- two texts with a byte between them that the first doesn't hold are cut there
pub cut_back : (byte : ℕ) (one other : List ℕ) → All (λ b. b ≢ byte) one → cut_at byte (one ++ byte ∷ other) ≡ Some (one, other)
cut_back byte one other free =
    let inside : length one < length (one ++ byte ∷ other) = grind (arith, common_steps) in
    let place : position (λ b. b == byte) (one ++ byte ∷ other) ≡ Some (length one) =
    position_at (λ b. b == byte) (one ++ byte ∷ other) (length one) 0 inside
    (λ k h. ap (λ b. b == byte) (get_or-append one (byte ∷ other) 0 k h) ∙ ne_eqb (get_or one k 0) byte (All-get_or (λ b. b ≢ byte) one k 0 h free))
    (ap (λ b. b == byte) (get_or-append_seam one byte other 0) ∙ eq-eqb byte byte refl) in
    rw (place, take-append_seam one (byte ∷ other), drop-append-add one (byte ∷ other) 1) refl

-- a text that was cut is its two parts with the byte between
pub cut_joined : (byte : ℕ) (text word rest : List ℕ) → cut_at byte text ≡ Some (word, rest) → text ≡ word ++ byte ∷ rest
cut_joined byte text word rest is = at (position (λ b. b == byte) text) refl is
  where
    pair : (a b : List ℕ × List ℕ) → Some a ≡ Some b → a ≡ b
    pair a b e = cc

    at : (place : Option ℕ) → place ≡ position (λ b. b == byte) text → option_map {U = List ℕ × List ℕ} (λ i. (take i text, drop (i + 1) text)) place ≡ Some (word, rest) → text ≡ word ++ byte ∷ rest
    at None from e = absurd (cc)
    at (Some i) from e =
        let its = position-Some (λ b. b == byte) text i 0 (sym from) in
        let tail : drop i text ≡ byte ∷ drop (i + 1) text = drop_more text i 0 its.0 ∙ ap (λ b. b ∷ drop (i + 1) text) (eqb-true _ _ its.1) in
        let whole : text ≡ take i text ++ byte ∷ drop (i + 1) text = sym (take-append-drop i text) ∙ ap (λ bs. take i text ++ bs) tail in
        subst (λ (parts : List ℕ × List ℕ). text ≡ parts.0 ++ byte ∷ parts.1) (pair _ _ e) whole
