-- The pairs of a text of values, one at a time.
use Rattle.std.proofs.Common.{◌≡◌, ℕ, zero, suc, Bool, true, false, List, [], ◌∷◌, ◌++◌, drop, refl, ap, sym, ◌∙◌, append_assoc, append-nil, Option, Some, None, cond}
use Rattle.std.specs.Prelude.{◌==◌, option_map}
use Rattle.cstn_markup.specs.Bytes.{◌>>=◌, when, is_same}
use Rattle.cstn_element.specs.ValueTexts.{Pair, is_separator, pair_at, pairs_by, pairs_after}

pub pairs_skip : (n : ℕ) (found : List Pair) (bytes : List ℕ) → pairs_after n found bytes ≡ pairs_after 0 found (drop n bytes)
unfolding pairs_after
pairs_skip zero found bytes = refl
pairs_skip (suc n) found [] = refl
pairs_skip (suc n) found (b ∷ bytes) = pairs_skip n found bytes

-- the pairs behind those that were found
abbrev behind : List Pair → Option (List Pair) → Option (List Pair)
behind found pairs = option_map (λ ps. found ++ ps) pairs

two_behind : (found more : List Pair) (pairs : Option (List Pair)) → behind (found ++ more) pairs ≡ behind found (behind more pairs)
two_behind found more (Some ps) = ap (λ xs. Some xs) (append_assoc found more ps)
two_behind found more None = refl

end_behind : (ends : Bool) (found : List Pair) → when ends found ≡ behind found (when ends [])
end_behind true found = ap (λ xs. Some xs) (sym (append-nil found))
end_behind false found = refl

module _ (bytes : List ℕ) (later : (skip : ℕ) (found : List Pair) → pairs_after skip found bytes ≡ behind found (pairs_after skip [] bytes)) where
  pair_behind : (found : List Pair) (pair : Option (Pair × ℕ)) → (pair >>= λ p. pairs_after p.1 (found ++ (p.0 ∷ [])) bytes) ≡ behind found (pair >>= λ p. pairs_after p.1 (p.0 ∷ []) bytes)
  pair_behind found None = refl
  pair_behind found (Some p) =
      later p.1 (found ++ (p.0 ∷ [])) ∙ two_behind found (p.0 ∷ []) (pairs_after p.1 [] bytes) ∙ ap (behind found) (sym (later p.1 (p.0 ∷ [])))

  opened_behind : (found : List Pair) (opens : Bool) → (when opens bytes >>= λ inside. pair_at inside >>= λ p. pairs_after p.1 (found ++ (p.0 ∷ [])) bytes) ≡ behind found (when opens bytes >>= λ inside. pair_at inside >>= λ p. pairs_after p.1 (p.0 ∷ []) bytes)
  opened_behind found true = pair_behind found (pair_at bytes)
  opened_behind found false = refl

  other_behind : (b : ℕ) (found : List Pair) (ends : Bool) → cond ends (when (is_same bytes []) found) (when (b == 40) bytes >>= λ inside. pair_at inside >>= λ p. pairs_after p.1 (found ++ (p.0 ∷ [])) bytes)
      ≡ behind found (cond ends (when (is_same bytes []) []) (when (b == 40) bytes >>= λ inside. pair_at inside >>= λ p. pairs_after p.1 (p.0 ∷ []) bytes))
  other_behind b found true = end_behind (is_same bytes []) found
  other_behind b found false = opened_behind found (b == 40)

  byte_behind : (separates : Bool) (b : ℕ) (found : List Pair) → pairs_by separates b bytes found (λ skip more. pairs_after skip more bytes) ≡ behind found (pairs_by separates b bytes [] (λ skip more. pairs_after skip more bytes))
  byte_behind true b found = later 0 found
  byte_behind false b found = other_behind b found (b == 125)

-- pairs are put behind those that were found
pub pairs_behind : (skip : ℕ) (found : List Pair) (bytes : List ℕ) → pairs_after skip found bytes ≡ option_map (λ ps. found ++ ps) (pairs_after skip [] bytes)
unfolding pairs_after
pairs_behind zero found [] = refl
pairs_behind (suc skip) found [] = refl
pairs_behind zero found (b ∷ bytes) = byte_behind bytes (λ skip more. pairs_behind skip more bytes) (is_separator b) b found
pairs_behind (suc skip) found (b ∷ bytes) = pairs_behind skip found bytes

-- the pair after a bracket, and those behind it
pub pair_first : (b n : ℕ) (bytes : List ℕ) (pair : Pair) → (b == 125) ≡ false → (b == 40) ≡ true → pair_at bytes ≡ Some (pair, n)
    → option_map (λ ps. pair ∷ ps) (pairs_after 0 [] (drop n bytes)) ≡ pairs_by false b bytes [] (λ skip more. pairs_after skip more bytes)
pair_first b n bytes pair f g h = rw (f, g, h) (sym (pairs_behind n (pair ∷ []) bytes ∙ ap (option_map (λ ps. pair ∷ ps)) (pairs_skip n [] bytes)))
