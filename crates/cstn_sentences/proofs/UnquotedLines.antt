-- Each word of a line without `"` has its end.
use Rattle.std.proofs.Common.{◌≡◌, ℕ, zero, suc, ◌==◌, ◌||◌, ◌&&◌, Bool, true, false, List, [], ◌∷◌, ◌++◌, take, refl, ap, ◌∙◌, arith}
use Rattle.std.specs.List.{list_any, list_all}
use Rattle.cstn_markup.specs.Bytes.{is_white}
use Rattle.cstn_sentences.specs.Words.{word_len, word_at, passed_bytes, words_after, words_of, is_closed}

neither : (b c : Bool) → (b || c) ≡ false → (b ≡ false) × (c ≡ false)
neither b c e = (grind arith, grind arith)

closed_front : (n b : ℕ) (bytes : List ℕ) → (b == 34) ≡ false → is_closed (take n (b ∷ bytes)) ≡ true
closed_front zero b bytes e = refl
closed_front (suc n) b bytes e = rw e refl

no_word : (b : ℕ) (bytes : List ℕ) → (is_white b || b == 35) ≡ true → word_at (b ∷ bytes) ≡ []
no_word b bytes e = rw e refl

one_word : (b : ℕ) (bytes : List ℕ) → (is_white b || b == 35) ≡ false → word_at (b ∷ bytes) ≡ take (word_len (b ∷ bytes)) (b ∷ bytes) ∷ []
one_word b bytes e = rw e refl

one_closed : (word : List ℕ) (words : List (List ℕ)) → is_closed word ≡ true → list_all is_closed words ≡ true → list_all is_closed ((word ∷ []) ++ words) ≡ true
one_closed word words e f = ap (λ (closed : Bool). closed && list_all is_closed words) e ∙ f

unquoted_after : (skip : ℕ) (bytes : List ℕ) → list_any (λ c. c == 34) bytes ≡ false → list_all is_closed (words_after skip bytes) ≡ true
unfolding words_after
unquoted_after skip [] e = refl
unquoted_after zero (b ∷ bytes) e =
    let no = neither (b == 34) (list_any (λ c. c == 34) bytes) e in
    at (is_white b || b == 35) refl no.0 (words_after (passed_bytes (b ∷ bytes)) bytes) (unquoted_after (passed_bytes (b ∷ bytes)) bytes no.1)
  where
    at : (none : Bool) → (is_white b || b == 35) ≡ none → (b == 34) ≡ false → (words : List (List ℕ)) → list_all is_closed words ≡ true
        → list_all is_closed (word_at (b ∷ bytes) ++ words) ≡ true
    at true none other words later = ap (λ (front : List (List ℕ)). list_all is_closed (front ++ words)) (no_word b bytes none) ∙ later
    at false none other words later =
        ap (λ (front : List (List ℕ)). list_all is_closed (front ++ words)) (one_word b bytes none)
        ∙ one_closed (take (word_len (b ∷ bytes)) (b ∷ bytes)) words (closed_front (word_len (b ∷ bytes)) b bytes other) later
unquoted_after (suc skip) (b ∷ bytes) e = unquoted_after skip bytes (neither (b == 34) (list_any (λ c. c == 34) bytes) e).1

-- each word of a line without `"` has its end
pub unquoted : (line : List ℕ) → list_any (λ c. c == 34) line ≡ false → list_all is_closed (words_of line) ≡ true
unquoted line e = unquoted_after 0 line e
