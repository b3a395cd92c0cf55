-- What is written of names, numbers and letters is one word each, and a line of words is read as these words.
use Rattle.std.proofs.Common.{◌≡◌, ℕ, suc, ◌+◌, ◌<◌, ◌≤◌, ◌/◌, ◌%◌, Bool, true, false, not, List, [], ◌∷◌, ◌++◌, length, take, drop, refl, ap, ◌∙◌, arith, length-append}
use Rattle.std.specs.Prelude.{◌==◌, ◌||◌, All, min, flat_map}
use Rattle.std.specs.List.{prefix_len, list_any}
use Rattle.std.specs.Fmt.{digit_glyph}
use Rattle.std.proofs.Math.Seq.{take-append_seam, drop-append_seam}
use Rattle.std.proofs.lemmas.List.Folds.{list_any-append}
use Rattle.std.proofs.lemmas.List.Elements.{All-head, All-tail}
use Rattle.std.proofs.lemmas.Int.{clamps}
use Rattle.cstn_markup.specs.Bytes.{is_white}
use Rattle.cstn_text.specs.PrintedNames.{is_plain_byte, printed_byte, printed_name}
use Rattle.cstn_text.specs.Parts.{IsOnePart}
use Rattle.cstn_sentences.specs.Spelling.{begins_with, quoted_byte, quoted}
use Rattle.cstn_sentences.specs.Words.{word_len, words_after, words_of}
use Rattle.cstn_sentences.specs.WrittenWords.{IsBehind, IsOneWord}
use Rattle.cstn_sentences.specs.Grammar.{Words}
use Rattle.cstn_sentences.specs.Printed.{spaced_words}
use Rattle.cstn_sentences.proofs.WordLemmas.{first_of, nothing}

-- ---- one word

-- a word at the front of a line, by how many bytes it has
at_front : (b : ℕ) (w rest : List ℕ) → is_white b ≡ false → (b == 35) ≡ false → word_len ((b ∷ w) ++ rest) ≡ length (b ∷ w)
    → words_of ((b ∷ w) ++ rest) ≡ (b ∷ w) ∷ words_of rest
at_front b w rest white hash len =
    let line : List ℕ = (b ∷ w) ++ rest in
    first_of b (w ++ rest) white hash
    ∙ ap (λ (k : ℕ). take k line ∷ words_of (drop k line)) len
    ∙ ap (λ (xs : List ℕ). xs ∷ words_of (drop (length (b ∷ w)) line)) (take-append_seam (b ∷ w) rest)
    ∙ ap (λ (xs : List ℕ). (b ∷ w) ∷ words_of xs) (drop-append_seam (b ∷ w) rest)

any_none : (a b : Bool) → (a || b) ≡ false → (a ≡ false) × (b ≡ false)
any_none a b e = grind arith

black_len : (w rest : List ℕ) → list_any is_white w ≡ false → IsBehind rest → prefix_len (λ c. not (is_white c)) (w ++ rest) ≡ length w
black_len [] [] black behind = refl
black_len [] (b ∷ rest) black behind = rw behind refl
black_len (c ∷ w) rest black behind =
    let parts = any_none (is_white c) (list_any is_white w) black in
    rw parts.0 (omega (arith, black_len w rest parts.1 behind))

-- bytes that aren't white, of which the first is no quote and begins no comment, are a word
pub bare_word : (b : ℕ) (w : List ℕ) → list_any is_white (b ∷ w) ≡ false → (b == 34) ≡ false → (b == 35) ≡ false → IsOneWord (b ∷ w)
bare_word b w black quote hash rest behind =
    at_front b w rest (any_none (is_white b) (list_any is_white w) black).0 hash (rw quote (black_len (b ∷ w) rest black behind))

inner_len : (inner rest : List ℕ) → list_any (λ c. c == 34) inner ≡ false → prefix_len (λ c. not (c == 34)) ((inner ++ (34 ∷ [])) ++ rest) ≡ length inner
inner_len [] rest free = refl
inner_len (c ∷ inner) rest free =
    let parts = any_none (c == 34) (list_any (λ c. c == 34) inner) free in
    rw parts.0 (omega (arith, inner_len inner rest parts.1))

quote_sum : (n all : ℕ) → n + 1 ≤ all → min (n + 2) (all + 1) ≡ suc (n + 1)
quote_sum n all h = omega (arith, clamps)

-- bytes between quotes are a word
pub quoted_word : (inner : List ℕ) → list_any (λ c. c == 34) inner ≡ false → IsOneWord ((34 ∷ inner) ++ (34 ∷ []))
quoted_word inner free rest behind =
    let line : List ℕ = (inner ++ (34 ∷ [])) ++ rest in
    let all : length inner + 1 ≤ length line = omega (arith, length-append (inner ++ (34 ∷ [])) rest, length-append inner (34 ∷ [])) in
    let len : word_len (34 ∷ line) ≡ length (34 ∷ (inner ++ (34 ∷ []))) =
    ap (λ (k : ℕ). min (k + 2) (length line + 1)) (inner_len inner rest free) ∙ quote_sum (length inner) (length line) all
    ∙ (let n : suc (length inner + 1) ≡ length (34 ∷ (inner ++ (34 ∷ []))) = omega (arith, length-append inner (34 ∷ [])) in n) in
    at_front 34 (inner ++ (34 ∷ [])) rest refl refl len

-- ---- lines

after_space : (line : List ℕ) → words_of (32 ∷ line) ≡ words_of line
unfolding words_after
after_space line = refl

-- words with one space between them are read as these words
pub words_back : (word : List ℕ) (words : Words) → IsOneWord word → All IsOneWord words → words_of (word ++ spaced_words words) ≡ word ∷ words
words_back word [] one all = one [] tt ∙ ap (λ (ws : Words). word ∷ ws) nothing
words_back word (next ∷ words) one all =
    one (spaced_words (next ∷ words)) refl
    ∙ ap (λ (ws : Words). word ∷ ws)
    (after_space (next ++ spaced_words words) ∙ words_back next words (All-head IsOneWord next words all) (All-tail IsOneWord next words all))

-- ---- names

glyph_other : (d : ℕ) → (digit_glyph true d == 34) ≡ false
glyph_other d = grind arith

hex_free : (b : ℕ) → list_any (λ c. c == 34) (37 ∷ digit_glyph true (b / 16) ∷ digit_glyph true (b % 16) ∷ []) ≡ false
hex_free b = rw (glyph_other (b / 16), glyph_other (b % 16)) refl

byte_free : (b : ℕ) (space quote plain : Bool) → (b == 32) ≡ space → (b == 34) ≡ quote → is_plain_byte b ≡ plain → list_any (λ c. c == 34) (quoted_byte b) ≡ false
byte_free b true quote plain s q p = rw s refl
byte_free b false true plain s q p = rw (s, q) refl
byte_free b false false true s q p = rw (s, q, p, q) refl
byte_free b false false false s q p = rw (s, q, p) (hex_free b)

inner_free : (name : List ℕ) → list_any (λ c. c == 34) (flat_map quoted_byte name) ≡ false
inner_free [] = refl
inner_free (b ∷ name) =
    list_any-append (λ c. c == 34) (quoted_byte b) (flat_map quoted_byte name)
    ∙ ap (λ (x : Bool). x || list_any (λ c. c == 34) (flat_map quoted_byte name)) (byte_free b (b == 32) (b == 34) (is_plain_byte b) refl refl refl)
    ∙ inner_free name

pub quoted_is_word : (name : List ℕ) → IsOneWord (quoted name)
quoted_is_word name = quoted_word (flat_map quoted_byte name) (inner_free name)

black_above : (b : ℕ) → 32 < b → is_white b ≡ false
black_above b h = grind arith

all_black : (text : List ℕ) → All (λ b. 32 < b) text → list_any is_white text ≡ false
all_black [] high = refl
all_black (b ∷ text) high =
    rw (black_above b (All-head (λ c. 32 < c) b text high), all_black text (All-tail (λ c. 32 < c) b text high)) refl

-- bytes above the space, of which the first is no quote and begins no comment, are a word
pub part_word : (text : List ℕ) → IsOnePart text → begins_with 34 text ≡ false → begins_with 35 text ≡ false → IsOneWord text
part_word [] is quote hash = absurd (omega (arith, is.some))
part_word (b ∷ text) is quote hash = bare_word b text (all_black (b ∷ text) is.high) quote hash

first_hash : (b : ℕ) (plain : Bool) (rest : List ℕ) → is_plain_byte b ≡ plain → (b == 35) ≡ false → begins_with 35 (printed_byte b ++ rest) ≡ false
first_hash b true rest e other = rw e other
first_hash b false rest e other = rw e refl

pub no_comment : (name : List ℕ) → begins_with 35 name ≡ false → begins_with 35 (printed_name name) ≡ false
no_comment [] e = refl
no_comment (b ∷ name) e = first_hash b (is_plain_byte b) (printed_name name) refl e
