-- What is written of a line is its words, one each.
use Rattle.std.proofs.Common.{◌≡◌, ℕ, zero, suc, ◌<◌, ◌≤◌, Bool, true, false, List, [], ◌∷◌, ◌++◌, length, refl, ◌∙◌, arith, length-append, Some}
use Rattle.std.specs.Prelude.{◌==◌, ◌&&◌, ◌||◌, nat_le, All, codes, flat_map, if◌then◌else◌, ℤ, int_le}
use Rattle.std.specs.Str.{IsAscii}
use Rattle.std.proofs.lemmas.Str.{IsUtf8-from_ascii}
use Rattle.std.specs.List.{list_any, list_all}
use Rattle.std.proofs.lemmas.Bool.{and_parts, and_from}
use Rattle.std.proofs.lemmas.List.Elements.{All-nil, All-cons, All-append, All-head, All-tail}
use Rattle.std.proofs.lemmas.List.Folds.{list_all-append}
use Rattle.cstn_markup.specs.Bytes.{is_white}
use Rattle.cstn_label.specs.Letters.{letter_of}
use Rattle.cstn_sentences.specs.Judged.{is_sized}
use Rattle.cstn_sentences.specs.declared.lines.Literal.{Literal}
use Rattle.cstn_sentences.specs.Spelling.{begins_with, is_letter_word}
use Rattle.cstn_sentences.specs.Words.{is_closed}
use Rattle.cstn_sentences.specs.WrittenWords.{IsWrittenWord}
use Rattle.cstn_sentences.specs.Grammar.{Words}
use Rattle.cstn_sentences.specs.Printed.{span_word, most_word, range_word, said_words, literal_words, label_words}
use Rattle.cstn_sentences.specs.Sentences.{ticks, from_to, from_on}
use Rattle.cstn_sentences.proofs.OneWord.{bare_word}
use Rattle.cstn_sentences.proofs.WrittenNumbers.{free_of, is_of_ticks, span_bytes, span_some, span_few}

-- ---- words without names

-- the bytes that ASCII shows, but for the space
abbrev pub is_visible : ℕ → Bool
is_visible b = nat_le 33 b && nat_le b 126

black_of : (b : ℕ) → is_visible b ≡ true → is_white b ≡ false
black_of b e = grind arith

visible_black : (text : List ℕ) → list_all is_visible text ≡ true → list_any is_white text ≡ false
visible_black [] all = refl
visible_black (b ∷ text) all =
    let parts = and_parts (is_visible b) (list_all is_visible text) all in
    rw (black_of b parts.0, visible_black text parts.1) refl

small_of : (b : ℕ) → is_visible b ≡ true → b < 128
small_of b e = grind arith

visible_ascii : (text : List ℕ) → list_all is_visible text ≡ true → IsAscii text
visible_ascii [] all i = omega arith
visible_ascii (b ∷ text) all zero = small_of b (and_parts (is_visible b) (list_all is_visible text) all).0
visible_ascii (b ∷ text) all (suc i) = visible_ascii text (and_parts (is_visible b) (list_all is_visible text) all).1 i

pub closed_first : (b : ℕ) (w : List ℕ) → (b == 34) ≡ false → is_closed (b ∷ w) ≡ true
closed_first b w quote = rw quote refl

visible_word : (b : ℕ) (w : List ℕ) → length (b ∷ w) ≤ 194 → list_all is_visible (b ∷ w) ≡ true → (b == 34) ≡ false → (b == 35) ≡ false → IsWrittenWord (b ∷ w)
visible_word b w few all quote hash = record {
  few = few;
  one = bare_word b w (visible_black (b ∷ w) all) quote hash;
  utf8 = IsUtf8-from_ascii (b ∷ w) (visible_ascii (b ∷ w) all);
  lone = free_of is_visible 10 (b ∷ w) all refl;
  closed = closed_first b w quote;
}

-- visible bytes, of which the first is no quote and begins no comment, are a word
pub plain_word : (w : List ℕ) → 1 ≤ length w → length w ≤ 194 → list_all is_visible w ≡ true → begins_with 34 w ≡ false → begins_with 35 w ≡ false
    → IsWrittenWord w
plain_word [] some few all quote hash = absurd (omega (arith, some))
plain_word (b ∷ w) some few all quote hash = visible_word b w few all quote hash

-- the bytes of a range: those of numbers of ticks, and points
abbrev is_of_range : ℕ → Bool
is_of_range b = is_of_ticks b || b == 46

of_range : (b : ℕ) → is_of_range b ≡ true → (is_visible b ≡ true) × ((b == 34) ≡ false) × ((b == 35) ≡ false)
of_range b e = grind arith

range_visible : (text : List ℕ) → list_all is_of_range text ≡ true → list_all is_visible text ≡ true
range_visible [] all = refl
range_visible (b ∷ text) all =
    let parts = and_parts (is_of_range b) (list_all is_of_range text) all in
    rw ((of_range b parts.0).0, range_visible text parts.1) refl

numbers_word : (text : List ℕ) → 1 ≤ length text → length text ≤ 194 → list_all is_of_range text ≡ true → IsWrittenWord text
numbers_word [] some few all = absurd (omega (arith, some))
numbers_word (b ∷ text) some few all =
    let first = of_range b (and_parts (is_of_range b) (list_all is_of_range text) all).0 in
    visible_word b text few (range_visible (b ∷ text) all) first.1 first.2

ticks_of_range : (b : ℕ) → is_of_ticks b ≡ true → is_of_range b ≡ true
ticks_of_range b e = grind arith

all_of_range : (text : List ℕ) → list_all is_of_ticks text ≡ true → list_all is_of_range text ≡ true
all_of_range [] all = refl
all_of_range (b ∷ text) all =
    let parts = and_parts (is_of_ticks b) (list_all is_of_ticks text) all in
    rw (ticks_of_range b parts.0, all_of_range text parts.1) refl

span_range : (v : ℤ) → is_sized v ≡ true → list_all is_of_range (span_word (ticks v)) ≡ true
span_range v sized = all_of_range (span_word (ticks v)) (span_bytes v sized)

-- a number of ticks is a word
pub span_is_word : (v : ℤ) → is_sized v ≡ true → IsWrittenWord (span_word (ticks v))
span_is_word v sized = numbers_word (span_word (ticks v)) (span_some v sized) (omega (arith, span_few v sized)) (span_range v sized)

longer : (xs ys : List ℕ) → 1 ≤ length xs → 1 ≤ length (xs ++ ys)
longer xs ys some = omega (arith, some, length-append xs ys)

range_text : (v : ℤ) (most : List ℕ) → is_sized v ≡ true → length most ≤ 13 → list_all is_of_range most ≡ true → IsWrittenWord (span_word (ticks v) ++ most)
range_text v most sized few all =
    let least : List ℕ = span_word (ticks v) in
    numbers_word (least ++ most) (longer least most (span_some v sized)) (omega (arith, few, span_few v sized, length-append least most))
    (list_all-append is_of_range least most ∙ and_from (list_all is_of_range least) (list_all is_of_range most) (span_range v sized) all)

most_at : (b : ℤ) (single : Bool) → is_sized b ≡ true → list_all is_of_range (if single then [] else codes ".." ++ span_word (ticks b)) ≡ true
most_at b true sized = refl
most_at b false sized = span_range b sized

most_few : (b : ℤ) (single : Bool) → is_sized b ≡ true → length (if single then [] else codes ".." ++ span_word (ticks b)) ≤ 13
most_few b true sized = omega arith
most_few b false sized = omega (arith, span_few b sized)

-- a range is a word
pub range_is_word : (a b : ℤ) → is_sized a ≡ true → is_sized b ≡ true → IsWrittenWord (range_word (from_to a b))
range_is_word a b first last = range_text a (most_word (ticks a) (Some (ticks b))) first (most_few b (int_le b a) last) (most_at b (int_le b a) last)

pub from_is_word : (a : ℤ) → is_sized a ≡ true → IsWrittenWord (range_word (from_on a))
from_is_word a sized = range_text a (codes "..") sized (omega arith) refl

-- ---- labels

letter_shape : (b : ℕ) → is_letter_word (b ∷ []) ≡ true → (list_all is_visible (b ∷ []) ≡ true) × ((b == 34) ≡ false) × ((b == 35) ≡ false)
letter_shape b e = grind arith

-- a letter is a word
pub letter_is_word : (p : ℕ) → p < 52 → IsWrittenWord (letter_of p ∷ [])
letter_is_word p small =
    let shape = letter_shape (letter_of p) (letter_fits p small) in
    visible_word (letter_of p) [] (omega arith) shape.0 shape.1 shape.2
  where
    letter_fits : (p : ℕ) → p < 52 → is_letter_word (letter_of p ∷ []) ≡ true
    letter_fits p small = grind arith

abbrev pub AreWords : Words → Type 0
AreWords words = All IsWrittenWord words

pub one_more : (word : List ℕ) (words : Words) → IsWrittenWord word → AreWords words → AreWords (word ∷ words)
one_more word words one all = All-cons IsWrittenWord word words one all

pub no_words : AreWords []
no_words = All-nil IsWrittenWord

-- the proposition of a literal is a word
abbrev pub HasWord : Literal → Type 0
HasWord l = IsWrittenWord l.prop

said_are : (holds : Bool) (prop : List ℕ) → IsWrittenWord prop → AreWords (said_words holds prop)
said_are true prop one = one_more prop [] one no_words
said_are false prop one = one_more (codes "not") (prop ∷ []) (plain_word (codes "not") (omega arith) (omega arith) refl refl refl) (one_more prop [] one no_words)

later_are : (ls : List Literal) → All HasWord ls → AreWords (flat_map (λ y. codes "and" ∷ literal_words y) ls)
later_are [] all = no_words
later_are (l ∷ ls) all =
    All-append IsWrittenWord (codes "and" ∷ literal_words l) (flat_map (λ y. codes "and" ∷ literal_words y) ls)
    (one_more (codes "and") (literal_words l) (plain_word (codes "and") (omega arith) (omega arith) refl refl refl) (said_are l.holds l.prop (All-head HasWord l ls all)))
    (later_are ls (All-tail HasWord l ls all))

-- a label is written in words
pub label_are : (ls : List Literal) → All HasWord ls → AreWords (label_words ls)
label_are [] all = no_words
label_are (l ∷ ls) all =
    one_more (codes "if") (literal_words l ++ flat_map (λ y. codes "and" ∷ literal_words y) ls) (plain_word (codes "if") (omega arith) (omega arith) refl refl refl)
    (All-append IsWrittenWord (literal_words l) (flat_map (λ y. codes "and" ∷ literal_words y) ls) (said_are l.holds l.prop (All-head HasWord l ls all)) (later_are ls (All-tail HasWord l ls all)))
