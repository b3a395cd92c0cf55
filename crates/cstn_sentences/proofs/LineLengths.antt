-- The lines that are written are short.
use Rattle.std.proofs.Common.{◌≡◌, ℕ, zero, suc, ◌+◌, ◌*◌, ◌≤◌, Bool, true, false, List, [], ◌∷◌, ◌++◌, length, length-append, ap, ◌∙◌, arith, Option, Some, None}
use Rattle.std.specs.Prelude.{All, codes}
use Rattle.std.proofs.lemmas.List.Elements.{All-nil, All-cons, All-append, All-head, All-tail}
use Rattle.cstn_label.specs.declared.marks.Mark.{Mark}
use Rattle.cstn_label.specs.declared.marks.Mark.TheVariants.{Absent, Yes, No, Unknown}
use Rattle.cstn_label.specs.Labels.{Label}
use Rattle.cstn_label.specs.Letters.{letter_of}
use Rattle.cstn_sentences.specs.declared.lines.Literal.{Literal}
use Rattle.cstn_sentences.specs.declared.lines.Says.{Says}
use Rattle.cstn_sentences.specs.declared.lines.Says.TheVariants.{At, By, Between, ByAfter, Within, NotBefore, Together}
use Rattle.cstn_sentences.specs.Grammar.{Words}
use Rattle.cstn_sentences.specs.Printed.{spaced_words, said_words, literal_words, label_words, says_words}
use Rattle.cstn_sentences.specs.Sentences.{literal_of_mark, literals_below, literals_of_label, since_words}
use Rattle.cstn_sentences.specs.WrittenWords.{IsWrittenWord}
use Rattle.cstn_sentences.proofs.WrittenLabels.{spaced_append}
use Rattle.cstn_sentences.proofs.LineWords.{AreWords}
use Rattle.cstn_sentences.proofs.WrittenRests.{later_words}

pub spaced_both : (xs ys : Words) → length (spaced_words (xs ++ ys)) ≡ length (spaced_words xs) + length (spaced_words ys)
spaced_both xs ys = ap length (spaced_append xs ys) ∙ length-append (spaced_words xs) (spaced_words ys)

-- written words are short, by their number
pub words_few : (words : Words) → AreWords words → length (spaced_words words) ≤ 195 * length words
words_few [] all = omega arith
words_few (word ∷ words) all =
    omega (arith, length-append word (spaced_words words), (All-head IsWrittenWord word words all).few, words_few words (All-tail IsWrittenWord word words all))

pub says_count : (says : Says) → length (says_words says) ≤ 3
says_count (At r) = omega arith
says_count (By t) = omega arith
says_count (Between r) = omega arith
says_count (ByAfter t) = omega arith
says_count (Within t) = omega arith
says_count NotBefore = omega arith
says_count Together = omega arith

pub since_count : (names : List (List ℕ)) (y : Option ℕ) → length (since_words names y) ≤ 1
since_count names None = omega arith
since_count names (Some y) = omega arith

-- ---- labels

abbrev IsShort : Literal → Type 0
IsShort l = length l.prop ≤ 1

said_few : (holds : Bool) (prop : List ℕ) → length prop ≤ 1 → length (spaced_words (said_words holds prop)) ≤ 6
said_few true prop few = omega (arith, few, length-append prop [])
said_few false prop few = omega (arith, few, length-append prop [])

later_few : (ls : List Literal) → All IsShort ls → length (spaced_words (later_words ls)) ≤ 10 * length ls
later_few [] all = omega arith
later_few (l ∷ ls) all =
    omega (arith, spaced_both (codes "and" ∷ literal_words l) (later_words ls), said_few l.holds l.prop (All-head IsShort l ls all), later_few ls (All-tail IsShort l ls all))

label_by : (ls : List Literal) → All IsShort ls → length (spaced_words (label_words ls)) ≤ 10 * length ls
label_by [] all = omega arith
label_by (l ∷ ls) all =
    omega (arith, spaced_both (literal_words l) (later_words ls), said_few l.holds l.prop (All-head IsShort l ls all), later_few ls (All-tail IsShort l ls all))

mark_count : (b : ℕ) (m : Mark) → length (literal_of_mark b m) ≤ 1
mark_count b Absent = omega arith
mark_count b Yes = omega arith
mark_count b No = omega arith
mark_count b Unknown = omega arith

count_below : (a : Label) (n : ℕ) → length (literals_below a n) ≤ n
unfolding literals_below
count_below a zero = omega arith
count_below a (suc n) = omega (arith, length-append (literals_below a n) (literal_of_mark (letter_of n) (a n)), count_below a n, mark_count (letter_of n) (a n))

mark_short : (b : ℕ) (m : Mark) → All IsShort (literal_of_mark b m)
mark_short b Absent = All-nil IsShort
mark_short b Yes = All-cons IsShort (record { prop = b ∷ []; holds = true }) [] (omega arith) (All-nil IsShort)
mark_short b No = All-cons IsShort (record { prop = b ∷ []; holds = false }) [] (omega arith) (All-nil IsShort)
mark_short b Unknown = All-nil IsShort

short_below : (a : Label) (n : ℕ) → All IsShort (literals_below a n)
unfolding literals_below
short_below a zero = All-nil IsShort
short_below a (suc n) = All-append IsShort (literals_below a n) (literal_of_mark (letter_of n) (a n)) (short_below a n) (mark_short (letter_of n) (a n))

-- a label has 52 literals at most, each of at most ten bytes with what stands before it
pub label_few : (a : Label) → length (spaced_words (label_words (literals_of_label a))) ≤ 520
label_few a = omega (arith, label_by (literals_of_label a) (short_below a 52), count_below a 52)
