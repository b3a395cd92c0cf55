-- The lines of rules and of steps are their words.
use Rattle.std.proofs.Common.{◌≡◌, ℕ, zero, suc, ◌<◌, ◌≤◌, Bool, true, false, List, [], ◌∷◌, ◌++◌, refl, arith, Option, Some, None}
use Rattle.std.specs.Prelude.{◌==◌, All, slice_index_or, codes, if◌then◌else◌, ℤ, pos}
use Rattle.std.proofs.lemmas.List.Elements.{All-nil, All-cons, All-append}
use Rattle.cstn_label.specs.declared.marks.Mark.{Mark}
use Rattle.cstn_label.specs.declared.marks.Mark.TheVariants.{Absent, Yes, No, Unknown}
use Rattle.cstn_label.specs.Labels.{Label}
use Rattle.cstn_label.specs.Letters.{letter_of}
use Rattle.cstn_text.specs.Names.{IsName}
use Rattle.cstn_sentences.specs.Judged.{is_sized}
use Rattle.cstn_sentences.specs.declared.lines.Range.{Range}
use Rattle.cstn_sentences.specs.declared.lines.Says.{Says}
use Rattle.cstn_sentences.specs.declared.lines.Says.TheVariants.{At, By, Between, ByAfter, Within, NotBefore, Together}
use Rattle.cstn_sentences.specs.Spelling.{spelling}
use Rattle.cstn_sentences.specs.WrittenWords.{IsWrittenWord}
use Rattle.cstn_sentences.specs.Printed.{span_word, range_word, label_words, reaction_words, observed_words, says_words}
use Rattle.cstn_sentences.specs.Sentences.{ticks, literal_of_mark, literals_below, literals_of_label, since_words, observed_after}
use Rattle.cstn_sentences.proofs.SpelledWords.{spelled_is_written}
use Rattle.cstn_sentences.proofs.LineWords.{plain_word, span_is_word, letter_is_word, AreWords, one_more, no_words, HasWord, label_are}

-- ---- labels

of_mark : (p : ℕ) (m : Mark) → p < 52 → All HasWord (literal_of_mark (letter_of p) m)
of_mark p Absent small = All-nil HasWord
of_mark p Yes small = All-cons HasWord (record { prop = letter_of p ∷ []; holds = true }) [] (letter_is_word p small) (All-nil HasWord)
of_mark p No small = All-cons HasWord (record { prop = letter_of p ∷ []; holds = false }) [] (letter_is_word p small) (All-nil HasWord)
of_mark p Unknown small = All-nil HasWord

literals_have : (a : Label) (n : ℕ) → n ≤ 52 → All HasWord (literals_below a n)
unfolding literals_below
literals_have a zero few = All-nil HasWord
literals_have a (suc n) few =
    All-append HasWord (literals_below a n) (literal_of_mark (letter_of n) (a n)) (literals_have a n (omega (arith, few)))
    (of_mark n (a n) (omega (arith, few)))

pub label_is : (a : Label) → AreWords (label_words (literals_of_label a))
label_is a = label_are (literals_of_label a) (literals_have a 52 (omega arith))

-- ---- what is said

after_is : AreWords (codes "after" ∷ [])
after_is = one_more (codes "after") [] (plain_word (codes "after") (omega arith) (omega arith) refl refl refl) no_words

pub at_are : (r : Range) → IsWrittenWord (range_word r) → AreWords (says_words (At r))
at_are r one = one_more (codes "at") (range_word r ∷ []) (plain_word (codes "at") (omega arith) (omega arith) refl refl refl) (one_more (range_word r) [] one no_words)

pub by_are : (v : ℤ) → is_sized v ≡ true → AreWords (says_words (By (ticks v)))
by_are v sized =
    one_more (codes "by") (span_word (ticks v) ∷ []) (plain_word (codes "by") (omega arith) (omega arith) refl refl refl) (one_more (span_word (ticks v)) [] (span_is_word v sized) no_words)

pub between_are : (r : Range) → IsWrittenWord (range_word r) → AreWords (says_words (Between r))
between_are r one = one_more (range_word r) (codes "after" ∷ []) one after_is

pub by_after_are : (v : ℤ) → is_sized v ≡ true → AreWords (says_words (ByAfter (ticks v)))
by_after_are v sized =
    one_more (codes "by") (span_word (ticks v) ∷ codes "after" ∷ []) (plain_word (codes "by") (omega arith) (omega arith) refl refl refl)
    (one_more (span_word (ticks v)) (codes "after" ∷ []) (span_is_word v sized) after_is)

pub within_are : (v : ℤ) → is_sized v ≡ true → AreWords (says_words (Within (ticks v)))
within_are v sized =
    one_more (codes "within") (span_word (ticks v) ∷ codes "after" ∷ []) (plain_word (codes "within") (omega arith) (omega arith) refl refl refl)
    (one_more (span_word (ticks v)) (codes "after" ∷ []) (span_is_word v sized) after_is)

pub not_before_are : AreWords (says_words NotBefore)
not_before_are = after_is

pub together_are : AreWords (says_words Together)
together_are = one_more (codes "with") [] (plain_word (codes "with") (omega arith) (omega arith) refl refl refl) no_words

-- ---- rules

pub since_none : (names : List (List ℕ)) → AreWords (since_words names None)
since_none names = no_words

pub since_one : (names : List (List ℕ)) (y : ℕ) → IsName (slice_index_or names y []) → AreWords (since_words names (Some y))
since_one names y named = one_more (spelling (slice_index_or names y [])) [] (spelled_is_written (slice_index_or names y []) named) no_words

-- a rule is written in words, and its line is cut into them
pub rule_are : (names : List (List ℕ)) (x : ℕ) (says : Says) (y : Option ℕ) (label : Label) → IsName (slice_index_or names x []) → AreWords (says_words says) → AreWords (since_words names y)
    → AreWords (says_words says ++ since_words names y ++ label_words (literals_of_label label))
rule_are names x says y label named said since =
    All-append IsWrittenWord (says_words says ++ since_words names y) (label_words (literals_of_label label)) (All-append IsWrittenWord (says_words says) (since_words names y) said since) (label_is label)

-- ---- steps

reaction_are : (n : ℕ) → is_sized (pos n) ≡ true → AreWords (reaction_words (ticks (pos n)))
reaction_are n sized = at (n == 1)
  where
    at : (lone : Bool) → AreWords (if lone then [] else codes "after" ∷ span_word (ticks (pos n)) ∷ [])
    at true = no_words
    at false =
        one_more (codes "after") (span_word (ticks (pos n)) ∷ []) (plain_word (codes "after") (omega arith) (omega arith) refl refl refl)
        (one_more (span_word (ticks (pos n))) [] (span_is_word (pos n) sized) no_words)

pub observed_are : (n p : ℕ) → is_sized (pos n) ≡ true → p < 52 → AreWords (observed_words (Some (observed_after n p)))
observed_are n p sized small =
    one_more (codes "observes") ((letter_of p ∷ []) ∷ reaction_words (ticks (pos n))) (plain_word (codes "observes") (omega arith) (omega arith) refl refl refl)
    (one_more (letter_of p ∷ []) (reaction_words (ticks (pos n))) (letter_is_word p small) (reaction_are n sized))
