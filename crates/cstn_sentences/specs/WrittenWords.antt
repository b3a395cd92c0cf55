-- Texts that are one word, and words that are read as a line.
use Rattle.std.specs.Prelude.{◌≡◌, ◌≢◌, ℕ, true, List, [], ◌∷◌, ◌++◌, ◌≤◌, length, map, All, Ok, pos}
use Rattle.std.specs.Str.{IsUtf8}
use Rattle.cstn_net.specs.Networks.{count}
use Rattle.cstn_lift.specs.Labelled.{Labelled}
use Rattle.cstn_sentences.specs.Words.{words_of, is_closed}
use Rattle.cstn_sentences.specs.Limits.{most_line}
use Rattle.cstn_sentences.specs.Judged.{is_line_in_range}
use Rattle.cstn_sentences.specs.Lines.{PlanLine}
use Rattle.cstn_sentences.specs.Grammar.{Words, plan_line_read}
use Rattle.cstn_sentences.specs.Printed.{spaced_words, deadline_words, step_words, rule_words}
use Rattle.cstn_sentences.specs.Sentences.{ticks, steps_below, rules_after}

-- what stands behind a word that is written: the end of the line, or a space
abbrev pub IsBehind : List ℕ → Type 0
IsBehind [] = Unit {0}
IsBehind (b ∷ rest) = b ≡ 32

-- the text is one word of a line, whatever stands behind it
abbrev pub IsOneWord : List ℕ → Type 0
IsOneWord word = (rest : List ℕ) → IsBehind rest → words_of (word ++ rest) ≡ word ∷ words_of rest

-- a text that is one word: short, of UTF-8, with no end of a line in it, and with its quote closed
pub record IsWrittenWord (word : List ℕ) : Type 0 where
  pub one : IsOneWord word
  pub few : length word ≤ 194
  pub utf8 : IsUtf8 word
  pub lone : All (λ b. b ≢ 10) word
  pub closed : is_closed word ≡ true

-- the bytes of a line of words, without its LF
abbrev pub line_bytes : Words → List ℕ
line_bytes [] = []
line_bytes (word ∷ words) = word ++ spaced_words words

-- the line of these words is short, is cut into them, and is read as this, whose numbers are in range
pub record IsReadAsLine (words : Words) (line : PlanLine) : Type 0 where
  pub written : All IsWrittenWord words
  pub short : length (line_bytes words) ≤ most_line
  pub cut : words_of (line_bytes words) ≡ words
  pub read : plan_line_read words ≡ Ok line
  pub numbered : is_line_in_range line ≡ true

-- the lines of a network, as words
abbrev pub network_lines : Labelled → List (List ℕ) → List Words
network_lines m names =
    deadline_words (ticks (pos m.base.deadline)) ∷ (map step_words (steps_below m names (count m.base)) ++ map rule_words (rules_after names 0 m.base.constraints))
