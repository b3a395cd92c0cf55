-- A line that is written is judged as what it says.
use Rattle.std.proofs.Common.{◌≡◌, ℕ, ◌≤◌, Bool, true, List, [], ◌∷◌, ◌++◌, length, refl, ap, ◌∙◌, arith}
use Rattle.std.specs.Prelude.{◌&&◌, nat_le, All, Result, Ok}
use Rattle.std.specs.List.{list_all}
use Rattle.std.specs.Str.{is_utf8, IsUtf8}
use Rattle.std.proofs.lemmas.List.Elements.{All-head, All-tail}
use Rattle.std.proofs.lemmas.Str.{IsUtf8-nil, IsUtf8-append, IsUtf8-from_ascii, is_utf8-from_IsUtf8}
use Rattle.cstn_sentences.specs.Limits.{most_line}
use Rattle.cstn_sentences.specs.Results.{◌>>?◌, holds_or}
use Rattle.cstn_sentences.specs.Refusals.{wrong_word, out_of_range}
use Rattle.cstn_sentences.specs.Lines.{PlanLine}
use Rattle.cstn_sentences.specs.Words.{words_of, is_closed, is_of_words}
use Rattle.cstn_sentences.specs.Grammar.{Words, plan_line_read}
use Rattle.cstn_sentences.specs.Judged.{is_line_in_range, at_word, line_of_text}
use Rattle.cstn_sentences.specs.Printed.{spaced_words}
use Rattle.cstn_sentences.specs.WrittenWords.{IsWrittenWord, line_bytes, IsReadAsLine}
use Rattle.cstn_sentences.proofs.WrittenNumbers.{three_true}
use Rattle.cstn_sentences.proofs.SpelledWords.{small_text}

spaced_utf8 : (words : Words) → All IsWrittenWord words → IsUtf8 (spaced_words words)
spaced_utf8 [] all = IsUtf8-nil
spaced_utf8 (word ∷ words) all =
    IsUtf8-append (32 ∷ []) (word ++ spaced_words words) (IsUtf8-from_ascii (32 ∷ []) (small_text (32 ∷ []) refl))
    (IsUtf8-append word (spaced_words words) (All-head IsWrittenWord word words all).utf8 (spaced_utf8 words (All-tail IsWrittenWord word words all)))

line_utf8 : (words : Words) → All IsWrittenWord words → IsUtf8 (line_bytes words)
line_utf8 [] all = IsUtf8-nil
line_utf8 (word ∷ words) all = IsUtf8-append word (spaced_words words) (All-head IsWrittenWord word words all).utf8 (spaced_utf8 words (All-tail IsWrittenWord word words all))

all_closed : (words : Words) → All IsWrittenWord words → list_all is_closed words ≡ true
all_closed [] all = refl
all_closed (word ∷ words) all =
    ap (λ (b : Bool). b && list_all is_closed words) (All-head IsWrittenWord word words all).closed ∙ all_closed words (All-tail IsWrittenWord word words all)

le_true : (n : ℕ) → n ≤ most_line → nat_le n most_line ≡ true
le_true n h = grind arith

line_is : (words : Words) (line : PlanLine) → IsReadAsLine words line → is_of_words (line_bytes words) ≡ true
line_is words line is =
    three_true (nat_le (length (line_bytes words)) most_line) (is_utf8 (line_bytes words)) (list_all is_closed (words_of (line_bytes words)))
    (le_true (length (line_bytes words)) is.short) (is_utf8-from_IsUtf8 (line_bytes words) (line_utf8 words is.written))
    (ap (list_all is_closed) is.cut ∙ all_closed words is.written)

-- a line that is written is accepted as what it says, whatever its number is
pub line_back : (n : ℕ) (words : Words) (line : PlanLine) → IsReadAsLine words line → line_of_text n (line_bytes words) ≡ Ok line
line_back n words line is =
    let text : List ℕ = line_bytes words in
    ap (λ (b : Bool). holds_or b (wrong_word n 0) >>? λ whole. at_word n (words_of text) (plan_line_read (words_of text)) >>? λ l. holds_or (is_line_in_range l) (out_of_range n) >>? λ numbered. Ok l)
    (line_is words line is)
    ∙ ap (λ (ws : Words). at_word n ws (plan_line_read ws) >>? λ l. holds_or (is_line_in_range l) (out_of_range n) >>? λ numbered. Ok l) is.cut
    ∙ ap (λ (r : Result PlanLine ℕ). at_word n words r >>? λ l. holds_or (is_line_in_range l) (out_of_range n) >>? λ numbered. Ok l) is.read
    ∙ ap (λ (b : Bool). holds_or b (out_of_range n) >>? λ numbered. Ok line) is.numbered
