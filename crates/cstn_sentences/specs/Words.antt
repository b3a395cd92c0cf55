-- The lines of a text, and the words of a line.
use Rattle.std.specs.Prelude.{ℕ, zero, suc, ◌+◌, ◌-◌, min, Bool, true, ◌&&◌, ◌||◌, not, ◌==◌, nat_le, List, [], ◌∷◌, ◌++◌, length, take, drop, if◌then◌else◌}
use Rattle.std.specs.List.{prefix_len, list_any, list_all}
use Rattle.std.specs.Str.{is_utf8}
use Rattle.cstn_markup.specs.Bytes.{is_white, begins}
use Rattle.cstn_text.specs.Parts.{SplitText, parts_at}
use Rattle.cstn_sentences.specs.Limits.{most_line}

-- the text without the byte order mark at its beginning
abbrev pub without_mark : List ℕ → List ℕ
without_mark text = if begins (239 ∷ 187 ∷ 191 ∷ []) text then drop 3 text else text

-- the lines of a text that is cut at each LF
abbrev pub cut_lines : SplitText → List (List ℕ)
cut_lines parts = parts.0 ++ (parts.1 ∷ [])

abbrev pub plan_lines : List ℕ → List (List ℕ)
plan_lines text = cut_lines (parts_at 10 (without_mark text))

-- how many bytes the word at the front has: up to white space, or, where it begins with `"`, to the next `"` or to the end
abbrev pub word_len : List ℕ → ℕ
word_len [] = 0
word_len (b ∷ bytes) =
    if b == 34 then min (prefix_len (λ c. not (c == 34)) bytes + 2) (length bytes + 1)
    else prefix_len (λ c. not (is_white c)) (b ∷ bytes)

-- the word at the front, if one is: neither white space nor a comment stands there
abbrev pub word_at : List ℕ → List (List ℕ)
word_at [] = []
word_at (b ∷ bytes) = if is_white b || b == 35 then [] else take (word_len (b ∷ bytes)) (b ∷ bytes) ∷ []

-- how many bytes behind the first one belong to what stands at the front: a word, or a comment up to the end of the line
abbrev pub passed_bytes : List ℕ → ℕ
passed_bytes [] = 0
passed_bytes (b ∷ bytes) = if is_white b then 0 else if b == 35 then length bytes else word_len (b ∷ bytes) - 1

-- the words of these bytes, of which the first `skip` are passed over
unfoldable pub words_after : ℕ → List ℕ → List (List ℕ)
words_after skip [] = []
words_after zero (b ∷ bytes) = word_at (b ∷ bytes) ++ words_after (passed_bytes (b ∷ bytes)) bytes
words_after (suc skip) (b ∷ bytes) = words_after skip bytes

-- the words of a line
abbrev pub words_of : List ℕ → List (List ℕ)
words_of line = words_after 0 line

-- a word that begins with `"` has its end
abbrev pub is_closed : List ℕ → Bool
is_closed [] = true
is_closed (b ∷ bytes) = not (b == 34) || list_any (λ c. c == 34) bytes

-- a line of UTF-8 that isn't too long, and in which each quote has its end
abbrev pub is_of_words : List ℕ → Bool
is_of_words line = nat_le (length line) most_line && is_utf8 line && list_all is_closed (words_of line)
