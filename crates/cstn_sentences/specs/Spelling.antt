-- How names and propositions are spelled.
use Rattle.std.specs.Prelude.{ℕ, ◌-◌, Bool, false, ◌&&◌, ◌||◌, not, ◌==◌, nat_le, List, [], ◌∷◌, ◌++◌, length, take, flat_map, Option, if◌then◌else◌, codes, bytes_eq}
use Rattle.std.specs.List.{list_any, list_all}
use Rattle.std.specs.Option.{option_and_then}
use Rattle.std.specs.Char.{is_ascii_alphabetic, is_ascii_alphanumeric}
use Rattle.cstn_markup.specs.Bytes.{when}
use Rattle.cstn_text.specs.Names.{is_name}
use Rattle.cstn_text.specs.PrintedNames.{printed_byte, printed_name, unprinted, name_read}

-- the words of the language, which are no names: those that a line begins with, those of rules, and those between
abbrev pub begins_line : List ℕ → Bool
begins_line word =
    bytes_eq word (codes "deadline") || bytes_eq word (codes "start") || bytes_eq word (codes "step") || bytes_eq word (codes "task")
    || bytes_eq word (codes "end")

abbrev pub is_of_rule : List ℕ → Bool
is_of_rule word =
    bytes_eq word (codes "at") || bytes_eq word (codes "by") || bytes_eq word (codes "within") || bytes_eq word (codes "with")
    || bytes_eq word (codes "after")

abbrev pub is_between : List ℕ → Bool
is_between word =
    bytes_eq word (codes "observes") || bytes_eq word (codes "as") || bytes_eq word (codes "if") || bytes_eq word (codes "and")
    || bytes_eq word (codes "not") || bytes_eq word (codes "result") || bytes_eq word (codes "of")

abbrev pub is_keyword : List ℕ → Bool
is_keyword word = begins_line word || is_of_rule word || is_between word

-- the text begins with this byte
abbrev pub begins_with : ℕ → List ℕ → Bool
begins_with b [] = false
begins_with b (first ∷ bytes) = first == b

abbrev pub has_space_or_quote : List ℕ → Bool
has_space_or_quote name = list_any (λ b. b == 32 || b == 34) name

-- a name that has a space or `"`, begins with `#`, or is a keyword, stands in quotes
abbrev pub needs_quotes : List ℕ → Bool
needs_quotes name = has_space_or_quote name || begins_with 35 name || is_keyword name

-- in quotes a space stands for itself, and `"` is `%22`
abbrev pub quoted_byte : ℕ → List ℕ
quoted_byte b = if b == 32 then 32 ∷ [] else if b == 34 then codes "%22" else printed_byte b

abbrev pub quoted : List ℕ → List ℕ
quoted name = (34 ∷ flat_map quoted_byte name) ++ (34 ∷ [])

-- the one spelling of a name
abbrev pub spelling : List ℕ → List ℕ
spelling name = if needs_quotes name then quoted name else printed_name name

-- what stands between the quotes of a word
abbrev pub between_quotes : List ℕ → List ℕ
between_quotes [] = []
between_quotes (b ∷ bytes) = take (length bytes - 1) bytes

-- the word is the spelling of the name in quotes, which the name needs
abbrev pub is_quoted_as : List ℕ → List ℕ → Bool
is_quoted_as name word = is_name name && needs_quotes name && bytes_eq (quoted name) word

abbrev pub quoted_as : List ℕ → List ℕ → Option (List ℕ)
quoted_as name word = when (is_quoted_as name word) name

-- the name that a quoted word spells, and that a bare one does
abbrev pub quoted_name : List ℕ → Option (List ℕ)
quoted_name word = quoted_as (unprinted (between_quotes word)) word

abbrev pub bare_name : List ℕ → Option (List ℕ)
bare_name word = option_and_then (λ name. when (not (needs_quotes name)) name) (name_read word)

-- the name of a word, if it is one's spelling
abbrev pub name_spelled : List ℕ → Option (List ℕ)
name_spelled word = if begins_with 34 word then quoted_name word else bare_name word

-- a letter
abbrev pub is_letter_word : List ℕ → Bool
is_letter_word [] = false
is_letter_word (b ∷ bytes) = is_ascii_alphabetic b && length bytes == 0

abbrev pub begins_with_letter : List ℕ → Bool
begins_with_letter [] = false
begins_with_letter (b ∷ bytes) = is_ascii_alphabetic b

-- a word that may stand for a letter: two to 64 letters, digits, `_` and `-`, a letter first, and no keyword
abbrev pub is_word : List ℕ → Bool
is_word word =
    nat_le 2 (length word) && nat_le (length word) 64 && begins_with_letter word
    && list_all (λ b. is_ascii_alphanumeric b || b == 95 || b == 45) word && not (is_keyword word)

-- a proposition is a letter or a word
abbrev pub is_prop_word : List ℕ → Bool
is_prop_word word = is_letter_word word || is_word word
