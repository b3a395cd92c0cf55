-- The spelling of a name is one word.
use Rattle.std.proofs.Common.{◌≡◌, ◌≢◌, ℕ, zero, suc, ◌<◌, ◌≤◌, ◌/◌, ◌%◌, Bool, true, false, List, [], ◌∷◌, ◌++◌, length, length-append, ◌*◌, get_or, refl, ap, sym, subst, ◌∙◌, arith, append-nil, ⊎_elim}
use Rattle.std.specs.Prelude.{◌==◌, ◌||◌, ◌&&◌, nat_le, nat_lt, All, flat_map}
use Rattle.std.specs.List.{list_any, list_all}
use Rattle.std.specs.Fmt.{digit_glyph}
use Rattle.std.specs.Str.{IsUtf8, IsAscii, encode_utf8_all, all_scalars}
use Rattle.std.proofs.Math.Utf8.{encode, scalar}
use Rattle.std.proofs.lemmas.Bool.{and_parts, cases_lt}
use Rattle.std.proofs.lemmas.Grind.{flat_map-append}
use Rattle.std.proofs.lemmas.List.Elements.{All-nil, All-cons, All-head, All-tail}
use Rattle.std.proofs.lemmas.List.Folds.{list_any-append, list_all-append}
use Rattle.std.proofs.lemmas.Str.{inside_one, encode_ascii, IsUtf8-nil, IsUtf8-append, IsUtf8-from_ascii, IsUtf8-encode, IsUtf8-from_is_utf8}
use Rattle.cstn_text.specs.Names.{IsName}
use Rattle.cstn_text.specs.PrintedNames.{is_plain_byte, printed_name}
use Rattle.cstn_text.specs.Parts.{IsOnePart}
use Rattle.cstn_text.proofs.PartLemmas.{name_part}
use Rattle.cstn_text.proofs.PrintedNameLemmas.{printed_utf8, name_length}
use Rattle.cstn_sentences.specs.Spelling.{begins_with, needs_quotes, quoted_byte, quoted, spelling}
use Rattle.cstn_sentences.specs.Words.{words_of, is_closed}
use Rattle.cstn_sentences.specs.Grammar.{Words}
use Rattle.cstn_sentences.specs.Printed.{spaced_words}
use Rattle.cstn_sentences.specs.WrittenWords.{IsOneWord, IsWrittenWord}
use Rattle.cstn_sentences.proofs.SpelledNames.{first_bare, bare_parts, spelled_quoted, spelled_bare}
use Rattle.cstn_sentences.proofs.OneWord.{quoted_is_word, part_word, no_comment, words_back}
use Rattle.cstn_sentences.proofs.WrittenNumbers.{free_of}

-- ---- bare

high_lone : (text : List ℕ) → All (λ b. 32 < b) text → All (λ b. b ≢ 10) text
high_lone [] high = All-nil (λ b. b ≢ 10)
high_lone (b ∷ text) high =
    All-cons (λ c. c ≢ 10) b text (λ same. absurd (omega (arith, same, All-head (λ c. 32 < c) b text high))) (high_lone text (All-tail (λ c. 32 < c) b text high))

no_quote_closed : (text : List ℕ) → begins_with 34 text ≡ false → is_closed text ≡ true
no_quote_closed [] e = refl
no_quote_closed (b ∷ text) e = rw e refl

bare_written : (name : List ℕ) → IsName name → needs_quotes name ≡ false → IsWrittenWord (printed_name name)
bare_written name is e =
    let bare = bare_parts name e in
    let part : IsOnePart (printed_name name) = name_part name is.some in
    let first : begins_with 34 (printed_name name) ≡ false = first_bare name bare.0 in
    record {
      one = part_word (printed_name name) part first (no_comment name bare.1);
      few = omega (arith, is.few, (name_length name).1);
      utf8 = printed_utf8 name (IsUtf8-from_is_utf8 name is.utf8);
      lone = high_lone (printed_name name) part.high;
      closed = no_quote_closed (printed_name name) first;
    }

-- ---- in quotes

glyph_shown : (d : ℕ) → nat_le 32 (digit_glyph true d) ≡ true
glyph_shown d = grind arith

hex_shown : (b : ℕ) → list_all (λ c. nat_le 32 c) (37 ∷ digit_glyph true (b / 16) ∷ digit_glyph true (b % 16) ∷ []) ≡ true
hex_shown b = rw (glyph_shown (b / 16), glyph_shown (b % 16)) refl

plain_shown : (b : ℕ) → is_plain_byte b ≡ true → nat_le 32 b ≡ true
plain_shown b e = grind arith

byte_shown : (b : ℕ) (space quote plain : Bool) → (b == 32) ≡ space → (b == 34) ≡ quote → is_plain_byte b ≡ plain → list_all (λ c. nat_le 32 c) (quoted_byte b) ≡ true
byte_shown b true quote plain s q p = rw s refl
byte_shown b false true plain s q p = rw (s, q) refl
byte_shown b false false true s q p = rw (s, q, p, plain_shown b p) refl
byte_shown b false false false s q p = rw (s, q, p) (hex_shown b)

inner_shown : (name : List ℕ) → list_all (λ c. nat_le 32 c) (flat_map quoted_byte name) ≡ true
inner_shown [] = refl
inner_shown (b ∷ name) =
    list_all-append (λ c. nat_le 32 c) (quoted_byte b) (flat_map quoted_byte name)
    ∙ ap (λ (x : Bool). x && list_all (λ c. nat_le 32 c) (flat_map quoted_byte name)) (byte_shown b (b == 32) (b == 34) (is_plain_byte b) refl refl refl)
    ∙ inner_shown name

quoted_shown : (name : List ℕ) → list_all (λ c. nat_le 32 c) (quoted name) ≡ true
quoted_shown name =
    list_all-append (λ c. nat_le 32 c) (34 ∷ flat_map quoted_byte name) (34 ∷ [])
    ∙ ap (λ (x : Bool). x && true) (inner_shown name)

byte_few : (b : ℕ) (space quote plain : Bool) → (b == 32) ≡ space → (b == 34) ≡ quote → is_plain_byte b ≡ plain → length (quoted_byte b) ≤ 3
byte_few b true quote plain s q p = rw s (omega arith)
byte_few b false true plain s q p = rw (s, q) (omega arith)
byte_few b false false true s q p = rw (s, q, p) (omega arith)
byte_few b false false false s q p = rw (s, q, p) (omega arith)

inner_few : (name : List ℕ) → length (flat_map quoted_byte name) ≤ 3 * length name
inner_few [] = omega arith
inner_few (b ∷ name) =
    omega (arith, length-append (quoted_byte b) (flat_map quoted_byte name), byte_few b (b == 32) (b == 34) (is_plain_byte b) refl refl refl, inner_few name)

quoted_few : (name : List ℕ) → length name ≤ 64 → length (quoted name) ≤ 194
quoted_few name few = omega (arith, few, inner_few name, length-append (flat_map quoted_byte name) (34 ∷ []))

or_true : (a : Bool) → (a || true) ≡ true
or_true a = grind arith

quoted_closed : (name : List ℕ) → is_closed (quoted name) ≡ true
quoted_closed name = list_any-append (λ c. c == 34) (flat_map quoted_byte name) (34 ∷ []) ∙ or_true (list_any (λ c. c == 34) (flat_map quoted_byte name))

high_byte : (c : ℕ) → 128 ≤ c → (k : ℕ) → k < length (encode c) → 128 ≤ get_or (encode c) k 0
high_byte c high k inside =
    ⊎_elim (λ low. absurd (omega (arith, inside_one c [] (encode c) k (sym (append-nil (encode c))) inside low, high))) (λ e. e) (cases_lt (get_or (encode c) k 0) 128)

high_other : (b : ℕ) → 128 ≤ b → ((b == 32) ≡ false) × ((b == 34) ≡ false) × (is_plain_byte b ≡ true)
high_other b high = grind arith

high_stays : (b : ℕ) → 128 ≤ b → quoted_byte b ≡ b ∷ []
high_stays b high = let other = high_other b high in rw (other.0, other.1, other.2) refl

high_bytes_stay : (bytes : List ℕ) → ((k : ℕ) → k < length bytes → 128 ≤ get_or bytes k 0) → flat_map quoted_byte bytes ≡ bytes
high_bytes_stay [] high = refl
high_bytes_stay (b ∷ bytes) high =
    ap (λ (bs : List ℕ). bs ++ flat_map quoted_byte bytes) (high_stays b (high 0 (omega arith)))
    ∙ ap (λ (bs : List ℕ). b ∷ bs) (high_bytes_stay bytes (λ k inside. high (suc k) (omega arith)))

pub small_text : (text : List ℕ) → list_all (λ b. nat_lt b 128) text ≡ true → IsAscii text
small_text [] all i = omega arith
small_text (b ∷ text) all zero = let h : nat_lt b 128 ≡ true = (and_parts (nat_lt b 128) (list_all (λ c. nat_lt c 128) text) all).0 in grind (arith, h)
small_text (b ∷ text) all (suc i) = small_text text (and_parts (nat_lt b 128) (list_all (λ c. nat_lt c 128) text) all).1 i

glyph_small : (d : ℕ) → d < 16 → nat_lt (digit_glyph true d) 128 ≡ true
glyph_small d small = grind arith

byte_small : (b : ℕ) (space quote plain : Bool) → (b == 32) ≡ space → (b == 34) ≡ quote → is_plain_byte b ≡ plain → b < 128 → list_all (λ c. nat_lt c 128) (quoted_byte b) ≡ true
byte_small b true quote plain s q p small = rw s refl
byte_small b false true plain s q p small = rw (s, q) refl
byte_small b false false true s q p small = let low : nat_lt b 128 ≡ true = grind arith in rw (s, q, p, low) refl
byte_small b false false false s q p small = rw (s, q, p, glyph_small (b / 16) (omega arith), glyph_small (b % 16) (omega arith)) refl

quoted_char : (c : ℕ) → scalar c ≡ true → IsUtf8 (flat_map quoted_byte (encode c))
quoted_char c is = ⊎_elim
    (λ small. rw (encode_ascii c small, append-nil) (IsUtf8-from_ascii (quoted_byte c) (small_text (quoted_byte c) (byte_small c (c == 32) (c == 34) (is_plain_byte c) refl refl refl small))))
    (λ high. rw (high_bytes_stay (encode c) (λ k inside. high_byte c high k inside)) (IsUtf8-encode c is))
    (cases_lt c 128)

quoted_chars : (cs : List ℕ) → all_scalars cs ≡ true → IsUtf8 (flat_map quoted_byte (encode_utf8_all cs))
quoted_chars [] all = IsUtf8-nil
quoted_chars (c ∷ cs) all =
    let parts = and_parts (scalar c) (all_scalars cs) all in
    rw flat_map-append (IsUtf8-append _ _ (quoted_char c parts.0) (quoted_chars cs parts.1))

quoted_utf8 : (name : List ℕ) → IsUtf8 name → IsUtf8 (quoted name)
quoted_utf8 name text =
    let inner : IsUtf8 (flat_map quoted_byte name) = subst (λ (bs : List ℕ). IsUtf8 (flat_map quoted_byte bs)) text.1.1 (quoted_chars text.0 text.1.0) in
    let quote : IsUtf8 (34 ∷ []) = IsUtf8-from_ascii (34 ∷ []) (small_text (34 ∷ []) refl) in
    IsUtf8-append (34 ∷ flat_map quoted_byte name) (34 ∷ []) (IsUtf8-append (34 ∷ []) (flat_map quoted_byte name) quote inner) quote

quoted_written : (name : List ℕ) → IsName name → IsWrittenWord (quoted name)
quoted_written name is = record {
  one = quoted_is_word name;
  few = quoted_few name is.few;
  utf8 = quoted_utf8 name (IsUtf8-from_is_utf8 name is.utf8);
  lone = free_of (λ b. nat_le 32 b) 10 (quoted name) (quoted_shown name) refl;
  closed = quoted_closed name;
}

-- ---- both

-- the spelling of a name is a word
pub spelled_is_written : (name : List ℕ) → IsName name → IsWrittenWord (spelling name)
spelled_is_written name is = at (needs_quotes name) refl
  where
    at : (needs : Bool) → needs_quotes name ≡ needs → IsWrittenWord (spelling name)
    at true e = subst IsWrittenWord (sym (spelled_quoted name e)) (quoted_written name is)
    at false e = subst IsWrittenWord (sym (spelled_bare name e)) (bare_written name is e)

ones : (words : Words) → All IsWrittenWord words → All IsOneWord words
ones [] all = All-nil IsOneWord
ones (word ∷ words) all = All-cons IsOneWord word words (All-head IsWrittenWord word words all).one (ones words (All-tail IsWrittenWord word words all))

-- written words with one space between them are read as these words
pub written_back : (word : List ℕ) (words : Words) → IsWrittenWord word → All IsWrittenWord words → words_of (word ++ spaced_words words) ≡ word ∷ words
written_back word words one all = words_back word words one.one (ones words all)
