-- Names and their spelling.
use Rattle.std.proofs.Common.{◌≡◌, ◌≤◌, ℕ, List, length, arith, Bool, true, false, ◌&&◌, None}
use Rattle.std.specs.Prelude.{nat_lt, nat_le, bytes_eq}
use Rattle.std.specs.Str.{is_utf8, IsUtf8}
use Rattle.std.proofs.lemmas.Bool.{false≢true}
use Rattle.std.proofs.lemmas.Str.{IsUtf8-from_is_utf8, is_utf8-from_IsUtf8}
use Rattle.cstn_markup.specs.Bytes.{when}
use Rattle.cstn_text.specs.Names.{IsName}
use Rattle.cstn_sentences.specs.Spelling.{needs_quotes, quoted, is_quoted_as, quoted_as}

name_parts : (utf8 : Bool) (n : ℕ) (needs same : Bool) → (((utf8 && (nat_lt 0 n && nat_le n 64)) && needs) && same) ≡ true → (utf8 ≡ true) × (1 ≤ n) × (n ≤ 64)
name_parts utf8 n needs same e = grind arith

-- what is spelled in quotes is a name
pub quoted_is_name : (name word : List ℕ) → is_quoted_as name word ≡ true → IsName name
quoted_is_name name word e =
    let parts = name_parts (is_utf8 name) (length name) (needs_quotes name) (bytes_eq (quoted name) word) e in
    record { some = parts.1; few = parts.2; utf8 = parts.0 }

refused : {A : Type 0} (utf8 short needs same : Bool) (x : A) → (utf8 ≡ true → ⊥) → None ≡ when (((utf8 && short) && needs) && same) x
refused true short needs same x wrong = absurd (wrong (let e : true ≡ true = cc in e))
refused false short needs same x wrong = grind arith

-- what isn't UTF-8 is no name
pub no_text : (name word : List ℕ) → (IsUtf8 name → false ≡ true) → None ≡ quoted_as name word
no_text name word wrong =
    refused (is_utf8 name) (nat_lt 0 (length name) && nat_le (length name) 64) (needs_quotes name) (bytes_eq (quoted name) word) name
    (λ e. false≢true (wrong (IsUtf8-from_is_utf8 name e)))

accepted : (utf8 short needs same : Bool) → utf8 ≡ true → short ≡ true → needs ≡ true → same ≡ (((utf8 && short) && needs) && same)
accepted utf8 short needs same a b c = rw (a, b, c) (let h : same ≡ (((true && true) && true) && same) = grind arith in h)

-- a text that needs quotes is a name, where it is short
pub quoted_by_word : (name word : List ℕ) → IsUtf8 name → (nat_lt 0 (length name) && nat_le (length name) 64) ≡ true → needs_quotes name ≡ true
    → bytes_eq (quoted name) word ≡ is_quoted_as name word
quoted_by_word name word utf8 short needs =
    accepted (is_utf8 name) (nat_lt 0 (length name) && nat_le (length name) 64) (needs_quotes name) (bytes_eq (quoted name) word) (is_utf8-from_IsUtf8 name utf8) short needs
