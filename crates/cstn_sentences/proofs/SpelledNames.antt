-- A name is read from its spelling.
use Rattle.std.proofs.Common.{◌≡◌, ℕ, ◌-◌, Bool, true, false, not, List, [], ◌∷◌, ◌++◌, length, take, refl, ap, sym, ◌∙◌, arith, append-nil, append_assoc, length-append, Option, Some}
use Rattle.std.specs.Prelude.{◌==◌, ◌||◌, ◌&&◌, nat_lt, nat_le, flat_map, bytes_eq, if◌then◌else◌}
use Rattle.std.specs.List.{list_any}
use Rattle.std.specs.Option.{option_and_then}
use Rattle.std.specs.Str.{is_utf8}
use Rattle.std.proofs.Math.Seq.{take-append_seam}
use Rattle.std.proofs.lemmas.Bool.{true≢false}
use Rattle.std.proofs.lemmas.Slice.Eq.{bytes_eq-Decides}
use Rattle.cstn_facts.proofs.Booleans.{bytes_same}
use Rattle.cstn_markup.specs.Bytes.{when}
use Rattle.cstn_text.specs.Names.{IsName}
use Rattle.cstn_text.specs.PrintedNames.{is_plain_byte, printed_byte, printed_name, unprinted_after, unprinted}
use Rattle.cstn_text.proofs.PrintedNameLemmas.{text_back, name_back as printed_back, printed_once, shape_true}
use Rattle.cstn_sentences.specs.Spelling.{is_keyword, begins_with, has_space_or_quote, needs_quotes, quoted_byte, quoted, spelling, between_quotes, is_quoted_as, quoted_as, quoted_name, bare_name, name_spelled}

-- ---- in quotes

byte_back : (b : ℕ) (space quote : Bool) (rest : List ℕ) → (b == 32) ≡ space → (b == 34) ≡ quote → unprinted (quoted_byte b ++ rest) ≡ b ∷ unprinted rest
unfolding unprinted_after
byte_back b true quote rest s q = let is : b ≡ 32 = grind arith in rw is refl
byte_back b false true rest s q = let is : b ≡ 34 = grind arith in rw is refl
byte_back b false false rest s q = rw (s, q) (ap (λ (t : List ℕ). unprinted (t ++ rest)) (sym (append-nil (printed_byte b))) ∙ text_back (b ∷ []) rest)

-- the text that stands in quotes is given back
text_between : (text rest : List ℕ) → unprinted (flat_map quoted_byte text ++ rest) ≡ text ++ unprinted rest
text_between [] rest = refl
text_between (b ∷ text) rest =
    ap unprinted (append_assoc (quoted_byte b) (flat_map quoted_byte text) rest)
    ∙ byte_back b (b == 32) (b == 34) (flat_map quoted_byte text ++ rest) refl refl ∙ ap (λ (bs : List ℕ). b ∷ bs) (text_between text rest)

between : (inner : List ℕ) → between_quotes ((34 ∷ inner) ++ (34 ∷ [])) ≡ inner
between inner =
    let n : length (inner ++ (34 ∷ [])) - 1 ≡ length inner = omega (arith, length-append inner (34 ∷ [])) in
    ap (λ (k : ℕ). take k (inner ++ (34 ∷ []))) n ∙ take-append_seam inner (34 ∷ [])

told_back : (name : List ℕ) → unprinted (between_quotes (quoted name)) ≡ name
unfolding unprinted_after
told_back name =
    ap unprinted (between (flat_map quoted_byte name)) ∙ ap unprinted (sym (append-nil (flat_map quoted_byte name))) ∙ text_between name [] ∙ append-nil name

all_true : (utf8 short needs same : Bool) → utf8 ≡ true → short ≡ true → needs ≡ true → same ≡ true → (((utf8 && short) && needs) && same) ≡ true
all_true utf8 short needs same a b c d = rw (a, b, c, d) refl

quoted_is : (name : List ℕ) → IsName name → needs_quotes name ≡ true → is_quoted_as name (quoted name) ≡ true
quoted_is name is needs =
    all_true (is_utf8 name) (nat_lt 0 (length name) && nat_le (length name) 64) (needs_quotes name) (bytes_eq (quoted name) (quoted name))
    is.utf8 (shape_true (length name) is.some is.few) needs (bytes_same (quoted name))

quoted_back : (name : List ℕ) → IsName name → needs_quotes name ≡ true → name_spelled (quoted name) ≡ Some name
quoted_back name is needs = ap (λ (t : List ℕ). quoted_as t (quoted name)) (told_back name) ∙ ap (λ (b : Bool). when b name) (quoted_is name is needs)

-- ---- bare

pub needs_parts : (space first keyword : Bool) → (space || first || keyword) ≡ false → (space ≡ false) × (first ≡ false) × (keyword ≡ false)
needs_parts space first keyword e = grind arith

no_quote : (b : ℕ) (later : Bool) → ((b == 32 || b == 34) || later) ≡ false → (b == 34) ≡ false
no_quote b later e = grind arith

first_byte : (b : ℕ) (plain : Bool) (rest : List ℕ) → is_plain_byte b ≡ plain → (b == 34) ≡ false → begins_with 34 (printed_byte b ++ rest) ≡ false
first_byte b true rest e other = rw e other
first_byte b false rest e other = rw e refl

pub first_bare : (name : List ℕ) → has_space_or_quote name ≡ false → begins_with 34 (printed_name name) ≡ false
first_bare [] e = refl
first_bare (b ∷ name) e = first_byte b (is_plain_byte b) (printed_name name) refl (no_quote b (list_any (λ b. b == 32 || b == 34) name) e)

pub bare_parts : (name : List ℕ) → needs_quotes name ≡ false → (has_space_or_quote name ≡ false) × (begins_with 35 name ≡ false) × (is_keyword name ≡ false)
bare_parts name e = needs_parts (has_space_or_quote name) (begins_with 35 name) (is_keyword name) e

bare_back : (name : List ℕ) → IsName name → needs_quotes name ≡ false → name_spelled (printed_name name) ≡ Some name
bare_back name is bare =
    ap (λ (b : Bool). if b then quoted_name (printed_name name) else bare_name (printed_name name)) (first_bare name (bare_parts name bare).0)
    ∙ ap (λ (o : Option (List ℕ)). option_and_then (λ n. when (not (needs_quotes n)) n) o) (printed_back name is)
    ∙ ap (λ (b : Bool). when (not b) name) bare

-- ---- both

pub spelled_quoted : (name : List ℕ) → needs_quotes name ≡ true → spelling name ≡ quoted name
spelled_quoted name e = ap (λ (b : Bool). if b then quoted name else printed_name name) e

pub spelled_bare : (name : List ℕ) → needs_quotes name ≡ false → spelling name ≡ printed_name name
spelled_bare name e = ap (λ (b : Bool). if b then quoted name else printed_name name) e

-- the spelling of a name is read as the name
pub name_back : (name : List ℕ) → IsName name → name_spelled (spelling name) ≡ Some name
name_back name is = at (needs_quotes name) refl
  where
    at : (needs : Bool) → needs_quotes name ≡ needs → name_spelled (spelling name) ≡ Some name
    at true e = ap name_spelled (spelled_quoted name e) ∙ quoted_back name is e
    at false e = ap name_spelled (spelled_bare name e) ∙ bare_back name is e

-- ---- the spelling of a name is no keyword

printed_other : (name word : List ℕ) → printed_name word ≡ word → bytes_eq name word ≡ false → bytes_eq (printed_name name) word ≡ false
printed_other name word plain other = at (bytes_eq (printed_name name) word) refl
  where
    at : (same : Bool) → bytes_eq (printed_name name) word ≡ same → bytes_eq (printed_name name) word ≡ false
    at true e =
        let is : name ≡ word = printed_once name word ((bytes_eq-Decides (printed_name name) word).0 e ∙ sym plain) in
        absurd (true≢false (sym ((bytes_eq-Decides name word).1 is) ∙ other))
    at false e = e

-- a word that is printed as itself and doesn't begin with a quote is the spelling of no name but itself, and of none where it is a keyword
pub spelled_other : (name word : List ℕ) → printed_name word ≡ word → bytes_eq (quoted name) word ≡ false → (needs_quotes name ≡ false → bytes_eq name word ≡ false)
    → bytes_eq (spelling name) word ≡ false
spelled_other name word plain quote other = at (needs_quotes name) refl
  where
    at : (needs : Bool) → needs_quotes name ≡ needs → bytes_eq (spelling name) word ≡ false
    at true e = ap (λ (w : List ℕ). bytes_eq w word) (spelled_quoted name e) ∙ quote
    at false e = ap (λ (w : List ℕ). bytes_eq w word) (spelled_bare name e) ∙ printed_other name word plain (other e)
