-- Escaped names: putting the references in gives the name back, and neither a quote nor `<` stands in them.
use Rattle.std.proofs.Common.{◌≡◌, ℕ, ◌+◌, ◌<◌, ◌≤◌, List, [], ◌∷◌, ◌++◌, length, refl, ◌∙◌, arith, Bool, true, false, not, ◌&&◌, ◌||◌, append_assoc}
use Rattle.std.specs.Prelude.{◌==◌, nat_lt, nat_le, Option, Some, if◌then◌else◌, decimal, codes}
use Rattle.std.specs.Char.{is_ascii_digit, encode_utf8}
use Rattle.std.specs.List.{list_all}
use Rattle.std.proofs.lemmas.Fmt.{decimal_nonempty, length-decimal-le}
use Rattle.std.proofs.Math.Seq.{take-append_seam, drop-append_seam}
use Rattle.std.proofs.lemmas.Bool.{eqb-true}
use Rattle.std.proofs.lemmas.List.{length-append}
use Rattle.cstn_text.specs.Numbers.{printed_number}
use Rattle.cstn_markup.specs.Bytes.{◌>>=◌, resolved, resolved_after, piece_at, reference_at, scalar_of, character_of, number_after, is_character}
use Rattle.cstn_markup.specs.Tokens.{attribute_value_at}
use Rattle.cstn_markup.proofs.Skips.{resolved_skip}
use Rattle.cstn_save.specs.Canonical.{is_numbered, escaped_byte, escaped_name}
use Rattle.cstn_save.proofs.NumberTextLemmas.{decimal_digits, number_back}
use Rattle.cstn_save.proofs.RunLemmas.{all_for, both_all, run_len, past_stop}

-- the byte b is what is put in for the bytes in front of the rest
abbrev Gives : List ℕ → ℕ → List ℕ → Type 0
Gives bytes b rest = resolved_after 0 (bytes ++ rest) ≡ (resolved_after 0 rest >>= λ more. Some (b ∷ more))

-- a reference: its name, and the semicolon behind it
reference_here : (name rest : List ℕ) (c : ℕ) → list_all (λ b. not (b == 59)) name ≡ true → character_of name ≡ Some c → reference_at (name ++ 59 ∷ rest) ≡ Some (c, length name + 1)
reference_here name rest c h e =
    let inside : nat_lt (length name) (length (name ++ 59 ∷ rest)) ≡ true = grind (arith, length-append name (59 ∷ rest)) in
    rw (run_len (λ b. not (b == 59)) name 59 rest h refl, inside, take-append_seam name (59 ∷ rest), e) refl

encoded : (c : ℕ) → c < 128 → encode_utf8 c ≡ c ∷ []
unfolding encode_utf8
encoded c small = grind arith

reference_gives : (name rest : List ℕ) (c : ℕ) → c < 128 → list_all (λ b. not (b == 59)) name ≡ true → character_of name ≡ Some c → Gives (38 ∷ (name ++ (59 ∷ []))) c rest
unfolding resolved_after piece_at
reference_gives name rest c small h e =
    rw (append_assoc name (59 ∷ []) rest, reference_here name rest c h e, encoded c small, resolved_skip (length name + 1) (name ++ 59 ∷ rest), past_stop name 59 rest) refl

-- a digit is no semicolon
no_semicolon : (b : ℕ) → is_ascii_digit b ≡ true → not (b == 59) ≡ true
no_semicolon b h = grind arith

numbered_small : (b : ℕ) → is_numbered b ≡ true → (b < 128) × (is_character b ≡ true)
numbered_small b h = grind arith

sized : (bytes : List ℕ) (n : ℕ) → 0 < length bytes → length bytes ≤ 8 → number_after 10 0 bytes ≡ Some n → is_character n ≡ true → scalar_of 10 bytes ≡ Some n
sized bytes n some few e is =
    let fits : (nat_lt 0 (length bytes) && nat_le (length bytes) 8) ≡ true = grind arith in
    rw (fits, e, is) refl

-- the digits of a number don't begin with `x`
no_x : (bytes : List ℕ) → list_all is_ascii_digit bytes ≡ true → character_of (35 ∷ bytes) ≡ scalar_of 10 bytes
no_x [] h = refl
no_x (b ∷ bytes) h =
    let other : (b == 120) ≡ false = grind arith in
    rw other refl

number_named : (b : ℕ) → is_numbered b ≡ true → character_of (35 ∷ decimal b) ≡ Some b
number_named b h =
    let is = numbered_small b h in
    no_x (decimal b) (decimal_digits b (omega (arith, is.0)))
    ∙ sized (decimal b) b (decimal_nonempty b (omega (arith, is.0))) (length-decimal-le 8 b (omega arith) (omega (arith, is.0)) (omega (arith, is.0))) (number_back b (omega (arith, is.0))) is.1

numbered_gives : (b : ℕ) (rest : List ℕ) → is_numbered b ≡ true → Gives (codes "&#" ++ printed_number b ++ codes ";") b rest
numbered_gives b rest h =
    let is = numbered_small b h in
    reference_gives (35 ∷ decimal b) rest b is.0 (all_for is_ascii_digit (λ c. not (c == 59)) (decimal b) no_semicolon (decimal_digits b (omega (arith, is.0)))) (number_named b h)

itself : (b : ℕ) (rest : List ℕ) → (b == 38) ≡ false → Gives (b ∷ []) b rest
unfolding resolved_after piece_at
itself b rest h = rw h refl

byte_cases : (b : ℕ) (rest : List ℕ) (n a l g q : Bool) → (b == 38) ≡ a → (b == 60) ≡ l → (b == 62) ≡ g → (b == 34) ≡ q → is_numbered b ≡ n
    → Gives (if a then codes "&amp;" else if l then codes "&lt;" else if g then codes "&gt;" else if q then codes "&quot;" else if n then codes "&#" ++ printed_number b ++ codes ";" else b ∷ []) b rest
byte_cases b rest n true l g q ea el eg eq en = rw (eqb-true b 38 ea) (reference_gives (codes "amp") rest 38 (omega arith) refl refl)
byte_cases b rest n false true g q ea el eg eq en = rw (eqb-true b 60 el) (reference_gives (codes "lt") rest 60 (omega arith) refl refl)
byte_cases b rest n false false true q ea el eg eq en = rw (eqb-true b 62 eg) (reference_gives (codes "gt") rest 62 (omega arith) refl refl)
byte_cases b rest n false false false true ea el eg eq en = rw (eqb-true b 34 eq) (reference_gives (codes "quot") rest 34 (omega arith) refl refl)
byte_cases b rest true false false false false ea el eg eq en = numbered_gives b rest en
byte_cases b rest false false false false false ea el eg eq en = itself b rest ea

byte_gives : (b : ℕ) (rest : List ℕ) → Gives (escaped_byte b) b rest
byte_gives b rest = byte_cases b rest (is_numbered b) (b == 38) (b == 60) (b == 62) (b == 34) refl refl refl refl refl

some_more : (b : ℕ) (o : Option (List ℕ)) (name : List ℕ) → o ≡ Some name → (o >>= λ more. Some (b ∷ more)) ≡ Some (b ∷ name)
some_more b o name e = rw e refl

-- putting the references in gives the name back
pub name_back : (name : List ℕ) → resolved (escaped_name name) ≡ Some name
unfolding resolved_after
name_back [] = refl
name_back (b ∷ name) = byte_gives b (escaped_name name) ∙ some_more b (resolved_after 0 (escaped_name name)) name (name_back name)

-- a byte that is neither a quote nor `<`
abbrev is_of_value : ℕ → Bool
is_of_value b = not (b == 34 || b == 60)

digit_of_value : (b : ℕ) → is_ascii_digit b ≡ true → is_of_value b ≡ true
digit_of_value b h = grind arith

other_of_value : (b : ℕ) → (b == 60) ≡ false → (b == 34) ≡ false → is_of_value b ≡ true
other_of_value b l q = grind arith

value_cases : (b : ℕ) (n a l g q : Bool) → (b == 38) ≡ a → (b == 60) ≡ l → (b == 62) ≡ g → (b == 34) ≡ q → is_numbered b ≡ n
    → list_all is_of_value (if a then codes "&amp;" else if l then codes "&lt;" else if g then codes "&gt;" else if q then codes "&quot;" else if n then codes "&#" ++ printed_number b ++ codes ";" else b ∷ []) ≡ true
value_cases b n true l g q ea el eg eq en = refl
value_cases b n false true g q ea el eg eq en = refl
value_cases b n false false true q ea el eg eq en = refl
value_cases b n false false false true ea el eg eq en = refl
value_cases b true false false false false ea el eg eq en =
    let small = (numbered_small b en).0 in
    both_all is_of_value (printed_number b) (codes ";") (all_for is_ascii_digit is_of_value (decimal b) digit_of_value (decimal_digits b (omega (arith, small)))) refl
value_cases b false false false false false ea el eg eq en = rw (other_of_value b el eq) refl

byte_of_value : (b : ℕ) → list_all is_of_value (escaped_byte b) ≡ true
byte_of_value b = value_cases b (is_numbered b) (b == 38) (b == 60) (b == 62) (b == 34) refl refl refl refl refl

name_of_value : (name : List ℕ) → list_all is_of_value (escaped_name name) ≡ true
name_of_value [] = refl
name_of_value (b ∷ name) = both_all is_of_value (escaped_byte b) (escaped_name name) (byte_of_value b) (name_of_value name)

-- an escaped name between two quotes is a value
pub name_quoted : (name rest : List ℕ) → attribute_value_at (34 ∷ (escaped_name name ++ 34 ∷ rest)) ≡ Some (escaped_name name, rest)
name_quoted name rest =
    rw (run_len is_of_value (escaped_name name) 34 rest (name_of_value name) refl, drop-append_seam (escaped_name name) (34 ∷ rest), take-append_seam (escaped_name name) (34 ∷ rest), name_back name) refl
