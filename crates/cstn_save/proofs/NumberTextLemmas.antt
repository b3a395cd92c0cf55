-- Printed numbers and values are read back as the numbers of a document.
use Rattle.std.proofs.Common.{◌≡◌, ℕ, suc, ◌+◌, ◌*◌, ◌<◌, ◌≤◌, ◌^◌, List, [], ◌∷◌, length, refl, ap, ◌∙◌, arith, true, false, ◌&&◌}
use Rattle.std.specs.Prelude.{◌==◌, nat_lt, nat_le, Some, None, decimal, ℤ, pos, negsuc, FitsSigned}
use Rattle.std.specs.Char.{is_ascii_digit, is_digit, digit_value}
use Rattle.std.specs.List.{list_all}
use Rattle.std.specs.Int.{w32}
use Rattle.std.specs.Str.Parse.{digits_value_after}
use Rattle.std.proofs.lemmas.Bool.{and_parts}
use Rattle.std.proofs.lemmas.Fmt.{digits_decimal, digits_value-decimal, decimal_nonempty, length-decimal-le}
use Rattle.cstn_net.specs.Limits.{most_reaction}
use Rattle.cstn_text.specs.Numbers.{printed_number, printed_value}
use Rattle.cstn_text.proofs.NumberLemmas.{digits}
use Rattle.cstn_markup.specs.Bytes.{number_after}
use Rattle.cstn_element.specs.NumberTexts.{short_number, few_ticks, reaction_in, integer_text, past_minus}

digit_is : (d : ℕ) → is_ascii_digit d ≡ true → is_digit d 10 ≡ true
digit_is d h = grind arith

number_along : (ds : List ℕ) (n : ℕ) → list_all is_ascii_digit ds ≡ true → number_after 10 n ds ≡ Some (digits_value_after 10 n ds)
unfolding number_after
number_along [] n h = refl
number_along (d ∷ ds) n h =
    let p = and_parts _ (list_all is_ascii_digit ds) h in
    rw (digit_is d p.0) (number_along ds (n * 10 + digit_value d) p.1)

pub decimal_digits : (n : ℕ) → n < 2 ^ 64 → list_all is_ascii_digit (decimal n) ≡ true
decimal_digits n small = digits_decimal digits n small

-- the digits of a number are read as the number
pub number_back : (n : ℕ) → n < 2 ^ 64 → number_after 10 0 (decimal n) ≡ Some n
number_back n small = number_along (decimal n) 0 (decimal_digits n small) ∙ ap Some (digits_value-decimal digits n small)

sized : (bytes : List ℕ) (limit n k : ℕ) → 0 < length bytes → length bytes ≤ 10 → n < limit → number_after 10 0 bytes ≡ Some n → short_number limit bytes ≡ Some n
sized bytes limit n k some few small e =
    let fits : (nat_lt 0 (length bytes) && nat_le (length bytes) 10) ≡ true = grind arith in
    let below : nat_lt n limit ≡ true = grind arith in
    rw (fits, e, below) refl

-- a number of at most ten digits is read back
pub short_back : (limit n : ℕ) → n < limit → limit ≤ 10 ^ 10 → short_number limit (decimal n) ≡ Some n
short_back limit n small low =
    let n64 : n < 2 ^ 64 = omega arith in
    sized (decimal n) limit n 0 (decimal_nonempty n n64) (length-decimal-le 10 n (omega arith) (omega arith) n64) small (number_back n n64)

pub deadline_back : (n : ℕ) → n < 2 ^ 32 → short_number (2 ^ 32) (printed_number n) ≡ Some n
deadline_back n small = short_back (2 ^ 32) n small (omega arith)

not_empty : (bytes : List ℕ) (n : ℕ) → 0 < length bytes → few_ticks bytes ≡ Some n → reaction_in bytes ≡ Some n
not_empty [] n some e = absurd (omega arith)
not_empty (b ∷ bytes) n some e = e

-- a reaction is read back
pub reaction_back : (n : ℕ) → 0 < n → n ≤ most_reaction → reaction_in (printed_number n) ≡ Some n
reaction_back n some soon =
    let n64 : n < 2 ^ 64 = omega arith in
    let short : length (decimal n) ≤ 4 = length-decimal-le 4 n (omega arith) (omega arith) n64 in
    let few : nat_le (length (decimal n)) 4 ≡ true = grind arith in
    let above : nat_lt 0 n ≡ true = grind arith in
    not_empty (decimal n) n (decimal_nonempty n n64) (rw (few, short_back 1001 n (omega arith) (omega arith), above) refl)

no_minus : (bytes : List ℕ) → list_all is_ascii_digit bytes ≡ true → past_minus bytes ≡ None
no_minus [] h = refl
no_minus (b ∷ bytes) h =
    let p = and_parts _ (list_all is_ascii_digit bytes) h in
    let n : (b == 45) ≡ false = grind arith in
    let m : (b == 226) ≡ false = grind arith in
    rw (n, m) refl

-- a printed value is an integer text of it
pub integer_back : (v : ℤ) → FitsSigned w32 v → integer_text (printed_value v) ≡ Some v
integer_back (pos n) fits =
    let small : n < 2 ^ 31 = fits.sfits in
    rw (no_minus (decimal n) (decimal_digits n (omega arith)), short_back 2147483648 n small (omega arith)) refl
integer_back (negsuc n) fits =
    let small : n < 2 ^ 31 = fits.sfits in
    rw (short_back 2147483649 (suc n) (omega arith) (omega arith)) refl
