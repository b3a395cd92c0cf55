-- What is printed of a number or a value is read again, and nothing else is read.
use Rattle.std.proofs.Common.{◌≡◌, ℕ, zero, suc, ◌<◌, ◌≤◌, ◌^◌, List, [], ◌∷◌, length, get_or, refl, ap, sym, ◌∙◌, arith, rules, subst, Bool, true, false, not, ◌&&◌, ◌||◌}
use Rattle.std.specs.Prelude.{◌==◌, nat_lt, nat_le, Option, Some, None, Result, Ok, Err, if◌then◌else◌, decimal, ℤ, pos, negsuc, neg_ℤ, FitsSigned}
use Rattle.std.specs.Char.{is_ascii_digit}
use Rattle.std.specs.List.{list_all}
use Rattle.std.specs.Int.{w32}
use Rattle.std.specs.Option.{option_and_then}
use Rattle.std.specs.Result.{result_ok, OkIff}
use Rattle.std.specs.Str.{IsUtf8}
use Rattle.std.specs.Str.Parse.{digits_value, ParsesUnsigned}
use Rattle.std.proofs.lemmas.Bool.{false≢true}
use Rattle.std.proofs.lemmas.Str.{IsUtf8-from_ascii}
use Rattle.std.proofs.lemmas.Str.Parse.{IsDigitsTest, IsNumeralModel, numerals_by_value, parse_digits}
use Rattle.std.proofs.lemmas.Fmt.{IsAscii-from_digits, digits_decimal, digits_value-decimal, decimal_digit, decimal_nonempty, first_decimal, decimal-digits_value}
use Rattle.cstn_text.specs.Numbers.{printed_number, printed_value, is_numeral, number_read, value_read}

tells_digits : IsDigitsTest (λ ds. list_all is_ascii_digit ds ≡ true)
tells_digits = search rules

pub digits : IsNumeralModel (λ ds. list_all is_ascii_digit ds ≡ true) (digits_value 10)
digits = numerals_by_value _ tells_digits

-- what the test of a numeral says
pub record IsNumeralText (text : List ℕ) : Type 0 where
  pub digits : list_all is_ascii_digit text ≡ true
  pub some : 0 < length text
  pub lone_zero : get_or text 0 0 ≡ 48 → length text ≡ 1

numeral_parts : (all first : Bool) (d n : ℕ) → (all && (not (d == 48) || n == 0)) ≡ true → (all ≡ true) × (d ≡ 48 → suc n ≡ 1)
numeral_parts all first d n e = grind arith

pub numeral_text : (text : List ℕ) → is_numeral text ≡ true → IsNumeralText text
numeral_text [] e = absurd (false≢true e)
numeral_text (d ∷ ds) e =
    let parts = numeral_parts (list_all is_ascii_digit (d ∷ ds)) true d (length ds) e in
    record { digits = parts.0; some = omega arith; lone_zero = parts.1 }

is_numeral_parts : (all : Bool) (d n : ℕ) → all ≡ true → (d ≡ 48 → suc n ≡ 1) → (all && (not (d == 48) || n == 0)) ≡ true
is_numeral_parts all d n e lone = grind arith

pub is_numeral_text : (text : List ℕ) → IsNumeralText text → is_numeral text ≡ true
is_numeral_text [] is = absurd (omega (arith, is.some))
is_numeral_text (d ∷ ds) is = is_numeral_parts (list_all is_ascii_digit (d ∷ ds)) d (length ds) is.digits is.lone_zero

-- a numeral is UTF-8
pub numeral_utf8 : (text : List ℕ) → is_numeral text ≡ true → IsUtf8 text
numeral_utf8 text e = IsUtf8-from_ascii text (IsAscii-from_digits text (digits.to text (numeral_text text e).digits))

chosen : (numeral : Bool) (v : ℕ) → numeral ≡ true → v < 2 ^ 64 → (if numeral && nat_lt v (2 ^ 64) then Some v else None) ≡ Some v
chosen numeral v e small = grind arith

not_chosen : (numeral : Bool) (v : ℕ) → (v < 2 ^ 64 → ⊥) → None ≡ (if numeral && nat_lt v (2 ^ 64) then Some v else None)
not_chosen numeral v large = grind arith

picked : {E : Type 0} (r : Result ℕ E) (numeral : Bool) (n v : ℕ) → numeral ≡ true → 0 < n → OkIff r ((0 < n) × (v < 2 ^ 64)) v → result_ok r ≡ (if numeral && nat_lt v (2 ^ 64) then Some v else None)
picked (Ok x) numeral n v e some says = rw says.1 (sym (chosen numeral v e says.0.1))
picked (Err x) numeral n v e some says = not_chosen numeral v (λ small. says (some, small))

-- std parses a numeral as `number_read` reads it
pub parsed : {E : Type 0} (text : List ℕ) (r : Result ℕ E) → ParsesUnsigned 64 10 text r → is_numeral text ≡ true → result_ok r ≡ number_read text
parsed text r says numeral =
    let is = numeral_text text numeral in
    picked r (is_numeral text) (length text) (digits_value 10 text) numeral is.some (parse_digits digits 64 text r says is.digits)

lone_zero : (n : ℕ) → n < 2 ^ 64 → get_or (decimal n) 0 0 ≡ 48 → length (decimal n) ≡ 1
lone_zero zero small first = rw (decimal_digit 0 (omega arith)) refl
lone_zero (suc n) small first = absurd (omega (arith, first_decimal (suc n) (omega arith) small))

-- a printed number is read again
pub number_back : (n : ℕ) → n < 2 ^ 64 → number_read (printed_number n) ≡ Some n
number_back n small =
    let is : IsNumeralText (decimal n) = record { digits = digits_decimal digits n small; some = decimal_nonempty n small; lone_zero = lone_zero n small } in
    let v : digits_value 10 (decimal n) ≡ n = digits_value-decimal digits n small in
    chosen (is_numeral (decimal n)) (digits_value 10 (decimal n)) (is_numeral_text (decimal n) is) (rw v small) ∙ ap Some v

chosen_is : (numeral : Bool) (v n : ℕ) → (if numeral && nat_lt v (2 ^ 64) then Some v else None) ≡ Some n → (numeral ≡ true) × (v < 2 ^ 64) × (v ≡ n)
chosen_is numeral v n e = grind arith

-- a text that is read as a number is that number's printed form, and the number is below 2^64
pub number_printed : (text : List ℕ) (n : ℕ) → number_read text ≡ Some n → (printed_number n ≡ text) × (n < 2 ^ 64)
number_printed text n e =
    let found = chosen_is (is_numeral text) (digits_value 10 text) n e in
    let is = numeral_text text found.0 in (
      ap decimal (sym found.2) ∙ decimal-digits_value digits text is.digits is.some is.lone_zero found.1,
      rw (← found.2) found.1,
    )

abbrev from_zero : ℕ → Option ℤ
from_zero n = if nat_lt n (2 ^ 31) then Some (pos n) else None

abbrev below_zero : ℕ → Option ℤ
below_zero n = if nat_le 1 n && nat_le n (2 ^ 31) then Some (neg_ℤ (pos n)) else None

from_zero_small : (n : ℕ) → n < 2 ^ 31 → from_zero n ≡ Some (pos n)
from_zero_small n small = grind arith

below_zero_small : (n : ℕ) → n < 2 ^ 31 → below_zero (suc n) ≡ Some (negsuc n)
below_zero_small n small =
    let in_range : (nat_le 1 (suc n) && nat_le (suc n) (2 ^ 31)) ≡ true = grind arith in
    rw in_range refl

from_zero_is : (n : ℕ) (v : ℤ) → from_zero n ≡ Some v → (pos n ≡ v) × (n < 2 ^ 31)
from_zero_is n v e = grind arith

below_zero_is : (n : ℕ) (v : ℤ) → below_zero n ≡ Some v → (neg_ℤ (pos n) ≡ v) × (1 ≤ n) × (n ≤ 2 ^ 31)
below_zero_is n v e = grind arith

not_minus : (b : ℕ) (rest : Bool) → (is_ascii_digit b && rest) ≡ true → (b == 45) ≡ false
not_minus b rest e = grind arith

number_then : (text : List ℕ) (n : ℕ) → number_read text ≡ Some n → value_read text ≡ from_zero n
number_then [] n e = absurd (cc)
number_then (b ∷ bytes) n e =
    let found = chosen_is (is_numeral (b ∷ bytes)) (digits_value 10 (b ∷ bytes)) n e in
    let is = numeral_text (b ∷ bytes) found.0 in
    rw (not_minus b (list_all is_ascii_digit bytes) is.digits, e) refl

-- a printed value is read again
pub value_back : (v : ℤ) → FitsSigned w32 v → value_read (printed_value v) ≡ Some v
value_back (pos n) fits =
    let small : n < 2 ^ 31 = fits.sfits in
    number_then (decimal n) n (number_back n (omega arith)) ∙ from_zero_small n small
value_back (negsuc n) fits =
    let small : n < 2 ^ 31 = fits.sfits in
    ap (option_and_then below_zero) (number_back (suc n) (omega arith)) ∙ below_zero_small n small

minus_text : (n : ℕ) (v : ℤ) (bytes : List ℕ) → below_zero n ≡ Some v → decimal n ≡ bytes → (printed_value v ≡ 45 ∷ bytes) × FitsSigned w32 v
minus_text zero v bytes e is = absurd (omega (arith, (below_zero_is zero v e).1))
minus_text (suc n) v bytes e is =
    let found = below_zero_is (suc n) v e in
    subst (λ (w : ℤ). (printed_value w ≡ 45 ∷ bytes) × FitsSigned w32 w) found.0 (ap (λ (bs : List ℕ). 45 ∷ bs) is, record { sfits = omega (arith, found.2) })

plain_text : (n : ℕ) (v : ℤ) (bytes : List ℕ) → from_zero n ≡ Some v → decimal n ≡ bytes → (printed_value v ≡ bytes) × FitsSigned w32 v
plain_text n v bytes e is =
    let found = from_zero_is n v e in
    subst (λ (w : ℤ). (printed_value w ≡ bytes) × FitsSigned w32 w) found.0 (is, record { sfits = found.1 })

minus_read : (bytes : List ℕ) (found : Option ℕ) (v : ℤ) → number_read bytes ≡ found → option_and_then below_zero found ≡ Some v → (printed_value v ≡ 45 ∷ bytes) × FitsSigned w32 v
minus_read bytes None v is e = absurd (cc)
minus_read bytes (Some n) v is e = minus_text n v bytes e (number_printed bytes n is).0

plain_read : (bytes : List ℕ) (found : Option ℕ) (v : ℤ) → number_read bytes ≡ found → option_and_then from_zero found ≡ Some v → (printed_value v ≡ bytes) × FitsSigned w32 v
plain_read bytes None v is e = absurd (cc)
plain_read bytes (Some n) v is e = plain_text n v bytes e (number_printed bytes n is).0

value_cases : (b : ℕ) (bytes : List ℕ) (minus : Bool) (v : ℤ) → (b == 45) ≡ minus
    → (if minus then option_and_then below_zero (number_read bytes) else option_and_then from_zero (number_read (b ∷ bytes))) ≡ Some v → (printed_value v ≡ b ∷ bytes) × FitsSigned w32 v
value_cases b bytes true v is e =
    let same : b ≡ 45 = grind arith in
    rw same (minus_read bytes (number_read bytes) v refl e)
value_cases b bytes false v is e = plain_read (b ∷ bytes) (number_read (b ∷ bytes)) v refl e

-- a text that is read as a value is that value's printed form, and the value is in range
pub value_printed : (text : List ℕ) (v : ℤ) → value_read text ≡ Some v → (printed_value v ≡ text) × FitsSigned w32 v
value_printed [] v e = absurd (cc)
value_printed (b ∷ bytes) v e = value_cases b bytes (b == 45) v refl e
