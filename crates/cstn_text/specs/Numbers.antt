-- Numbers and values as texts.
use Rattle.std.specs.Prelude.{ℕ, ◌^◌, Bool, false, ◌&&◌, ◌||◌, not, ◌==◌, nat_lt, nat_le, List, [], ◌∷◌, length, Option, Some, None, if◌then◌else◌, decimal, ℤ, pos, neg_ℤ}
use Rattle.std.specs.Char.{is_ascii_digit}
use Rattle.std.specs.List.{list_all}
use Rattle.std.specs.Option.{option_and_then}
use Rattle.std.specs.Fmt.{signed_decimal}
use Rattle.std.specs.Str.Parse.{digits_value}

-- the text of a number: its decimal digits
abbrev pub printed_number : ℕ → List ℕ
printed_number n = decimal n

-- the text of a value: `-` where it is below 0, and its decimal digits
abbrev pub printed_value : ℤ → List ℕ
printed_value v = signed_decimal v

-- `0`, or digits that don't begin with `0`
abbrev pub is_numeral : List ℕ → Bool
is_numeral [] = false
is_numeral (d ∷ ds) = list_all is_ascii_digit (d ∷ ds) && (not (d == 48) || length ds == 0)

-- the number below 2^64 that a text is read as
abbrev pub number_read : List ℕ → Option ℕ
number_read text = if is_numeral text && nat_lt (digits_value 10 text) (2 ^ 64) then Some (digits_value 10 text) else None

-- the number from low to high that a text is read as
abbrev pub number_within : ℕ → ℕ → List ℕ → Option ℕ
number_within low high text = option_and_then (λ n. if nat_le low n && nat_le n high then Some n else None) (number_read text)

-- the value that a text is read as: `-` and a number from 1 to 2^31, or a number below 2^31
abbrev pub value_read : List ℕ → Option ℤ
value_read [] = None
value_read (b ∷ bytes) =
    if b == 45 then option_and_then (λ n. if nat_le 1 n && nat_le n (2 ^ 31) then Some (neg_ℤ (pos n)) else None) (number_read bytes)
    else option_and_then (λ n. if nat_lt n (2 ^ 31) then Some (pos n) else None) (number_read (b ∷ bytes))
