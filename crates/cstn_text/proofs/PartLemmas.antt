-- What is printed is one part of a line.
use Rattle.std.proofs.Common.{◌≡◌, ℕ, zero, suc, ◌<◌, ◌≤◌, ◌^◌, ◌/◌, ◌%◌, List, [], ◌∷◌, length, refl, arith, Bool, true, false}
use Rattle.std.specs.Prelude.{All, decimal, ℤ, pos, negsuc, FitsSigned}
use Rattle.std.specs.Int.{w32}
use Rattle.std.specs.Fmt.{digit_glyph}
use Rattle.std.specs.Str.Parse.{AllDigits}
use Rattle.std.proofs.lemmas.Fmt.{decimal_is_IsNumeral}
use Rattle.std.proofs.lemmas.Str.Parse.{digit_from_value}
use Rattle.std.proofs.lemmas.List.Elements.{All-nil, All-cons, All-append}
use Rattle.cstn_label.specs.declared.marks.Mark.{Mark}
use Rattle.cstn_label.specs.declared.marks.Mark.TheVariants.{Absent, Yes, No, Unknown}
use Rattle.cstn_label.specs.Labels.{Label}
use Rattle.cstn_label.specs.Letters.{letter_of}
use Rattle.cstn_text.specs.Numbers.{printed_number, printed_value}
use Rattle.cstn_text.specs.PrintedNames.{is_plain_byte, printed_byte, printed_name}
use Rattle.cstn_text.specs.PrintedLabels.{printed_mark, marks_below, or_dash, printed_label}
use Rattle.cstn_text.specs.Parts.{IsOnePart}
use Rattle.cstn_text.proofs.PrintedNameLemmas.{name_length}
use Rattle.cstn_label.proofs.LetterLemmas.{letter_above}

abbrev Above : ℕ → Type 0
Above b = 32 < b

abbrev AllAbove : List ℕ → Type 0
AllAbove text = All Above text

one : (a : ℕ) → 32 < a → AllAbove (a ∷ [])
one a x = All-cons Above a [] x (All-nil Above)

two : (a b : ℕ) → 32 < a → 32 < b → AllAbove (a ∷ b ∷ [])
two a b x y = All-cons Above a (b ∷ []) x (one b y)

glyph_above : (d : ℕ) → 32 < digit_glyph true d
glyph_above d = grind arith

plain_above : (b : ℕ) → is_plain_byte b ≡ true → 32 < b
plain_above b plain = grind arith

byte_above : (b : ℕ) (plain : Bool) → is_plain_byte b ≡ plain → AllAbove (printed_byte b)
byte_above b true e = rw e (one b (plain_above b e))
byte_above b false e = rw e (All-cons Above 37 (digit_glyph true (b / 16) ∷ digit_glyph true (b % 16) ∷ []) (omega arith) (two (digit_glyph true (b / 16)) (digit_glyph true (b % 16)) (glyph_above (b / 16)) (glyph_above (b % 16))))

name_above : (text : List ℕ) → AllAbove (printed_name text)
name_above [] = All-nil Above
name_above (b ∷ text) = All-append Above (printed_byte b) (printed_name text) (byte_above b (is_plain_byte b) refl) (name_above text)

pub name_part : (text : List ℕ) → 1 ≤ length text → IsOnePart (printed_name text)
name_part text full = record { some = omega (arith, (name_length text).0); high = name_above text }

pub mark_above : (letter : ℕ) (m : Mark) → 32 < letter → AllAbove (printed_mark letter m)
mark_above letter Absent high = All-nil Above
mark_above letter Yes high = one letter high
mark_above letter No high = two 33 letter (omega arith) high
mark_above letter Unknown high = two 63 letter (omega arith) high

marks_above : (a : Label) (n : ℕ) → AllAbove (marks_below a n)
unfolding marks_below
marks_above a zero = All-nil Above
marks_above a (suc n) = All-append Above (marks_below a n) (printed_mark (letter_of n) (a n)) (marks_above a n) (mark_above (letter_of n) (a n) (letter_above n))

dash_above : (text : List ℕ) → AllAbove text → AllAbove (or_dash text)
dash_above [] part = one 45 (omega arith)
dash_above (b ∷ text) part = part

dash_some : (text : List ℕ) → 0 < length (or_dash text)
dash_some [] = omega arith
dash_some (b ∷ text) = omega arith

label_some : (a : Label) → 0 < length (printed_label a)
label_some a = dash_some (marks_below a 52)

pub label_part : (a : Label) → IsOnePart (printed_label a)
label_part a = record { some = label_some a; high = dash_above (marks_below a 52) (marks_above a 52) }

digits_above : (text : List ℕ) → AllDigits 10 text → AllAbove text
digits_above [] all = All-nil Above
digits_above (b ∷ text) all = All-cons Above b text (omega (arith, digit_from_value b all.0)) (digits_above text all.1)

number_above : (n : ℕ) → n < 2 ^ 64 → AllAbove (printed_number n)
number_above n small = digits_above (decimal n) (decimal_is_IsNumeral n small).0.1

pub number_part : (n : ℕ) → n < 2 ^ 64 → IsOnePart (printed_number n)
number_part n small = record { some = (decimal_is_IsNumeral n small).0.0; high = number_above n small }

pub value_part : (v : ℤ) → FitsSigned w32 v → IsOnePart (printed_value v)
value_part (pos n) fits =
    let small : n < 2 ^ 31 = fits.sfits in
    number_part n (omega arith)
value_part (negsuc n) fits =
    let small : n < 2 ^ 31 = fits.sfits in
    record { some = omega arith; high = All-cons Above 45 (decimal (suc n)) (omega arith) (number_above (suc n) (omega arith)) }
