-- Numbers of ticks and ranges are read from what is written of them.
use Rattle.std.proofs.Common.{◌≡◌, ◌≢◌, ℕ, suc, ◌+◌, ◌<◌, ◌≤◌, ◌^◌, Bool, true, false, List, [], ◌∷◌, ◌++◌, length, refl, ap, sym, ◌∙◌, arith, append-nil, Option, Some, None}
use Rattle.std.specs.Prelude.{◌==◌, ◌||◌, ◌&&◌, nat_lt, min, All, decimal, ℤ, pos, negsuc, int_le, int_lt, codes, if◌then◌else◌}
use Rattle.std.specs.List.{list_all}
use Rattle.std.specs.Option.{option_map}
use Rattle.std.specs.Char.{is_ascii_digit}
use Rattle.std.specs.Str.Parse.{digits_value}
use Rattle.std.proofs.lemmas.Bool.{true≢false, and_parts}
use Rattle.std.proofs.lemmas.List.Elements.{All-nil, All-cons}
use Rattle.std.proofs.lemmas.List.Folds.{list_all-append}
use Rattle.std.proofs.lemmas.Fmt.{digits_decimal, decimal_nonempty, length-decimal-le}
use Rattle.cstn_markup.specs.Bytes.{◌>>=◌, when}
use Rattle.cstn_text.specs.Cuts.{cut_at}
use Rattle.cstn_text.specs.Numbers.{is_numeral}
use Rattle.cstn_text.proofs.CutLemmas.{cut_back, cut_joined}
use Rattle.cstn_text.proofs.NumberLemmas.{digits, number_back}
use Rattle.cstn_sentences.specs.Limits.{most_ticks}
use Rattle.cstn_sentences.specs.Judged.{is_sized}
use Rattle.cstn_sentences.specs.declared.lines.Span.{Span}
use Rattle.cstn_sentences.specs.Spans.{digits_read, ticks_read, span_of_ticks, time_by, time_read}
use Rattle.cstn_sentences.specs.Spans.{negated, span_read, range_to, past_point, range_by, range_read}
use Rattle.cstn_sentences.specs.Printed.{span_word, range_word}
use Rattle.cstn_sentences.specs.Sentences.{ticks, from_to, from_on}

-- ---- texts that aren't cut

and_false : (a : Bool) → (a && false) ≡ false
and_false a = grind arith

-- a text isn't cut at a byte that none of its bytes is
pub uncut : (p : ℕ → Bool) (byte : ℕ) (text : List ℕ) → list_all p text ≡ true → p byte ≡ false → cut_at byte text ≡ None
uncut p byte text all other = at (cut_at byte text) refl
  where
    at : (cut : Option (List ℕ × List ℕ)) → cut_at byte text ≡ cut → cut_at byte text ≡ None
    at None e = e
    at (Some parts) e =
        let joined : text ≡ parts.0 ++ byte ∷ parts.1 = cut_joined byte text parts.0 parts.1 e in
        let none : list_all p text ≡ false =
        ap (list_all p) joined ∙ list_all-append p parts.0 (byte ∷ parts.1)
        ∙ ap (λ (b : Bool). list_all p parts.0 && (b && list_all p parts.1)) other ∙ and_false (list_all p parts.0) in
        absurd (true≢false (sym all ∙ none))

pub three_true : (a b c : Bool) → a ≡ true → b ≡ true → c ≡ true → ((a && b) && c) ≡ true
three_true a b c x y z = rw (x, y, z) refl

pub free_of : (p : ℕ → Bool) (byte : ℕ) (text : List ℕ) → list_all p text ≡ true → p byte ≡ false → All (λ b. b ≢ byte) text
free_of p byte [] all other = All-nil (λ b. b ≢ byte)
free_of p byte (b ∷ text) all other =
    let parts = and_parts (p b) (list_all p text) all in
    All-cons (λ b. b ≢ byte) b text (λ same. absurd (true≢false (sym parts.0 ∙ ap p same ∙ other))) (free_of p byte text parts.1 other)

-- ---- digits

pub small_enough : (n : ℕ) → n ≤ most_ticks → n < 2 ^ 64
small_enough n h = omega (arith, h)

decimal_digits : (n : ℕ) → n ≤ most_ticks → list_all is_ascii_digit (decimal n) ≡ true
decimal_digits n h = digits_decimal digits n (small_enough n h)

numeral_of : (numeral : Bool) (v n : ℕ) → (if numeral && nat_lt v (2 ^ 64) then Some v else None) ≡ Some n → (numeral ≡ true) × (v ≡ n)
numeral_of numeral v n e = grind arith

ticks_of : (numeral some all : Bool) (v n : ℕ) (text : List ℕ) → numeral ≡ true → some ≡ true → all ≡ true → v ≡ n → n ≤ most_ticks
    → when (some && all) (min v (most_ticks + 1)) ≡ Some n
ticks_of numeral some all v n text a b c is few =
    let least : min n (most_ticks + 1) ≡ n = grind arith in
    rw (b, c, is, least) refl

ticks_back : (n : ℕ) → n ≤ most_ticks → ticks_read (decimal n) ≡ Some n
ticks_back n few =
    let text : List ℕ = decimal n in
    let is = numeral_of (is_numeral text) (digits_value 10 text) n (number_back n (small_enough n few)) in
    let some : nat_lt 0 (length text) ≡ true = grind (arith, decimal_nonempty n (small_enough n few)) in
    ap (λ (b : Bool). when b text >>= digits_read) is.0
    ∙ ticks_of (is_numeral text) (nat_lt 0 (length text)) (list_all is_ascii_digit text) (digits_value 10 text) n text is.0 some (decimal_digits n few) is.1 few

-- ---- times and spans

pub time_back : (n : ℕ) → n ≤ most_ticks → time_read (decimal n) ≡ Some (span_of_ticks false n)
time_back n few =
    ap (time_by (decimal n)) (uncut is_ascii_digit 58 (decimal n) (decimal_digits n few) refl)
    ∙ ap (option_map (span_of_ticks false)) (ticks_back n few)

no_minus : (b : ℕ) → is_ascii_digit b ≡ true → (b == 45) ≡ false
no_minus b e = grind arith

digits_span : (text : List ℕ) (span : Span) → list_all is_ascii_digit text ≡ true → time_read text ≡ Some span → 0 < length text → span_read text ≡ Some span
digits_span [] span all is some = absurd (omega (arith, some))
digits_span (b ∷ bytes) span all is some =
    ap (λ (minus : Bool). if minus then time_read bytes >>= negated else time_read (b ∷ bytes)) (no_minus b (and_parts (is_ascii_digit b) (list_all is_ascii_digit bytes) all).0) ∙ is

below_zero : (n : ℕ) → int_lt (pos 0) (pos (suc n)) ≡ true
below_zero n = grind arith

-- a number of ticks is read from what is written of it
pub span_back : (v : ℤ) → is_sized v ≡ true → span_read (span_word (ticks v)) ≡ Some (ticks v)
span_back (pos n) sized =
    let few : n ≤ most_ticks = grind (arith, sized) in
    digits_span (decimal n) (span_of_ticks false n) (decimal_digits n few) (time_back n few) (decimal_nonempty n (small_enough n few))
span_back (negsuc n) sized =
    let few : suc n ≤ most_ticks = grind (arith, sized) in
    ap (λ (o : Option Span). o >>= negated) (time_back (suc n) few) ∙ ap (λ (b : Bool). when b (ticks (negsuc n))) (below_zero n)

-- ---- ranges

-- the bytes of a number of ticks are digits, and `-` before them
abbrev pub is_of_ticks : ℕ → Bool
is_of_ticks b = is_ascii_digit b || b == 45

digit_of_ticks : (b : ℕ) → is_ascii_digit b ≡ true → is_of_ticks b ≡ true
digit_of_ticks b e = grind arith

all_of_ticks : (text : List ℕ) → list_all is_ascii_digit text ≡ true → list_all is_of_ticks text ≡ true
all_of_ticks [] all = refl
all_of_ticks (b ∷ text) all =
    let parts = and_parts (is_ascii_digit b) (list_all is_ascii_digit text) all in
    rw (digit_of_ticks b parts.0, all_of_ticks text parts.1) refl

pub span_bytes : (v : ℤ) → is_sized v ≡ true → list_all is_of_ticks (span_word (ticks v)) ≡ true
span_bytes (pos n) sized = let few : n ≤ most_ticks = grind (arith, sized) in all_of_ticks (decimal n) (decimal_digits n few)
span_bytes (negsuc n) sized = let few : suc n ≤ most_ticks = grind (arith, sized) in all_of_ticks (decimal (suc n)) (decimal_digits (suc n) few)

pub span_some : (v : ℤ) → is_sized v ≡ true → 1 ≤ length (span_word (ticks v))
span_some (pos n) sized = let few : n ≤ most_ticks = grind (arith, sized) in omega (arith, decimal_nonempty n (small_enough n few))
span_some (negsuc n) sized = omega arith

pub span_few : (v : ℤ) → is_sized v ≡ true → length (span_word (ticks v)) ≤ 11
span_few (pos n) sized =
    let few : n ≤ most_ticks = grind (arith, sized) in
    omega (arith, length-decimal-le 10 n (omega arith) (omega (arith, few)) (small_enough n few))
span_few (negsuc n) sized =
    let few : suc n ≤ most_ticks = grind (arith, sized) in
    omega (arith, length-decimal-le 10 (suc n) (omega arith) (omega (arith, few)) (small_enough (suc n) few))

-- a range that begins with a number of ticks is cut behind that
range_cut : (v : ℤ) (most : List ℕ) → is_sized v ≡ true → cut_at 46 (span_word (ticks v) ++ (codes ".." ++ most)) ≡ Some (span_word (ticks v), 46 ∷ most)
range_cut v most sized = cut_back 46 (span_word (ticks v)) (46 ∷ most) (free_of is_of_ticks 46 (span_word (ticks v)) (span_bytes v sized) refl)

-- a range without an end is read back
pub from_back : (a : ℤ) → is_sized a ≡ true → range_read (range_word (from_on a)) ≡ Some (from_on a)
from_back a sized =
    let text : List ℕ = span_word (ticks a) ++ (codes ".." ++ []) in
    ap (range_by text) (range_cut a [] sized) ∙ ap (λ (o : Option Span). o >>= λ least. past_point (46 ∷ []) >>= range_to least) (span_back a sized)

range_to_some : (least most : Span) (text : List ℕ) → 1 ≤ length text → span_read text ≡ Some most → range_to least text ≡ Some (record { least = least; most = Some most })
range_to_some least most [] some is = absurd (omega (arith, some))
range_to_some least most (b ∷ bytes) some is = ap (λ (o : Option Span). o >>= λ m. Some (record { least = least; most = Some m })) is

-- a range with an end above its beginning is read back
pub to_back : (a b : ℤ) → is_sized a ≡ true → is_sized b ≡ true → int_le b a ≡ false → range_read (range_word (from_to a b)) ≡ Some (from_to a b)
to_back a b first last other =
    let text : List ℕ = span_word (ticks a) ++ (codes ".." ++ span_word (ticks b)) in
    let written : range_word (from_to a b) ≡ text = ap (λ (e : Bool). span_word (ticks a) ++ (if e then [] else codes ".." ++ span_word (ticks b))) other in
    ap range_read written
    ∙ ap (range_by text) (range_cut a (span_word (ticks b)) first)
    ∙ ap (λ (o : Option Span). o >>= λ least. past_point (46 ∷ span_word (ticks b)) >>= range_to least) (span_back a first)
    ∙ range_to_some (ticks a) (ticks b) (span_word (ticks b)) (span_some b last) (span_back b last)

-- a range of one number is read back
pub single_back : (a : ℤ) → is_sized a ≡ true → int_le a a ≡ true → range_read (range_word (from_to a a)) ≡ Some (from_to a a)
single_back a sized same =
    let text : List ℕ = span_word (ticks a) in
    let written : range_word (from_to a a) ≡ text =
    ap (λ (e : Bool). span_word (ticks a) ++ (if e then [] else codes ".." ++ span_word (ticks a))) same ∙ append-nil text in
    ap range_read written
    ∙ ap (range_by text) (uncut is_of_ticks 46 text (span_bytes a sized) refl)
    ∙ ap (λ (o : Option Span). o >>= λ span. Some (record { least = span; most = Some span })) (span_back a sized)
