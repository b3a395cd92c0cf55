-- The text of values of an edge is read back.
use Rattle.std.proofs.Common.{◌≡◌, ℕ, zero, suc, ◌+◌, ◌-◌, ◌<◌, ◌≤◌, List, [], ◌∷◌, ◌++◌, length, drop, refl, ap, ◌∙◌, arith, Bool, true, false, not, ◌&&◌, ◌||◌, reverse}
use Rattle.std.specs.Prelude.{◌==◌, nat_lt, nat_le, Option, Some, None, decimal, codes, ℤ, pos, negsuc, FitsSigned}
use Rattle.std.specs.Char.{is_ascii_digit, is_digit}
use Rattle.std.specs.Int.{w32}
use Rattle.std.specs.List.{list_all, prefix_len}
use Rattle.std.proofs.Math.Seq.{take-append_seam, drop-append_seam, drop-append-add}
use Rattle.std.proofs.lemmas.Bool.{and_parts}
use Rattle.std.proofs.lemmas.List.{take_all, reverse-append}
use Rattle.cstn_label.specs.Labels.{Label, IsPlain}
use Rattle.cstn_label.specs.declared.marks.Mark.{Mark}
use Rattle.cstn_label.specs.declared.marks.Mark.TheVariants.{Absent, Yes, No, Unknown}
use Rattle.cstn_label.specs.Letters.{letter_of}
use Rattle.cstn_text.specs.Numbers.{printed_value}
use Rattle.cstn_markup.specs.Bytes.{is_white, number_after}
use Rattle.cstn_element.specs.WhiteSpace.{trimmed}
use Rattle.cstn_element.specs.NumberTexts.{integer_text, short_number}
use Rattle.cstn_element.specs.LabelTexts.{label_of_text}
use Rattle.cstn_element.specs.ValueTexts.{is_of_part, pair_at, pairs_after, values_of}
use Rattle.cstn_element.proofs.PairTexts.{pairs_skip}
use Rattle.cstn_save.specs.Canonical.{literal_text, literals_below, or_empty, document_label}
use Rattle.cstn_save.proofs.NumberTextLemmas.{decimal_digits, integer_back}
use Rattle.cstn_save.proofs.LabelTextLemmas.{label_back}
use Rattle.cstn_save.proofs.RunLemmas.{all_for, both_all, run_len, past_stop, joined_five}

-- a byte of a part, and no white space
abbrev pub is_solid : ℕ → Bool
is_solid b = is_of_part b && not (is_white b)

solid_part : (b : ℕ) → is_solid b ≡ true → is_of_part b ≡ true
solid_part b h = grind arith

no_white : (bytes : List ℕ) → list_all is_solid bytes ≡ true → prefix_len is_white bytes ≡ 0
no_white [] h = refl
no_white (b ∷ bytes) h =
    let white : is_white b ≡ false = grind arith in
    rw white refl

all_reversed : (p : ℕ → Bool) (bytes : List ℕ) → list_all p bytes ≡ true → list_all p (reverse bytes) ≡ true
all_reversed p [] h = refl
all_reversed p (b ∷ bytes) h =
    let both = and_parts (p b) (list_all p bytes) h in
    ap (list_all p) (reverse-append (b ∷ []) bytes) ∙ both_all p (reverse bytes) (reverse (b ∷ [])) (all_reversed p bytes both.1) (rw both.0 refl)

-- solid bytes have no white space at their ends
pub trimmed_solid : (bytes : List ℕ) → list_all is_solid bytes ≡ true → trimmed bytes ≡ bytes
trimmed_solid bytes h =
    let all : length bytes - 0 ≡ length bytes = omega arith in
    rw (no_white bytes h, no_white (reverse bytes) (all_reversed is_solid bytes h), all) (take_all (length bytes) bytes (omega arith))

trimmed_spaced : (bytes : List ℕ) → list_all is_solid bytes ≡ true → trimmed (32 ∷ bytes) ≡ bytes
trimmed_spaced bytes h =
    let all : length bytes - 0 ≡ length bytes = omega arith in
    rw (no_white bytes h, no_white (reverse bytes) (all_reversed is_solid bytes h), all) (take_all (length bytes) bytes (omega arith))

-- a printed value is solid
pub digit_solid : (b : ℕ) → is_ascii_digit b ≡ true → is_solid b ≡ true
digit_solid b h = grind arith

pub value_solid : (v : ℤ) → FitsSigned w32 v → list_all is_solid (printed_value v) ≡ true
value_solid (pos n) fits = all_for is_ascii_digit is_solid (decimal n) digit_solid (decimal_digits n (omega (arith, fits.sfits)))
value_solid (negsuc n) fits = all_for is_ascii_digit is_solid (decimal (suc n)) digit_solid (decimal_digits (suc n) (omega (arith, fits.sfits)))

-- the bytes of literals are among these
abbrev pub is_of_literal : ℕ → Bool
is_of_literal b = nat_le 65 b && nat_lt b 123 || nat_le 126 b && nat_lt b 226

letter_of_literal : (p : ℕ) → p < 52 → is_of_literal (letter_of p) ≡ true
letter_of_literal p small = grind arith

literal_bytes : (n : ℕ) (m : Mark) → n < 52 → list_all is_of_literal (literal_text (letter_of n) m) ≡ true
literal_bytes n Absent small = refl
literal_bytes n Yes small = rw (letter_of_literal n small) refl
literal_bytes n No small = rw (letter_of_literal n small) refl
literal_bytes n Unknown small = refl

pub literals_bytes : (a : Label) (n : ℕ) → n ≤ 52 → list_all is_of_literal (literals_below a n) ≡ true
unfolding literals_below
literals_bytes a zero small = refl
literals_bytes a (suc n) small = both_all is_of_literal (literals_below a n) (literal_text (letter_of n) (a n)) (literals_bytes a n (omega arith)) (literal_bytes n (a n) (omega arith))

literal_solid : (b : ℕ) → is_of_literal b ≡ true → is_solid b ≡ true
literal_solid b h =
    let part : is_of_part b ≡ true = grind arith in
    let white : is_white b ≡ false = grind arith in
    rw (part, white) refl

or_empty_solid : (bytes : List ℕ) → list_all is_of_literal bytes ≡ true → list_all is_solid (or_empty bytes) ≡ true
or_empty_solid [] h = refl
or_empty_solid (b ∷ bytes) h = all_for is_of_literal is_solid (b ∷ bytes) literal_solid h

pub label_solid : (a : Label) → list_all is_solid (document_label a) ≡ true
label_solid a = or_empty_solid (literals_below a 52) (literals_bytes a 52 (omega arith))

-- the text of a label is no integer text
high_digit : (b : ℕ) → 65 ≤ b → is_digit b 10 ≡ false
high_digit b least = grind arith

-- letters are digits of larger radixes alone
no_digit : (b : ℕ) → is_of_literal b ≡ true → is_digit b 10 ≡ false
no_digit b first =
    let least : 65 ≤ b = grind arith in
    high_digit b least

literal_number : (b : ℕ) (bytes : List ℕ) (few : Bool) → (nat_lt 0 (length (b ∷ bytes)) && nat_le (length (b ∷ bytes)) 10) ≡ few → is_of_literal b ≡ true → short_number 2147483648 (b ∷ bytes) ≡ None
unfolding number_after
literal_number b bytes true e first =
    let digit : is_digit b 10 ≡ false = no_digit b first in
    rw (e, digit) refl
literal_number b bytes false e first = rw e refl

no_integer : (bytes : List ℕ) → list_all is_of_literal bytes ≡ true → integer_text (or_empty bytes) ≡ None
unfolding number_after
no_integer [] h = refl
no_integer (b ∷ bytes) h =
    let first = (and_parts (is_of_literal b) (list_all is_of_literal bytes) h).0 in
    let minus : (b == 45) ≡ false = grind arith in
    let other : (b == 226) ≡ false = grind arith in
    let number : short_number 2147483648 (b ∷ bytes) ≡ None = literal_number b bytes _ refl first in
    rw (minus, other, number) refl

pub label_no_integer : (a : Label) → integer_text (document_label a) ≡ None
label_no_integer a = no_integer (literals_below a 52) (literals_bytes a 52 (omega arith))

-- a pair of an integer text and another part
pair_here : (first second rest : List ℕ) (v : ℤ) → list_all is_solid first ≡ true → list_all is_solid second ≡ true → integer_text first ≡ Some v → integer_text second ≡ None
    → pair_at (first ++ 44 ∷ 32 ∷ (second ++ 41 ∷ rest)) ≡ Some (record { most = v; label = label_of_text second }, length first + suc (length second) + 2)
pair_here first second rest v f s e n =
    let more : 1 + length second ≡ suc (length second) = omega arith in
    rw (
      run_len is_of_part first 44 (32 ∷ (second ++ 41 ∷ rest)) (all_for is_solid is_of_part first solid_part f) refl,
      drop-append_seam first (44 ∷ 32 ∷ (second ++ 41 ∷ rest)),
      take-append_seam first (44 ∷ 32 ∷ (second ++ 41 ∷ rest)),
      run_len is_of_part second 41 rest (all_for is_solid is_of_part second solid_part s) refl,
      more,
      drop-append_seam second (41 ∷ rest),
      take-append_seam second (41 ∷ rest),
      trimmed_solid first f,
      trimmed_spaced second s,
      e,
      n,
    ) refl

past_pair : (first second : List ℕ) → drop (length first + suc (length second) + 2) (first ++ 44 ∷ 32 ∷ (second ++ 41 ∷ 125 ∷ [])) ≡ 125 ∷ []
past_pair first second =
    let is : length first + suc (length second) + 2 ≡ length first + suc (suc (length second + 1)) = omega arith in
    rw is (drop-append-add first (44 ∷ 32 ∷ (second ++ 41 ∷ 125 ∷ [])) (suc (suc (length second + 1))) ∙ past_stop second 41 (125 ∷ []))

one_pair : (first second : List ℕ) (v : ℤ) → list_all is_solid first ≡ true → list_all is_solid second ≡ true → integer_text first ≡ Some v → integer_text second ≡ None
    → values_of (123 ∷ 40 ∷ (first ++ 44 ∷ 32 ∷ (second ++ 41 ∷ 125 ∷ []))) ≡ Some (record { most = v; label = label_of_text second } ∷ [])
unfolding pairs_after
one_pair first second v f s e n =
    rw (pair_here first second (125 ∷ []) v f s e n, pairs_skip (length first + suc (length second) + 2) (record { most = v; label = label_of_text second } ∷ []) (first ++ 44 ∷ 32 ∷ (second ++ 41 ∷ 125 ∷ [])), past_pair first second) refl

-- the text of values of a constraint has its value and its label
pub values_back : (v : ℤ) (a : Label) → FitsSigned w32 v → IsPlain a → ((p : ℕ) → 52 ≤ p → a p ≡ Absent)
    → values_of (codes "{(" ++ printed_value v ++ codes ", " ++ document_label a ++ codes ")}") ≡ Some (record { most = v; label = Some a } ∷ [])
values_back v a fits plain high =
    ap values_of (joined_five (codes "{(") (printed_value v) (codes ", ") (document_label a) (codes ")}"))
    ∙ one_pair (printed_value v) (document_label a) v (value_solid v fits) (label_solid a) (integer_back v fits) (label_no_integer a)
    ∙ ap (λ (l : Option Label). Some (record { most = v; label = l } ∷ [])) (label_back a plain high)
