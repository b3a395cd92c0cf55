-- Words, numbers, names and parts of a line, printed and read.
use Rattle.std.proofs.Common.{ℕ, ◌≡◌, ◌≢◌, ◌<◌, ◌≤◌, ◌^◌, true, List, [], ◌∷◌, ◌++◌, length, get_or, arith, sym, ap, ◌∙◌}
use Rattle.std.specs.Prelude.{◌&&◌, nat_lt, nat_le, if◌then◌else◌, bytes_eq, Some, None}
use Rattle.std.specs.List.{All, list_all}
use Rattle.std.specs.Option.{option_and_then}
use Rattle.std.proofs.lemmas.Bool.{and_parts}
use Rattle.std.proofs.lemmas.List.Elements.{All-nil, All-cons, All-append, All-weaker, All-get_or}
use Rattle.std.proofs.lemmas.List.Quantifiers.{position-Some}
use Rattle.std.proofs.lemmas.Slice.Eq.{bytes_eq-Decides}
use Rattle.cstn_facts.proofs.Options.{then_read}
use Rattle.cstn_text.specs.Names.{IsName, AreNames, number_of}
use Rattle.cstn_text.specs.Numbers.{number_read, number_within, printed_number}
use Rattle.cstn_text.specs.Parts.{IsOnePart, part, node_read}
use Rattle.cstn_text.specs.PrintedNames.{name_read, printed_name}
use Rattle.cstn_text.proofs.CutLemmas.{cut_back, cut_joined}
use Rattle.cstn_text.proofs.NameLemmas.{found_back}
use Rattle.cstn_text.proofs.NumberLemmas.{number_back, number_printed}
use Rattle.cstn_text.proofs.PartLemmas.{number_part, name_part}
use Rattle.cstn_text.proofs.PrintedNameLemmas.{name_back, name_printed}
use Rattle.cstn_text.specs.SmallNumbers.{u32_read}

-- ---- readings

-- ---- what was read is what is printed

one_within : (low high n m : ℕ) → (if nat_le low n && nat_le n high then Some n else None) ≡ Some m → (n ≡ m) × (low ≤ m) × (m ≤ high)
one_within low high n m e = grind arith

-- a number that is read is in its range, and the text is the printed one
pub within_said : (low high : ℕ) (text : List ℕ) (n : ℕ) → number_within low high text ≡ Some n → (low ≤ n) × (n ≤ high) × (text ≡ printed_number n)
within_said low high text n e =
    let found = then_read (number_read text) (λ m. if nat_le low m && nat_le m high then Some m else None) n e in
    let range = one_within low high found.0 n found.2 in
    (range.1, range.2, sym (number_printed text found.0 found.1).0 ∙ ap printed_number range.0)

pub part_said : (bytes : List ℕ) (cut : List ℕ × List ℕ) → part bytes ≡ Some cut → bytes ≡ cut.0 ++ 32 ∷ cut.1
part_said bytes cut e = cut_joined 32 bytes cut.0 cut.1 e

-- a name that is read is one of the list, and the text is the printed one
pub node_said : (names : List (List ℕ)) (text : List ℕ) (x : ℕ) → node_read names text ≡ Some x → (x < length names) × (text ≡ printed_name (get_or names x []))
node_said names text x e =
    let name = then_read (name_read text) (number_of names) x e in
    let its = position-Some (bytes_eq name.0) names x [] name.2 in
    (its.0, sym (name_printed text name.0 name.1).0 ∙ ap printed_name ((bytes_eq-Decides name.0 (get_or names x [])).0 its.1))

-- ---- what is printed is read

above : (b : ℕ) → nat_lt 32 b ≡ true → 32 < b
above b e = grind arith

all_above : (text : List ℕ) → list_all (λ b. nat_lt 32 b) text ≡ true → All (λ b. 32 < b) text
all_above [] e = All-nil (λ b. 32 < b)
all_above (b ∷ text) e =
    let parts = and_parts (nat_lt 32 b) (list_all (λ c. nat_lt 32 c) text) e in
    All-cons (λ c. 32 < c) b text (above b parts.0) (all_above text parts.1)

-- a word is one part of a line
pub word_part : (text : List ℕ) → 1 ≤ length text → list_all (λ b. nat_lt 32 b) text ≡ true → IsOnePart text
word_part text some e = record { some = some; high = all_above text e }

pub part_free : (byte : ℕ) (text : List ℕ) → byte ≤ 32 → IsOnePart text → All (λ b. b ≢ byte) text
part_free byte text low is = All-weaker (λ b. 32 < b) (λ b. b ≢ byte) (λ b high same. omega (arith, high, same)) text is.high

pub part_back : (text rest : List ℕ) → IsOnePart text → part (text ++ 32 ∷ rest) ≡ Some (text, rest)
part_back text rest is = cut_back 32 text rest (part_free 32 text (omega arith) is)

chosen : (low high n : ℕ) → low ≤ n → n ≤ high → (if nat_le low n && nat_le n high then Some n else None) ≡ Some n
chosen low high n p q = grind arith

pub within_back : (low high n : ℕ) → low ≤ n → n ≤ high → high < 2 ^ 64 → number_within low high (printed_number n) ≡ Some n
within_back low high n p q small =
    ap (option_and_then (λ m. if nat_le low m && nat_le m high then Some m else None)) (number_back n (omega arith)) ∙ chosen low high n p q

pub u32_back : (n : ℕ) → n < 2 ^ 32 → u32_read (printed_number n) ≡ Some n
u32_back n small = within_back 0 4294967295 n (omega arith) (omega arith) (omega arith)

pub node_back : (names : List (List ℕ)) (x : ℕ) → AreNames names → x < length names → node_read names (printed_name (get_or names x [])) ≡ Some x
node_back names x are inside =
    ap (option_and_then (number_of names)) (name_back (get_or names x []) (All-get_or IsName names x [] inside are.each)) ∙ found_back names x are inside

pub name_one_part : (names : List (List ℕ)) (x : ℕ) → AreNames names → x < length names → IsOnePart (printed_name (get_or names x []))
name_one_part names x are inside = name_part (get_or names x []) (All-get_or IsName names x [] inside are.each).some

-- ---- texts without LF

abbrev pub IsFree : List ℕ → Type 0
IsFree text = All (λ b. b ≢ 10) text

pub free : (text : List ℕ) → IsOnePart text → IsFree text
free text is = part_free 10 text (omega arith) is

pub space_free : (text : List ℕ) → IsFree text → IsFree (32 ∷ text)
space_free text is = All-cons (λ b. b ≢ 10) 32 text (λ e. omega (arith, e)) is

pub spaced : (one other : List ℕ) → IsFree one → IsFree other → IsFree (one ++ 32 ∷ other)
spaced one other p q = All-append (λ b. b ≢ 10) one (32 ∷ other) p (space_free other q)

pub number_free : (n : ℕ) → n < 2 ^ 64 → IsFree (printed_number n)
number_free n small = free (printed_number n) (number_part n small)
