-- Texts of values.
use Rattle.std.specs.Prelude.{ℕ, zero, suc, ◌+◌, Bool, true, false, ◌||◌, not, ◌==◌, List, [], ◌∷◌, ◌++◌, take, drop, Option, Some, None, if◌then◌else◌, codes, ℤ}
use Rattle.std.specs.List.{prefix_len}
use Rattle.cstn_markup.specs.Bytes.{◌>>=◌, when, is_same, is_white, past}
use Rattle.cstn_label.specs.Labels.{Label}
use Rattle.cstn_element.specs.WhiteSpace.{trimmed}
use Rattle.cstn_element.specs.NumberTexts.{integer_text}
use Rattle.cstn_element.specs.LabelTexts.{label_of_text}

-- a pair of a text of values: its integer, and its label, which is None where its text isn't a label text
pub record Pair : Type 0 where
  pub most : ℤ
  pub label : Option Label

-- the byte may stand in a part of a pair: it is no bracket, brace or comma
abbrev pub is_of_part : ℕ → Bool
is_of_part b = not (b == 40 || b == 41 || b == 123 || b == 125 || b == 44)

abbrev pub is_separator : ℕ → Bool
is_separator b = is_white b || b == 44

-- the pair of two parts, of which exactly one is an integer text and the other one is the label
abbrev pub pair_of : List ℕ → List ℕ → Option ℤ → Option ℤ → Option Pair
pair_of first second (Some n) None = Some (record { most = n; label = label_of_text second })
pair_of first second None (Some n) = Some (record { most = n; label = label_of_text first })
pair_of first second (Some m) (Some n) = None
pair_of first second None None = None

abbrev pub paired : List ℕ → List ℕ → Option Pair
paired first second = pair_of first second (integer_text first) (integer_text second)

-- how many bytes at the front may stand in a part of a pair
abbrev pub part_len : List ℕ → ℕ
part_len bytes = prefix_len is_of_part bytes

-- the pair whose opening bracket stands before the bytes, and how many bytes it takes behind that bracket
abbrev pub pair_at : List ℕ → Option (Pair × ℕ)
pair_at bytes =
    let n = part_len bytes in
    past (codes ",") (drop n bytes) >>= λ behind.
    let m = part_len behind in
    past (codes ")") (drop m behind) >>= λ rest.
    paired (trimmed (take n bytes)) (trimmed (take m behind)) >>= λ pair.
    Some (pair, n + m + 2)

-- The pairs from the byte b on, which is a separator, the closing brace or the opening bracket of a pair; None for any other
-- byte. `later` gives the pairs behind a number of further bytes.
abbrev pub pairs_by : Bool → ℕ → List ℕ → List Pair → (ℕ → List Pair → Option (List Pair)) → Option (List Pair)
pairs_by true b bytes found later = later 0 found
pairs_by false b bytes found later =
    if b == 125 then when (is_same bytes []) found else
    (when (b == 40) bytes >>= λ inside. pair_at inside >>= λ pair. later pair.1 (found ++ (pair.0 ∷ [])))

-- the pairs up to the closing brace, which ends the text, put behind those that were found; `skip` bytes of a pair that was
-- read are passed first
unfoldable pub pairs_after : ℕ → List Pair → List ℕ → Option (List Pair)
pairs_after skip found [] = None
pairs_after zero found (b ∷ bytes) = pairs_by (is_separator b) b bytes found (λ skip more. pairs_after skip more bytes)
pairs_after (suc skip) found (b ∷ bytes) = pairs_after skip found bytes

-- a text of values; an empty one has no pairs
abbrev pub values_of : List ℕ → Option (List Pair)
values_of [] = Some []
values_of (b ∷ bytes) = when (b == 123) bytes >>= λ inside. pairs_after 0 [] inside
