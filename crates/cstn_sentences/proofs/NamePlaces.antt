-- A name has the number of its place in the list.
use Rattle.std.proofs.Common.{◌≡◌, ℕ, ◌<◌, true, List, [], length, refl, ap, sym, ◌∙◌, Option, Some, String, Global, map, string_bytes, option_map, arith}
use Rattle.std.specs.Prelude.{get_or, nat_lt, slice_get}
use Rattle.std.proofs.lemmas.Option.{get_or_from_slice_get, slice_get-map, slice_get_within, slice_get_read}
use Rattle.cstn_text.specs.Names.{AreNames, number_of}
use Rattle.cstn_text.proofs.NameLemmas.{found_back}

at_place : (names : List (List ℕ)) (k : ℕ) (name : List ℕ) → AreNames names → slice_get names k ≡ Some name → number_of names name ≡ Some k
at_place names k name are is = ap (number_of names) (sym (get_or_from_slice_get names k name [] is)) ∙ found_back names k are (slice_get_within names k name is)

is_below : (k n : ℕ) → true ≡ nat_lt k n → k < n
is_below k n h = grind arith

-- a name has the number of its place
pub text_at : (names : List (List ℕ)) (texts : List (String Global)) (k : ℕ) (text : String Global) → map string_bytes texts ≡ names → AreNames names
    → true ≡ nat_lt k (length texts) → text ≡ get_or texts k text → number_of names (string_bytes text) ≡ Some k
text_at names texts k text same are inside is =
    at_place names k (string_bytes text) are
    (ap (λ (ns : List (List ℕ)). slice_get ns k) (sym same) ∙ slice_get-map string_bytes texts k
    ∙ ap (option_map string_bytes) (slice_get_read texts (length texts) k text refl (is_below k (length texts) inside) is))
