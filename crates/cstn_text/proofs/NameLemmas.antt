-- Names of a set of texts, as lists of bytes.
use Rattle.std.proofs.Common.{◌≡◌, ◌≢◌, ℕ, ◌+◌, ◌<◌, ◌≤◌, ◌^◌, Some, List, [], ◌∷◌, ◌++◌, map, length, get_or, Bool, true, false, not, refl, ap, sym, ◌∙◌, arith, length-append}
use Rattle.std.specs.Prelude.{String, string_bytes, position, if◌then◌else◌, Contains, ◌↔◌, ◌&&◌, nat_lt, nat_le}
use Rattle.std.specs.String.{string_eq}
use Rattle.std.specs.Str.{bytes_eq, IsUtf8}
use Rattle.std.specs.List.{list_any, prefix_len}
use Rattle.std.specs.declared.alloc.Global.{Global}
use Rattle.std.proofs.lemmas.List.{length-map, map-append, get_or_default, get_or-map}
use Rattle.std.proofs.lemmas.List.Elements.{All-push}
use Rattle.std.proofs.lemmas.List.Quantifiers.{all_pairs_push}
use Rattle.std.proofs.lemmas.Map.Views.{Contains-from_any, list_any-from_Contains}
use Rattle.std.proofs.lemmas.Slice.Eq.{bytes_eq-Decides}
use Rattle.std.proofs.lemmas.Str.{is_utf8-from_IsUtf8}
use Rattle.std.proofs.lemmas.Cmp.{nat_list_eq_equiv}
use Rattle.std.proofs.lemmas.Bool.{false_from_ne_true}
use Rattle.cstn_facts.proofs.Filters.{any_map, position_at}
use Rattle.cstn_text.specs.Names.{IsName, AreNames, number_of}
use Rattle.cstn_text.specs.PrintedNames.{printed_name}

prefix_map : (p : List ℕ → Bool) (xs : List (String Global)) → prefix_len p (map string_bytes xs) ≡ prefix_len (λ s. p (string_bytes s)) xs
prefix_map p [] = refl
prefix_map p (x ∷ xs) = rw (prefix_map p xs) refl

pub position_map : (p : List ℕ → Bool) (xs : List (String Global)) → position p (map string_bytes xs) ≡ position (λ s. p (string_bytes s)) xs
position_map p xs = rw (prefix_map (λ b. not (p b)) xs, length-map) refl

-- a text that a look-up finds is one of the names, and the other way round
pub known : (keys : List (String Global)) (name : List ℕ) → (list_any (λ s. bytes_eq name (string_bytes s)) keys ≡ true) ↔ Contains (map string_bytes keys) name
known keys name = (
  (λ e. Contains-from_any {eq = bytes_eq} (λ x y. (bytes_eq-Decides x y).0) name (map string_bytes keys) (any_map (bytes_eq name) string_bytes keys ∙ e)),
  (λ there. sym (any_map (bytes_eq name) string_bytes keys) ∙ list_any-from_Contains {eq = bytes_eq} nat_list_eq_equiv name (map string_bytes keys) there),
)

-- a set into which a new text is put has this text after its others
pub pushed : (keys new : List (String Global)) (owned : String Global) (name : List ℕ) → string_bytes owned ≡ name → (Contains (map string_bytes keys) name → ⊥)
    → new ≡ (if list_any (string_eq owned) keys then keys else keys ++ owned ∷ []) → map string_bytes new ≡ map string_bytes keys ++ name ∷ []
pushed keys new owned name text unknown is =
    let absent : list_any (λ s. bytes_eq name (string_bytes s)) keys ≡ false = false_from_ne_true _ (λ e. unknown ((known keys name).0 e)) in
    let absent_too : list_any (string_eq owned) keys ≡ false = ap (λ b. list_any (λ k. bytes_eq b (string_bytes k)) keys) text ∙ absent in
    rw (is, absent_too, ← text) (map-append string_bytes keys (owned ∷ []))

-- names stay names with a new one at the end
pub names_more : (names : List (List ℕ)) (name : List ℕ) → AreNames names → IsName name → (Contains names name → ⊥) → length names + 1 < 2 ^ 32 → AreNames (names ++ name ∷ [])
names_more names name are is unknown few = record {
  each = All-push IsName names name are.each is;
  different = all_pairs_push (λ a b. a ≢ b) names name are.different (λ k d inside same. unknown (k, inside, get_or_default names k name d inside ∙ same));
  few = rw length-append few;
}

shaped_is : (n : ℕ) → (nat_lt 0 n && nat_le n 64) ≡ true → (1 ≤ n) × (n ≤ 64)
shaped_is n shape = grind arith

-- a text of 1 to 64 bytes is a name
pub shaped : (name : List ℕ) → (nat_lt 0 (length name) && nat_le (length name) 64) ≡ true → IsUtf8 name → IsName name
shaped name shape text =
    let sizes = shaped_is (length name) shape in
    record { some = sizes.0; few = sizes.1; utf8 = is_utf8-from_IsUtf8 name text }

-- a name of the list is found at its place
pub found_back : (names : List (List ℕ)) (x : ℕ) → AreNames names → x < length names → number_of names (get_or names x []) ≡ Some x
found_back names x are inside =
    position_at (bytes_eq (get_or names x [])) names x [] inside
    (λ k h. false_from_ne_true _ (λ e. are.different k x [] h inside (sym ((bytes_eq-Decides (get_or names x []) (get_or names k [])).0 e))))
    ((bytes_eq-Decides (get_or names x []) (get_or names x [])).1 refl)

-- a name was printed at its place
pub name_at : (texts : List (String Global)) (names : List (List ℕ)) (i : ℕ) (d : String Global) → map string_bytes texts ≡ map printed_name names → i < length names →
    string_bytes (get_or texts i d) ≡ printed_name (get_or names i [])
name_at texts names i d same inside =
    let long : length texts ≡ length names = sym (length-map texts string_bytes) ∙ ap length same ∙ length-map names printed_name in
    sym (get_or-map string_bytes texts i d [] (omega arith)) ∙ ap (λ (ts : List (List ℕ)). get_or ts i []) same ∙ get_or-map printed_name names i [] [] inside
