-- Files that are read one after another.
use Rattle.std.proofs.Common.{◌≡◌, ◌<◌, ◌+◌, ℕ, zero, suc, Bool, true, false, List, [], ◌∷◌, ◌++◌, length, map, take, get_or, refl, ap, sym, ◌∙◌, arith, String, Global, string_bytes}
use Rattle.std.specs.Prelude.{IsTrue, ◌&&◌, drop}
use Rattle.std.proofs.Math.Seq.{take-suc}
use Rattle.std.proofs.lemmas.List.{map-append}
use Rattle.std.specs.List.{list_all}

pub ask_at : (asked now : List ℕ → Bool) (files : List (String Global)) (i : ℕ) (file : String Global) (name : List ℕ) → IsTrue (list_all asked (map string_bytes files)) → now ≡ asked → i < length files → file ≡ get_or files i file → name ≡ string_bytes file → IsTrue (now name)
ask_at asked now files i file name all same inside item is =
    ap (λ (f : List ℕ → Bool). f name) same ∙ ap asked (is ∙ ap string_bytes item) ∙ at files i inside all
  where
    both : (a b : Bool) → IsTrue (a && b) → (a ≡ true) × (b ≡ true)
    both true true x = (refl, refl)
    both true false x = absurd (cc)
    both false b x = absurd (cc)

    at : (fs : List (String Global)) (k : ℕ) → k < length fs → IsTrue (list_all asked (map string_bytes fs)) → asked (string_bytes (get_or fs k file)) ≡ true
    at [] k within is' = absurd (omega (arith, within))
    at (f ∷ fs) zero within is' = (both (asked (string_bytes f)) (list_all asked (map string_bytes fs)) is').0
    at (f ∷ fs) (suc k) within is' = at fs k (omega (arith, within)) (both (asked (string_bytes f)) (list_all asked (map string_bytes fs)) is').1

-- the names before a file, its own, and those after it are the names of all files
pub files_at : (files : List (String Global)) (i : ℕ) (file : String Global) (name : List ℕ) → i < length files → file ≡ get_or files i file → name ≡ string_bytes file → map string_bytes (take i files) ++ name ∷ map string_bytes (drop (suc i) files) ≡ map string_bytes files
files_at [] i file name inside item is = absurd (omega (arith, inside))
files_at (f ∷ fs) zero file name inside item is = ap (λ (n : List ℕ). n ∷ map string_bytes fs) (is ∙ ap string_bytes item)
files_at (f ∷ fs) (suc k) file name inside item is = ap (λ (ns : List (List ℕ)). string_bytes f ∷ ns) (files_at fs k file name (omega (arith, inside)) item is)

-- the names of the first i files, and the name of the next one, are those of the first i + 1
pub next_file : (files : List (String Global)) (i : ℕ) (file : String Global) (name : List ℕ) → i < length files → file ≡ get_or files i file → name ≡ string_bytes file → map string_bytes (take i files) ++ name ∷ [] ≡ map string_bytes (take (i + 1) files)
next_file files i file name inside item is =
    ap (λ (n : List ℕ). map string_bytes (take i files) ++ n ∷ []) (is ∙ ap string_bytes item)
    ∙ sym (map-append string_bytes (take i files) (get_or files i file ∷ []))
    ∙ ap (map string_bytes) (sym (ap (λ (n : ℕ). take n files) (plus_one i) ∙ take-suc files i file inside))
  where
    plus_one : (n : ℕ) → n + 1 ≡ suc n
    plus_one n = omega arith
