-- What lines declare and mean, one after the other.
use Rattle.std.proofs.Common.{◌≡◌, ℕ, ◌+◌, List, [], ◌∷◌, ◌++◌, length, map, refl, ap, ◌∙◌, arith, append_assoc, length-append}
use Rattle.std.specs.Prelude.{Result, Ok}
use Rattle.std.proofs.lemmas.List.{map-append}
use Rattle.std.proofs.lemmas.List.Elements.{All-nil}
use Rattle.cstn_sentences.specs.Results.{◌>>?◌}
use Rattle.cstn_sentences.specs.Refusals.{PlanRefusal}
use Rattle.cstn_sentences.specs.Lines.{PlanLine, nothing}
use Rattle.cstn_sentences.specs.Grammar.{Words}
use Rattle.cstn_sentences.specs.Declarations.{Declared, declare, declared_after}
use Rattle.cstn_sentences.specs.Meaning.{Meaning, mean, meant_after}
use Rattle.cstn_sentences.specs.WrittenWords.{IsWrittenWord, IsReadAsLine, line_bytes}
use Rattle.cstn_sentences.proofs.WordLemmas.{nothing as no_words_of}
use Rattle.cstn_sentences.proofs.JudgedLines.{line_back}
use Rattle.cstn_sentences.proofs.TellsLemmas.{declared_on, meant_on}

-- lines as texts
abbrev pub texts : {X : Type 0} → (X → Words) → List X → List (List ℕ)
texts words xs = map line_bytes (map words xs)

pub texts_more : {X : Type 0} (words : X → Words) (xs ys : List X) → texts words (xs ++ ys) ≡ texts words xs ++ texts words ys
texts_more words xs ys = ap (map line_bytes) (map-append words xs ys) ∙ map-append line_bytes (map words xs) (map words ys)

-- an empty line says nothing
empty_line : IsReadAsLine [] nothing
empty_line = record { written = All-nil IsWrittenWord; short = omega arith; cut = no_words_of; read = refl; numbered = refl }

-- ---- declarations

-- once these lines are read after what was declared, whatever their numbers are, this is declared
abbrev pub Declares : Declared → List (List ℕ) → Declared → Type 0
Declares d lines more = (n : ℕ) (rest : List (List ℕ)) → declared_after n d (lines ++ rest) ≡ declared_after (n + length lines) more rest

pub declares_none : (d : Declared) → Declares d [] d
declares_none d n rest = let same : n ≡ n + 0 = omega arith in ap (λ (k : ℕ). declared_after k d rest) same

pub declares_line : (d more : Declared) (words : Words) (line : PlanLine) → IsReadAsLine words line → ((n : ℕ) → declare n d line ≡ Ok more)
    → Declares d (line_bytes words ∷ []) more
declares_line d more words line is declares n rest =
    declared_on n d more (line_bytes words) rest (ap (λ (r : Result PlanLine PlanRefusal). r >>? declare n d) (line_back n words line is) ∙ declares n)

pub declares_both : (d more all : Declared) (xs ys : List (List ℕ)) → Declares d xs more → Declares more ys all → Declares d (xs ++ ys) all
declares_both d more all xs ys first later n rest =
    let count : (n + length xs) + length ys ≡ n + length (xs ++ ys) = omega (arith, length-append xs ys) in
    ap (declared_after n d) (append_assoc xs ys rest) ∙ first n (ys ++ rest) ∙ later (n + length xs) rest ∙ ap (λ (k : ℕ). declared_after k all rest) count

-- behind the last LF stands an empty line
pub declared_whole : (n : ℕ) (d more : Declared) (lines : List (List ℕ)) → Declares d lines more → declared_after n d (lines ++ ([] ∷ [])) ≡ Ok more
unfolding declared_after
declared_whole n d more lines declares =
    declares n ([] ∷ []) ∙ declares_line more more [] nothing empty_line (λ k. refl) (n + length lines) []

-- ---- meanings

-- once these lines are read after what was meant, whatever their numbers are, this is meant
abbrev pub Means : Declared → Meaning → List (List ℕ) → Meaning → Type 0
Means d m lines more = (n : ℕ) (rest : List (List ℕ)) → meant_after n d m (lines ++ rest) ≡ meant_after (n + length lines) d more rest

pub means_none : (d : Declared) (m : Meaning) → Means d m [] m
means_none d m n rest = let same : n ≡ n + 0 = omega arith in ap (λ (k : ℕ). meant_after k d m rest) same

pub means_line : (d : Declared) (m more : Meaning) (words : Words) (line : PlanLine) → IsReadAsLine words line → ((n : ℕ) → mean n d m line ≡ Ok more)
    → Means d m (line_bytes words ∷ []) more
means_line d m more words line is means n rest =
    meant_on n d m more (line_bytes words) rest (ap (λ (r : Result PlanLine PlanRefusal). r >>? mean n d m) (line_back n words line is) ∙ means n)

pub means_both : (d : Declared) (m more all : Meaning) (xs ys : List (List ℕ)) → Means d m xs more → Means d more ys all → Means d m (xs ++ ys) all
means_both d m more all xs ys first later n rest =
    let count : (n + length xs) + length ys ≡ n + length (xs ++ ys) = omega (arith, length-append xs ys) in
    ap (meant_after n d m) (append_assoc xs ys rest) ∙ first n (ys ++ rest) ∙ later (n + length xs) rest ∙ ap (λ (k : ℕ). meant_after k d all rest) count

pub meant_whole : (n : ℕ) (d : Declared) (m more : Meaning) (lines : List (List ℕ)) → Means d m lines more → meant_after n d m (lines ++ ([] ∷ [])) ≡ Ok more
unfolding meant_after
meant_whole n d m more lines means =
    means n ([] ∷ []) ∙ means_line d more more [] nothing empty_line (λ k. refl) (n + length lines) []
