-- What is told of a step holds of the steps behind it.
use Rattle.std.proofs.Common.{◌≡◌, ℕ, ◌+◌, true, List, [], ◌∷◌, refl, ap}
use Rattle.std.specs.Prelude.{Result, Ok}
use Rattle.cstn_text.specs.Parts.{parts_at}
use Rattle.cstn_sentences.specs.declared.errors.PlanError.{PlanError}
use Rattle.cstn_sentences.specs.declared.errors.PlanError.TheVariants.{Long, Wrong, Range, Twice, NoName, NoLetter, NoDeadline, Net, Lift, Memory}
use Rattle.cstn_sentences.specs.Refusals.{PlanRefusal}
use Rattle.cstn_sentences.specs.Results.{◌>>?◌}
use Rattle.cstn_sentences.specs.Answers.{FailsPlan}
use Rattle.cstn_sentences.specs.Words.{cut_lines, words_of, is_of_words}
use Rattle.cstn_sentences.specs.Lines.{nothing}
use Rattle.cstn_sentences.specs.Judged.{line_of_text}
use Rattle.cstn_sentences.specs.Declarations.{Declared, declare, declared_line, declared_after}
use Rattle.cstn_sentences.specs.Meaning.{Meaning, mean, meant_line, meant_after}

-- a step that is refused refuses all
pub fails_on : {B C : Type 0} (e : PlanError) (told : Result B PlanRefusal) (f : B → Result C PlanRefusal) → FailsPlan e told → FailsPlan e (told >>? f)
fails_on Long told f h = ap (λ r. r >>? f) h
fails_on (Wrong line word) told f h = ap (λ r. r >>? f) h
fails_on (Range line) told f h = ap (λ r. r >>? f) h
fails_on (Twice line text) told f h = ap (λ r. r >>? f) h
fails_on (NoName line name) told f h = ap (λ r. r >>? f) h
fails_on (NoLetter line word) told f h = ap (λ r. r >>? f) h
fails_on NoDeadline told f h = ap (λ r. r >>? f) h
fails_on (Net error names) told f h = h
fails_on (Lift error names) told f h = h
fails_on (Memory e) told f h = tt

-- the lines of a text that is cut at its first LF, or has none
pub first_line : (left line rest : List ℕ) → parts_at 10 left ≡ (line ∷ (parts_at 10 rest).0, (parts_at 10 rest).1) → cut_lines (parts_at 10 left) ≡ line ∷ cut_lines (parts_at 10 rest)
first_line left line rest e = ap cut_lines e

pub last_line : (left : List ℕ) → parts_at 10 left ≡ ([], left) → cut_lines (parts_at 10 left) ≡ left ∷ []
last_line left e = ap cut_lines e

-- ---- lines without words

says_nothing : (n : ℕ) (line : List ℕ) → words_of line ≡ [] → is_of_words line ≡ true → line_of_text n line ≡ Ok nothing
says_nothing n line none whole = rw (whole, none) refl

pub declares_nothing : (n : ℕ) (d : Declared) (line : List ℕ) → words_of line ≡ [] → is_of_words line ≡ true → declared_line n d line ≡ Ok d
declares_nothing n d line none whole = ap (λ r. r >>? declare n d) (says_nothing n line none whole)

pub means_nothing : (n : ℕ) (d : Declared) (m : Meaning) (line : List ℕ) → words_of line ≡ [] → is_of_words line ≡ true → meant_line n d m line ≡ Ok m
means_nothing n d m line none whole = ap (λ r. r >>? mean n d m) (says_nothing n line none whole)

-- ---- declarations

pub declared_on : (n : ℕ) (d more : Declared) (line : List ℕ) (lines : List (List ℕ)) → declared_line n d line ≡ Ok more
    → declared_after n d (line ∷ lines) ≡ declared_after (n + 1) more lines
unfolding declared_after
declared_on n d more line lines e = ap (λ r. r >>? λ next. declared_after (n + 1) next lines) e

pub declared_fails : (n : ℕ) (d : Declared) (line : List ℕ) (lines : List (List ℕ)) (e : PlanError) → FailsPlan e (declared_line n d line) → FailsPlan e (declared_after n d (line ∷ lines))
unfolding declared_after
declared_fails n d line lines e h = fails_on e (declared_line n d line) (λ next. declared_after (n + 1) next lines) h

pub declared_last : (n : ℕ) (d more : Declared) (line : List ℕ) → declared_line n d line ≡ Ok more → declared_after n d (line ∷ []) ≡ Ok more
unfolding declared_after
declared_last n d more line e = ap (λ r. r >>? λ next. declared_after (n + 1) next []) e

-- ---- meanings

pub meant_on : (n : ℕ) (d : Declared) (m more : Meaning) (line : List ℕ) (lines : List (List ℕ)) → meant_line n d m line ≡ Ok more
    → meant_after n d m (line ∷ lines) ≡ meant_after (n + 1) d more lines
unfolding meant_after
meant_on n d m more line lines e = ap (λ r. r >>? λ next. meant_after (n + 1) d next lines) e

pub meant_fails : (n : ℕ) (d : Declared) (m : Meaning) (line : List ℕ) (lines : List (List ℕ)) (e : PlanError) → FailsPlan e (meant_line n d m line) → FailsPlan e (meant_after n d m (line ∷ lines))
unfolding meant_after
meant_fails n d m line lines e h = fails_on e (meant_line n d m line) (λ next. meant_after (n + 1) d next lines) h

pub meant_last : (n : ℕ) (d : Declared) (m more : Meaning) (line : List ℕ) → meant_line n d m line ≡ Ok more → meant_after n d m (line ∷ []) ≡ Ok more
unfolding meant_after
meant_last n d m more line e = ap (λ r. r >>? λ next. meant_after (n + 1) d next []) e
