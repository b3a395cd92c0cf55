-- Steps of the program that can be written.
use Rattle.std.proofs.Common.{ℕ, ◌≡◌, ◌<◌, List, [], ◌∷◌, length, map, arith, sym, subst}
use Rattle.std.specs.List.{All}
use Rattle.std.proofs.lemmas.List.{length-map}
use Rattle.std.proofs.lemmas.List.Elements.{All-nil, All-cons, All-get_or, All-tail}
use Rattle.cstn_label.specs.Read.{marks}
use Rattle.cstn_rules.specs.declared.entries.Entry.{Entry as DeclaredEntry}
use Rattle.cstn_rules.specs.Read.{the_entry}
use Rattle.cstn_text.specs.Names.{AreNames}
use Rattle.cstn_refute.specs.Refutations.{RefutationParts, IsStep, AreSteps, FitsText, the_steps}
use Rattle.cstn_refute.specs.Texts.{refutation_told, tells, refutation_shown}
use Rattle.cstn_refute.specs.Written.{ArePlaces, IsPrintableStep, AreStepsWritten}
use Rattle.cstn_refute.proofs.BackLemmas.{shown_back}
use Rattle.cstn_label.proofs.LetterLemmas.{MarksEnd}

first : (P : DeclaredEntry → Type 0) (x : DeclaredEntry) (xs : List DeclaredEntry) → All P (x ∷ xs) → P x
first P x xs all = All-get_or P (x ∷ xs) 0 x (omega arith) all

abbrev IsNamed : List (List ℕ) → DeclaredEntry → Type 0
IsNamed names e = e.bound.node.0 < length names

abbrev HasPlaces : DeclaredEntry → Type 0
HasPlaces e = ArePlaces e.why

are_written : MarksEnd → (names : List (List ℕ)) (xs : List DeclaredEntry) → All (IsNamed names) xs → All IsStep xs → All HasPlaces xs →
    All (IsPrintableStep names) (map the_entry xs)
are_written end names [] named steps places = All-nil (IsPrintableStep names)
are_written end names (x ∷ xs) named steps places =
    let step = first IsStep x xs steps in
    All-cons (IsPrintableStep names) (the_entry x) (map the_entry xs)
    (record { node = first (IsNamed names) x xs named; low = step.low; high = step.high; marks = end x.bound.label; places = first HasPlaces x xs places })
    (are_written end names xs (All-tail (IsNamed names) x xs named) (All-tail IsStep x xs steps) (All-tail HasPlaces x xs places))

-- what is printed of a refutation is read again
pub refutation_back : MarksEnd → (names : List (List ℕ)) (r : RefutationParts) (text : List ℕ) → AreNames names → AreSteps r.steps → All (IsNamed names) r.steps →
    All HasPlaces r.steps → FitsText r → text ≡ refutation_shown names r.load (the_steps r) → refutation_told names text ≡ tells r.load (the_steps r)
refutation_back end names r text are steps named places fits is =
    let written : AreStepsWritten names r.load (the_steps r) = record {
      load_low = fits.load_low;
      load_high = fits.load_high;
      some = rw (length-map r.steps the_entry) steps.some;
      few = rw (length-map r.steps the_entry) fits.few;
      each = are_written end names r.steps named steps.each places;
    } in
    subst (λ t. refutation_told names t ≡ tells r.load (the_steps r)) (sym is) (shown_back names r.load (the_steps r) are written)

-- steps that can be written are at time-points that have names
pub are_named : (names : List (List ℕ)) (xs : List DeclaredEntry) → All (IsPrintableStep names) (map the_entry xs) → All (IsNamed names) xs
are_named names [] all = All-nil (IsNamed names)
are_named names (x ∷ xs) all =
    let here = All-get_or (IsPrintableStep names) (the_entry x ∷ map the_entry xs) 0 (the_entry x) (omega arith) all in
    All-cons (IsNamed names) x xs here.node (are_named names xs (All-tail (IsPrintableStep names) (the_entry x) (map the_entry xs) all))
