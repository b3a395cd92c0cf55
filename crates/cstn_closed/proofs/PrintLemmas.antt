-- Texts, bound by bound.
use Rattle.std.proofs.Common.{ℕ, ◌≡◌, List, [], ◌∷◌, ◌++◌, get_or, map, arith, sym, subst, ap, ◌∙◌, codes}
use Rattle.std.specs.List.{All}
use Rattle.std.proofs.lemmas.List.{length-map}
use Rattle.std.proofs.lemmas.List.Elements.{All-nil, All-cons, All-get_or, All-tail}
use Rattle.cstn_label.specs.declared.bounds.Bound.{Bound as Declared}
use Rattle.cstn_label.specs.Read.{marks, the_bound}
use Rattle.cstn_text.specs.Names.{AreNames}
use Rattle.cstn_text.specs.Numbers.{printed_value}
use Rattle.cstn_text.specs.PrintedNames.{printed_name}
use Rattle.cstn_text.specs.PrintedLabels.{printed_label}
use Rattle.cstn_refute.specs.Steps.{printed_bound}
use Rattle.cstn_closed.specs.Closed.{ClosedParts, the_listed_bounds}
use Rattle.cstn_closed.specs.Texts.{closed_shown, closed_told, tells}
use Rattle.cstn_closed.specs.Written.{BoundsFitText, IsNamedBound, IsPrintableBound, AreBoundsWritten}
use Rattle.cstn_closed.proofs.BackLemmas.{shown_back}
use Rattle.cstn_label.proofs.LetterLemmas.{MarksEnd}

-- the line of a bound, by the text of its name
pub line_of : (names : List (List ℕ)) (b : Declared) (text old new : List ℕ) → text ≡ printed_name (get_or names b.node.0 []) →
    new ≡ old ++ (codes "bound " ++ (text ++ 32 ∷ printed_value b.least ++ 32 ∷ printed_label (marks b.label)) ++ 10 ∷ []) →
    new ≡ old ++ (codes "bound " ++ printed_bound names (the_bound b) ++ 10 ∷ [])
line_of names b text old new is pushed =
    pushed
    ∙ ap (λ (t : List ℕ). old ++ (codes "bound " ++ (t ++ 32 ∷ printed_value b.least ++ 32 ∷ printed_label (marks b.label)) ++ 10 ∷ [])) is

first : (P : Declared → Type 0) (x : Declared) (xs : List Declared) → All P (x ∷ xs) → P x
first P x xs all = All-get_or P (x ∷ xs) 0 x (omega arith) all

-- bounds that have names can be written
are_written : MarksEnd → (names : List (List ℕ)) (xs : List Declared) → All (IsNamedBound names) xs → All (IsPrintableBound names) (map the_bound xs)
are_written end names [] named = All-nil (IsPrintableBound names)
are_written end names (x ∷ xs) named =
    let here = first (IsNamedBound names) x xs named in
    All-cons (IsPrintableBound names) (the_bound x) (map the_bound xs)
    (record { node = here.node; low = here.low; high = here.high; marks = end x.label })
    (are_written end names xs (All-tail (IsNamedBound names) x xs named))

-- what is printed of a list is read again
pub closed_back : MarksEnd → (names : List (List ℕ)) (c : ClosedParts) (text : List ℕ) → AreNames names → All (IsNamedBound names) c.bounds → BoundsFitText c →
    text ≡ closed_shown names c.load (the_listed_bounds c) → closed_told names text ≡ tells c.load (the_listed_bounds c)
closed_back end names c text are named fits is =
    let written : AreBoundsWritten names c.load (the_listed_bounds c) = record {
      load_low = fits.load_low;
      load_high = fits.load_high;
      some = rw (length-map c.bounds the_bound) fits.some;
      few = rw (length-map c.bounds the_bound) fits.few;
      each = are_written end names c.bounds named;
    } in
    subst (λ t. closed_told names t ≡ tells c.load (the_listed_bounds c)) (sym is) (shown_back names c.load (the_listed_bounds c) are written)

-- bounds that can be written have names
pub are_named : (names : List (List ℕ)) (xs : List Declared) → All (IsPrintableBound names) (map the_bound xs) → All (IsNamedBound names) xs
are_named names [] all = All-nil (IsNamedBound names)
are_named names (x ∷ xs) all =
    let here = All-get_or (IsPrintableBound names) (the_bound x ∷ map the_bound xs) 0 (the_bound x) (omega arith) all in
    All-cons (IsNamedBound names) x xs (record { node = here.node; low = here.low; high = here.high })
    (are_named names xs (All-tail (IsPrintableBound names) (the_bound x) (map the_bound xs) all))

-- a load and bounds that can be written fit a text
pub fits_text : (names : List (List ℕ)) (c : ClosedParts) → AreBoundsWritten names c.load (the_listed_bounds c) → BoundsFitText c
fits_text names c are = record {
  load_low = are.load_low;
  load_high = are.load_high;
  some = rw (sym (length-map c.bounds the_bound)) are.some;
  few = rw (sym (length-map c.bounds the_bound)) are.few;
}
