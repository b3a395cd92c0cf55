-- What a text says can be written, and the text is the printed one, but for the order of marks.
use Rattle.std.proofs.Common.{ℕ, ◌≡◌, ◌<◌, true, List, ◌∷◌, ◌++◌, arith, ap, ◌∙◌}
use Rattle.std.specs.Prelude.{◌&&◌, nat_lt, bytes_eq, Some, codes}
use Rattle.std.proofs.lemmas.Bool.{and_parts}
use Rattle.std.proofs.lemmas.Slice.Eq.{bytes_eq-Decides}
use Rattle.cstn_facts.proofs.Options.{then_read, if_read}
use Rattle.cstn_label.specs.Bounds.{Bound}
use Rattle.cstn_net.specs.Limits.{most_load}
use Rattle.cstn_text.specs.PrintedLabels.{label_read}
use Rattle.cstn_text.specs.Parts.{part}
use Rattle.cstn_text.proofs.ReadingLemmas.{part_said}
use Rattle.cstn_text.proofs.PlaceLemmas.{AreSaid, listing_said}
pub use Rattle.cstn_text.proofs.ListingLemmas.{told_first, first_wrong, told_viewed, wrong_viewed, told_last}
use Rattle.cstn_refute.specs.Steps.{named_bound_read}
use Rattle.cstn_refute.specs.Orders.{bound_with}
use Rattle.cstn_refute.proofs.BoundLemmas.{named_said}
use Rattle.cstn_closed.specs.Texts.{bound_line_read, tells, closed_told}
use Rattle.cstn_closed.specs.Orders.{IsBoundLine, IsTextOfBounds}
use Rattle.cstn_closed.specs.Written.{IsPrintableBound, AreBoundsWritten}

few_said : (k : ℕ) → nat_lt k most_load ≡ true → k < most_load
few_said k e = grind arith

-- the line is that of a bound that can be written
record IsLine (names : List (List ℕ)) (k : ℕ) (line : List ℕ) (b : Bound) : Type 0 where
  few : k < most_load
  written : IsPrintableBound names b
  label : List ℕ
  read : label_read label ≡ Some b.label
  text : line ≡ codes "bound " ++ bound_with names b label

line_said : (names : List (List ℕ)) (k : ℕ) (line : List ℕ) (b : Bound) → bound_line_read names k line ≡ Some b → IsLine names k line b
line_said names k line b e =
    let word = then_read (part line) _ b e in
    let named = if_read (bytes_eq word.0.0 (codes "bound") && nat_lt k most_load) (named_bound_read names word.0.1) b word.2 in
    let tests = and_parts (bytes_eq word.0.0 (codes "bound")) (nat_lt k most_load) named.0 in
    let said = named_said names word.0.1 b named.1 in
    record {
      few = few_said k tests.1;
      written = said.written;
      label = said.label;
      read = said.read;
      text = part_said line word.0 word.1
          ∙ ap (λ (t : List ℕ). t ++ 32 ∷ word.0.1) ((bytes_eq-Decides word.0.0 (codes "bound")).0 tests.0)
          ∙ ap (λ (t : List ℕ). codes "bound" ++ 32 ∷ t) said.text;
    }

bounds_said : (names : List (List ℕ)) → AreSaid most_load (bound_line_read names) (IsPrintableBound names) (IsBoundLine names)
bounds_said names = λ k line b is. let said = line_said names k line b is in (said.few, said.written, (said.label, said.read, said.text))

text_says : (names : List (List ℕ)) (bytes : List ℕ) (load : ℕ) (bounds : List Bound) → closed_told names bytes ≡ tells load bounds →
    AreBoundsWritten names load bounds × IsTextOfBounds names load bounds bytes
text_says names bytes load bounds e =
    listing_said (codes "yes") most_load (bound_line_read names) (IsPrintableBound names) (IsBoundLine names) (bounds_said names) bytes load bounds e

-- what a text says can be written
pub text_said : (names : List (List ℕ)) (bytes : List ℕ) (load : ℕ) (bounds : List Bound) → closed_told names bytes ≡ tells load bounds → AreBoundsWritten names load bounds
text_said names bytes load bounds e = (text_says names bytes load bounds e).0

-- a text that says a load and bounds is the one that is printed, but for the order of the marks in the labels
pub text_is : (names : List (List ℕ)) (bytes : List ℕ) (load : ℕ) (bounds : List Bound) → closed_told names bytes ≡ tells load bounds → IsTextOfBounds names load bounds bytes
text_is names bytes load bounds e = (text_says names bytes load bounds e).1
