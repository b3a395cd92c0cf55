-- What is printed of a list of bounds is read again.
use Rattle.std.proofs.Common.{ℕ, ◌≡◌, ◌<◌, true, List, ◌++◌, arith, refl, sym, ap, subst, ◌∙◌}
use Rattle.std.specs.Prelude.{◌&&◌, nat_lt, if◌then◌else◌, bytes_eq, Option, Some, None, codes}
use Rattle.cstn_label.specs.Bounds.{Bound}
use Rattle.cstn_net.specs.Limits.{most_load}
use Rattle.cstn_text.specs.Names.{AreNames}
use Rattle.cstn_text.specs.PrintedLabels.{printed_label, label_read}
use Rattle.cstn_text.proofs.PrintedLabelLemmas.{label_back}
use Rattle.cstn_text.proofs.ReadingLemmas.{word_part, part_back, IsFree, free, spaced}
use Rattle.cstn_text.proofs.PlaceLemmas.{AreReadBack, listing_back, printed_back}
pub use Rattle.cstn_text.proofs.PlaceLemmas.{listing_grows}
use Rattle.cstn_refute.specs.Steps.{◌>>=◌, named_bound_read}
use Rattle.cstn_refute.specs.Orders.{bound_with}
use Rattle.cstn_refute.proofs.BoundLemmas.{named_back, bound_free}
use Rattle.cstn_closed.specs.Texts.{bound_line_read, tells, closed_told, printed_bound_line, closed_shown}
use Rattle.cstn_closed.specs.Orders.{IsBoundLine, IsTextOfBounds}
use Rattle.cstn_closed.specs.Written.{IsPrintableBound, AreBoundsWritten}

few_lines : (k : ℕ) → k < most_load → nat_lt k most_load ≡ true
few_lines k small = grind arith

-- the line of a bound is read again
line_back : (names : List (List ℕ)) (k : ℕ) (b : Bound) (label : List ℕ) → AreNames names → k < most_load → IsPrintableBound names b → label_read label ≡ Some b.label →
    bound_line_read names k (codes "bound " ++ bound_with names b label) ≡ Some b
line_back names k b label are small is read =
    ap (λ (o : Option (List ℕ × List ℕ)). o >>= (λ word. if bytes_eq word.0 (codes "bound") && nat_lt k most_load then named_bound_read names word.1 else None))
    (part_back (codes "bound") (bound_with names b label) (word_part (codes "bound") (omega arith) refl))
    ∙ ap (λ t. if t then named_bound_read names (bound_with names b label) else None) (few_lines k small)
    ∙ named_back names b label are is read

line_free : (names : List (List ℕ)) (b : Bound) (label : List ℕ) → AreNames names → IsPrintableBound names b → label_read label ≡ Some b.label →
    IsFree (codes "bound " ++ bound_with names b label)
line_free names b label are is read =
    spaced (codes "bound") (bound_with names b label) (free (codes "bound") (word_part (codes "bound") (omega arith) refl)) (bound_free names b label are is read)

-- the lines of bounds, in any order of marks, are read
bounds_read : (names : List (List ℕ)) → AreNames names → AreReadBack most_load (bound_line_read names) (IsPrintableBound names) (IsBoundLine names)
bounds_read names are = λ k b line small is its.
    let back = ap (bound_line_read names k) its.2 ∙ line_back names k b its.0 are small is its.1 in
    (back, subst IsFree (sym its.2) (line_free names b its.0 are is its.1))

-- a text of a load and bounds, in any order of marks, says them
pub text_back : (names : List (List ℕ)) (load : ℕ) (bounds : List Bound) (text : List ℕ) → AreNames names → AreBoundsWritten names load bounds → IsTextOfBounds names load bounds text →
    closed_told names text ≡ tells load bounds
text_back names load bounds text are is lines =
    listing_back (codes "yes") most_load (bound_line_read names) (IsPrintableBound names) (IsBoundLine names) (word_part (codes "yes") (omega arith) refl) (omega arith)
    (bounds_read names are) load bounds text is lines

-- what is shown of a load and bounds says them
pub shown_back : (names : List (List ℕ)) (load : ℕ) (bounds : List Bound) → AreNames names → AreBoundsWritten names load bounds →
    closed_told names (closed_shown names load bounds) ≡ tells load bounds
shown_back names load bounds are is =
    printed_back (codes "yes") most_load (bound_line_read names) (IsPrintableBound names) (IsBoundLine names) (word_part (codes "yes") (omega arith) refl) (omega arith)
    (bounds_read names are) (printed_bound_line names) (λ k b here. (printed_label b.label, label_back b.label here.marks, refl)) load bounds is
