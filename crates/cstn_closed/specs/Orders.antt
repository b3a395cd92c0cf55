-- Texts of lists of bounds, in any order of the marks in their labels.
use Rattle.std.specs.Prelude.{ℕ, ◌≡◌, ◌++◌, List, Some, codes}
use Rattle.cstn_label.specs.Bounds.{Bound}
use Rattle.cstn_text.specs.PrintedLabels.{label_read}
use Rattle.cstn_text.specs.Listings.{IsListingBy}
use Rattle.cstn_refute.specs.Orders.{bound_with}

-- the line is that of the bound, with some text of its label
abbrev pub IsBoundLine : List (List ℕ) → ℕ → Bound → List ℕ → Type 0
IsBoundLine names k b line = (label : List ℕ) × (label_read label ≡ Some b.label) × (line ≡ codes "bound " ++ bound_with names b label)

-- the text of a load and bounds as it is printed, but for the order of the marks in the labels
abbrev pub IsTextOfBounds : List (List ℕ) → ℕ → List Bound → List ℕ → Type 0
IsTextOfBounds names load bounds text = IsListingBy (codes "yes") (IsBoundLine names) load bounds text
