-- Texts of refutations, in any order of the marks in their labels.
use Rattle.std.specs.Prelude.{ℕ, ◌≡◌, ◌++◌, List, [], ◌∷◌, Some, codes, slice_index_or}
use Rattle.cstn_label.specs.Bounds.{Bound}
use Rattle.cstn_rules.specs.Derivations.{Entry}
use Rattle.cstn_text.specs.Numbers.{printed_number, printed_value}
use Rattle.cstn_text.specs.PrintedNames.{printed_name}
use Rattle.cstn_text.specs.PrintedLabels.{label_read}
use Rattle.cstn_text.specs.Listings.{IsListingBy}
use Rattle.cstn_refute.specs.Steps.{printed_why}

-- a bound as it is printed, but with this text for its label
abbrev pub bound_with : List (List ℕ) → Bound → List ℕ → List ℕ
bound_with names b label = printed_name (slice_index_or names b.node []) ++ 32 ∷ printed_value b.least ++ 32 ∷ label

-- the line of the step at the place k as it is printed, but with this text for its label
abbrev pub step_with : List (List ℕ) → ℕ → Entry → List ℕ → List ℕ
step_with names k e label = printed_number k ++ 32 ∷ printed_why e.why ++ 32 ∷ bound_with names e.bound label

-- the line is that of the step at the place k, with some text that is read as its label
abbrev pub IsStepLine : List (List ℕ) → ℕ → Entry → List ℕ → Type 0
IsStepLine names k e line = (label : List ℕ) × (label_read label ≡ Some e.bound.label) × (line ≡ step_with names k e label)

-- the text of a load and steps as it is printed, but for the order of the marks in the labels
abbrev pub IsTextOfSteps : List (List ℕ) → ℕ → List Entry → List ℕ → Type 0
IsTextOfSteps names load steps text = IsListingBy (codes "no") (IsStepLine names) load steps text
