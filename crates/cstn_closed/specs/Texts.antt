-- Texts of lists of bounds.
use Rattle.std.specs.Prelude.{ℕ, ◌++◌, ◌&&◌, nat_lt, if◌then◌else◌, List, Option, None, codes, bytes_eq}
use Rattle.cstn_label.specs.Bounds.{Bound}
use Rattle.cstn_net.specs.Limits.{most_load}
use Rattle.cstn_text.specs.Parts.{part}
use Rattle.cstn_text.specs.Listings.{Told as ToldBy, ListingKind, by_places, printed_lines, printed_listing, told as told_by}
pub use Rattle.cstn_text.specs.Listings.{tells, wrong}
use Rattle.cstn_refute.specs.Steps.{◌>>=◌, named_bound_read, printed_bound}

-- the line of a bound: `bound`, a space, and the bound as in a refutation. There are at most 4,194,304 of them
abbrev pub bound_line_read : List (List ℕ) → ℕ → List ℕ → Option Bound
bound_line_read names k line =
    part line >>= (λ word. if bytes_eq word.0 (codes "bound") && nat_lt k most_load then named_bound_read names word.1 else None)

-- what a text says: a load and bounds, or that a line, counted from 1, is the first that isn't of the grammar
abbrev pub ClosedTold : Type 0
ClosedTold = ToldBy Bound

-- lists of bounds are listings of bounds, each by its place, behind the word `yes`
abbrev pub bound_lines : List (List ℕ) → ListingKind Bound
bound_lines names = by_places (codes "yes") most_load (bound_line_read names)

abbrev pub closed_told : List (List ℕ) → List ℕ → ClosedTold
closed_told names bytes = told_by (bound_lines names) bytes

-- the line of a bound, at any place
abbrev pub printed_bound_line : List (List ℕ) → ℕ → Bound → List ℕ
printed_bound_line names k b = codes "bound " ++ printed_bound names b

-- the lines of the bounds from the place k on, each with its LF
abbrev pub printed_bounds : List (List ℕ) → ℕ → List Bound → List ℕ
printed_bounds names k bounds = printed_lines (printed_bound_line names) k bounds

-- the text of a load and bounds
abbrev pub closed_shown : List (List ℕ) → ℕ → List Bound → List ℕ
closed_shown names load bounds = printed_listing (codes "yes") (printed_bound_line names) load bounds
