-- Texts of refutations.
use Rattle.std.specs.Prelude.{ℕ, List, codes}
use Rattle.cstn_net.specs.Limits.{most_load}
use Rattle.cstn_rules.specs.Derivations.{Entry}
use Rattle.cstn_text.specs.Listings.{Told as ToldBy, ListingKind, by_places, printed_lines, printed_listing, told as told_by}
pub use Rattle.cstn_text.specs.Listings.{tells, wrong}
use Rattle.cstn_refute.specs.Steps.{step_read, printed_step}

-- what a text says: a load and steps, or that a line, counted from 1, is the first that isn't of the grammar
abbrev pub RefutationTold : Type 0
RefutationTold = ToldBy Entry

-- refutations are listings of steps, each by its place, behind the word `no`
abbrev pub step_lines : List (List ℕ) → ListingKind Entry
step_lines names = by_places (codes "no") most_load (step_read names)

abbrev pub refutation_told : List (List ℕ) → List ℕ → RefutationTold
refutation_told names bytes = told_by (step_lines names) bytes

-- the lines of the steps from the place k on, each with its LF
abbrev pub printed_steps : List (List ℕ) → ℕ → List Entry → List ℕ
printed_steps names k steps = printed_lines (printed_step names) k steps

-- the printed text of a load and steps
abbrev pub refutation_shown : List (List ℕ) → ℕ → List Entry → List ℕ
refutation_shown names load steps = printed_listing (codes "no") (printed_step names) load steps
