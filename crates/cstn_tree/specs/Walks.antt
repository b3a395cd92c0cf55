-- The first line that breaks, found in one walk along the lines of a tree.
use Rattle.std.specs.Prelude.{ℕ, ◌+◌, true, false, if◌then◌else◌, List, [], ◌∷◌, Option, Some, None}
use Rattle.cstn_net.specs.Networks.{Network}
use Rattle.cstn_outline.specs.Trees.{TreeLine}
use Rattle.cstn_outline.specs.Trees.TreeLine.{AtLine, AskLine, DoneLine}
use Rattle.cstn_tree.specs.Good.{Branch, fits_at, fits_ask, is_complete, below_at, below_ask}

-- the first of the lines left that breaks; `branches` has the branch of the next line and those of the trees after its tree
abbrev pub first_broken_in : Network → List Branch → List TreeLine → ℕ → Option ℕ
first_broken_in net branches [] line = None
first_broken_in net [] (l ∷ ls) line = None
first_broken_in net (b ∷ bs) (AtLine t xs ∷ ls) line =
    if fits_at net b t xs then first_broken_in net (below_at b t xs ∷ bs) ls (line + 1) else Some line
first_broken_in net (b ∷ bs) (AskLine p ∷ ls) line =
    if fits_ask net b p then first_broken_in net (below_ask net b p true ∷ (below_ask net b p false ∷ bs)) ls (line + 1) else Some line
first_broken_in net (b ∷ bs) (DoneLine ∷ ls) line =
    if is_complete net b then first_broken_in net bs ls (line + 1) else Some line

-- what a step of the walk comes to: its line breaks; it doesn't, and there are more lines; or it doesn't, and is the last one
pub data WalkStep : Type 0 where
  Broken : WalkStep
  On : WalkStep
  End : WalkStep

-- the first line that breaks, after a step on a line of this number
abbrev pub after_step : WalkStep → Network → List Branch → List TreeLine → ℕ → Option ℕ
after_step Broken net branches ls line = Some line
after_step On net branches ls line = first_broken_in net branches ls (line + 1)
after_step End net branches ls line = None
