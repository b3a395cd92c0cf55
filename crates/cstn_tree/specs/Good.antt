-- When a line of a tree breaks, and good trees.
use Rattle.std.specs.Prelude.{ℕ, ◌≡◌, ◌+◌, max, Bool, true, false, ◌&&◌, ◌||◌, ◌==◌, not, nat_le, cond, is_none, is_some, if◌then◌else◌, List, [], ◌∷◌, length, Option, Some, None, ℤ, pos, ◌-ℤ◌}
use Rattle.std.specs.Int.Signed.{le_z}
use Rattle.std.specs.List.{position, list_all, range_with_len}
use Rattle.std.specs.Option.{option_and_then}
use Rattle.cstn_net.specs.Networks.{Network, Constraint, count, limit, is_prop}
use Rattle.cstn_exec.specs.Runs.{is_possible}
use Rattle.cstn_outline.specs.Trees.{Tree, is_named, lines_of_tree}
use Rattle.cstn_outline.specs.Trees.Tree.{at, ask, done}

-- what the branch of a line says: the moment of each time-point that it names, the outcome of each proposition that it asks,
-- and the least moment that its next `at` may have, which is above its last `at` and at which each outcome asked since is known
pub record Branch : Type 0 where
  pub placed : ℕ → Option ℕ
  pub asked : ℕ → Option Bool
  pub from : ℕ

-- the branch of the first line
abbrev pub branch_begun : Branch
branch_begun = record { placed = λ x. None; asked = λ p. None; from = 0 }

-- ---- `at`

abbrev pub placed_with : (ℕ → Option ℕ) → ℕ → List ℕ → ℕ → Option ℕ
placed_with placed t xs = λ x. if is_named x xs then Some t else placed x

-- the branch of the line below an `at`
abbrev pub below_at : Branch → ℕ → List ℕ → Branch
below_at b t xs = record { placed = placed_with b.placed t xs; asked = b.asked; from = t + 1 }

-- each time-point is named once on the line, and not above it
abbrev pub are_new : (ℕ → Option ℕ) → List ℕ → Bool
are_new placed [] = true
are_new placed (x ∷ xs) = is_none (placed x) && (not (is_named x xs) && are_new placed xs)

abbrev pub are_in_time : Network → ℕ → List ℕ → Bool
are_in_time net t xs = list_all (λ x. nat_le t (limit net x)) xs

-- `to` is at most `most` ticks after `from`, where both moments are there
abbrev pub is_met_within : ℤ → Option ℕ → Option ℕ → Bool
is_met_within most None to = true
is_met_within most (Some from) None = true
is_met_within most (Some from) (Some to) = le_z (pos to -ℤ pos from) most

-- the constraint is met as far as its ends are placed, unless an outcome that was asked contradicts its label
abbrev pub is_met_so_far : (ℕ → Option ℕ) → (ℕ → Option Bool) → Constraint → Bool
is_met_so_far placed asked c = not (is_possible asked c.label) || is_met_within c.most (placed c.from) (placed c.to)

-- the constraint is kept, or has no end among xs
abbrev pub is_met : (ℕ → Option ℕ) → (ℕ → Option Bool) → List ℕ → Constraint → Bool
is_met placed asked xs c = not (is_named c.from xs || is_named c.to xs) || is_met_so_far placed asked c

-- an `at` doesn't break: its moment may follow; its time-points are named for the first time, and not above their limits; and
-- the constraints that have one end on this line, and the other here or above, are met
abbrev pub fits_at : Network → Branch → ℕ → List ℕ → Bool
fits_at net b t xs =
    nat_le b.from t && (are_new b.placed xs && (are_in_time net t xs &&
    list_all (is_met (placed_with b.placed t xs) b.asked xs) net.constraints))

-- ---- `ask`

-- the moment at which the branch names p's observer, if it does
abbrev pub observed_on : Network → Branch → ℕ → Option ℕ
observed_on net b p = option_and_then b.placed (position (is_prop p) net.observes)

-- the moment from which an outcome is known, by its reaction and its observer's moment; 0 where the observer has none
abbrev pub known_from : ℕ → Option ℕ → ℕ
known_from reaction None = 0
known_from reaction (Some m) = m + reaction

-- the branch of the line below an `ask` where the outcome is v
abbrev pub below_ask : Network → Branch → ℕ → Bool → Branch
below_ask net b p v = record {
  placed = b.placed;
  asked = λ q. cond (q == p) (Some v) (b.asked q);
  from = max b.from (known_from (net.reaction p) (observed_on net b p));
}

-- an `ask` doesn't break: the observer is named above, and the proposition isn't asked there
abbrev pub fits_ask : Network → Branch → ℕ → Bool
fits_ask net b p = is_some (observed_on net b p) && is_none (b.asked p)

-- ---- `done`

-- a `done` doesn't break: each time-point is named above
abbrev pub is_complete : Network → Branch → Bool
is_complete net b = list_all (λ x. is_some (b.placed x)) (range_with_len 0 (count net))

-- ---- the first line that breaks

abbrev pub or_else : Option ℕ → Option ℕ → Option ℕ
or_else None other = other
or_else (Some line) other = Some line

-- the first line of the tree that breaks, where its first line has this branch and this number
abbrev pub first_broken_from : Network → Branch → Tree → ℕ → Option ℕ
first_broken_from net b (at t xs next) line =
    if fits_at net b t xs then first_broken_from net (below_at b t xs) next (line + 1) else Some line
first_broken_from net b (ask p one other) line =
    if fits_ask net b p then
    or_else (first_broken_from net (below_ask net b p true) one (line + 1))
    (first_broken_from net (below_ask net b p false) other (line + 1 + length (lines_of_tree one)))
    else Some line
first_broken_from net b done line = if is_complete net b then None else Some line

-- the first line of the tree's text that breaks; the line of the load is 1
abbrev pub first_broken : Network → Tree → Option ℕ
first_broken net tree = first_broken_from net branch_begun tree 2

-- a tree is good where no line breaks
abbrev pub IsUnbroken : Network → Tree → Type 0
IsUnbroken net tree = first_broken net tree ≡ None
