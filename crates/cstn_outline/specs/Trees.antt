-- Trees that say when each time-point is executed, by the outcomes that are seen: their lines, and the tables they stand for.
use Rattle.std.specs.Prelude.{ℕ, ◌<◌, ◌||◌, ◌==◌, Bool, false, if◌then◌else◌, List, [], ◌∷◌, ◌++◌, Option, Some, None}
use Rattle.std.specs.List.{All}
use Rattle.cstn_label.specs.Labels.{Scenario}
use Rattle.cstn_net.specs.Strategies.{Table}

-- a tree: time-points are named at a moment; or an outcome is asked, and there is a tree for true and one for false; or each
-- time-point is executed
pub data Tree : Type 0 where
  at : (moment : ℕ) → (named : List ℕ) → (next : Tree) → Tree
  ask : (prop : ℕ) → (one : Tree) → (other : Tree) → Tree
  done : Tree

-- a line of a tree
pub data TreeLine : Type 0 where
  AtLine : (moment : ℕ) → (named : List ℕ) → TreeLine
  AskLine : (prop : ℕ) → TreeLine
  DoneLine : TreeLine

-- the lines of a tree in preorder: an `ask` is followed by the tree for true and the tree for false
abbrev pub lines_of_tree : Tree → List TreeLine
lines_of_tree (at t xs next) = AtLine t xs ∷ lines_of_tree next
lines_of_tree (ask p one other) = AskLine p ∷ (lines_of_tree one ++ lines_of_tree other)
lines_of_tree done = DoneLine ∷ []

-- x stands in the list
abbrev pub is_named : ℕ → List ℕ → Bool
is_named x [] = false
is_named x (y ∷ ys) = (x == y) || is_named x ys

-- the moment of x in the scenario, on the branch that goes by its outcomes; none where no line of the branch names x
abbrev pub walk : Tree → Scenario → ℕ → Option ℕ
walk (at t xs next) s x = if is_named x xs then Some t else walk next s x
walk (ask p one other) s x = if s p then walk one s x else walk other s x
walk done s x = None

abbrev pub moment_or_zero : Option ℕ → ℕ
moment_or_zero None = 0
moment_or_zero (Some m) = m

-- the table that has in each scenario the moments on the branch of its outcomes, and 0 for a time-point not named there
abbrev pub table_of : Tree → Table
table_of tree s x = moment_or_zero (walk tree s x)

-- the time-points that a line names
abbrev pub names_on : TreeLine → List ℕ
names_on (AtLine t xs) = xs
names_on (AskLine p) = []
names_on DoneLine = []

-- each time-point that the tree names is one of the first n
abbrev pub IsAmong : ℕ → Tree → Type 0
IsAmong n tree = All (λ l. All (λ x. x < n) (names_on l)) (lines_of_tree tree)
