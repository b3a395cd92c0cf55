-- What the program keeps of a branch.
use Rattle.std.specs.Prelude.{ℕ, ◌≡◌, ◌≤◌, List, ◌∷◌, Option, Some, None, length, map, reverse, slice_index_or}
use Rattle.std.specs.List.{All}
use Rattle.cstn_label.specs.Read.{known_value}
use Rattle.cstn_net.specs.Limits.{most_deadline}
use Rattle.cstn_tree.specs.declared.branches.Branch.{Branch}
use Rattle.cstn_tree.specs.declared.checking.TreeAnswer.{TreeAnswer}
use Rattle.cstn_tree.specs.declared.checking.TreeAnswer.TheVariants.{Accepted, Rejected}
use Rattle.cstn_tree.specs.Good.{Branch as TheBranch}
use Rattle.cstn_tree.specs.declared.walks.Walk.{Walk}
use Rattle.cstn_tree.specs.declared.walks.Step.{Step}
use Rattle.cstn_tree.specs.declared.walks.Step.TheVariants.{Broken, On, End}
use Rattle.cstn_tree.specs.Walks.{WalkStep as TheStep, Broken as SpecBroken, On as SpecOn, End as SpecEnd}

-- the moment of each time-point, which stands at its place in the list
abbrev pub the_placed : List (Option ℕ) → ℕ → Option ℕ
the_placed moments x = slice_index_or moments x None

-- the branch that the program's one stands for
abbrev pub the_branch : Branch → TheBranch
the_branch b = record { placed = the_placed b.moments.items; asked = known_value b.asked; from = b.from }

-- there is a place for each of the n time-points, and no moment is above a million
pub record IsBranchOf (n : ℕ) (b : Branch) : Type 0 where
  pub wide : length b.moments.items ≡ n
  pub in_time : (x m : ℕ) → the_placed b.moments.items x ≡ Some m → m ≤ most_deadline

-- the branches of a walk: that of the next line, and those of the trees that follow its tree
abbrev pub the_branches : Walk → List TheBranch
the_branches w = the_branch w.here ∷ map the_branch (reverse w.pending.items)

pub record IsWalkOf (n : ℕ) (w : Walk) : Type 0 where
  pub here : IsBranchOf n w.here
  pub pending : All (IsBranchOf n) w.pending.items

-- the step of the definition that a program's step stands for
abbrev pub the_walk_step : Step → TheStep
the_walk_step Broken = SpecBroken
the_walk_step On = SpecOn
the_walk_step End = SpecEnd

-- the line that an answer names, if it names one
abbrev pub the_answer : TreeAnswer → Option ℕ
the_answer Accepted = None
the_answer (Rejected line) = Some line
