-- Trees of small networks. The proposition 0 is called p here, and 1 is called q.
use Rattle.std.specs.Prelude.{ℕ, zero, suc, [], ◌∷◌, None, Some, ℤ, negsuc}
use Rattle.cstn_label.specs.declared.marks.Mark.TheVariants.{Absent, Yes}
use Rattle.cstn_label.specs.Labels.{Label}
use Rattle.cstn_net.specs.Networks.{Network, Constraint}
use Rattle.cstn_net.specs.Examples.{branch, only_mark}
use Rattle.cstn_outline.specs.Trees.{Tree}
use Rattle.cstn_outline.specs.Trees.Tree.{at, ask, done}

-- Z and P at 0, and X at `late` where p is true and at `early` where it is false
abbrev pub branch_tree : ℕ → ℕ → Tree
branch_tree late early = at 0 (0 ∷ 1 ∷ []) (ask 0 (at late (2 ∷ []) done) (at early (2 ∷ []) done))

-- p is asked before P is named
abbrev pub asked_first : Tree
asked_first = ask 0 (at 0 (0 ∷ 1 ∷ []) (at 10 (2 ∷ []) done)) (at 0 (0 ∷ 1 ∷ []) (at 1 (2 ∷ []) done))

-- Z is named twice on a line
abbrev pub named_twice : Tree
named_twice = at 0 (0 ∷ 0 ∷ 1 ∷ []) (ask 0 (at 10 (2 ∷ []) done) (at 1 (2 ∷ []) done))

-- X is left out where p is false
abbrev pub left_out_tree : Tree
left_out_tree = at 0 (0 ∷ 1 ∷ []) (ask 0 (at 10 (2 ∷ []) done) done)

-- the branch network, in which p is known 2 ticks after P
abbrev pub slow_branch_tree : Network
slow_branch_tree = record branch { reaction = λ p. 2 }

abbrev pub before : ℕ → ℕ → ℕ → ℤ → Label → Constraint
before id from to most label = record { id = id; from = from; to = to; most = most; label = label }

-- the label by which q is true
abbrev pub second : Label
second zero = Absent
second (suc p) = only_mark Yes p

-- P is at 5 or later where q is true, and Q is at 5 or later where p is true
abbrev pub crossed_waits : Network
crossed_waits = record {
  deadline = 5;
  observes = None ∷ Some 0 ∷ Some 1 ∷ [];
  reaction = λ p. 1;
  constraints = before 0 1 0 (negsuc 4) second ∷ before 1 2 0 (negsuc 4) (only_mark Yes) ∷ [];
}

abbrev pub crossed_tree : Tree
crossed_tree = at 0 (0 ∷ []) (at 5 (1 ∷ 2 ∷ []) done)

-- a network of the origin alone
abbrev pub lone_origin : Network
lone_origin = record { deadline = 5; observes = None ∷ []; reaction = λ p. 1; constraints = [] }
