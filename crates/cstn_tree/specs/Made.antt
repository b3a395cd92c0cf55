-- The tree of a network: what its executive does, by the outcomes that may be seen.
use Rattle.std.specs.Prelude.{ℕ, ◌≡◌, true, false, List, [], ◌∷◌, ◌++◌, Some, None}
use Rattle.cstn_label.specs.Bounds.{Bound}
use Rattle.cstn_net.specs.Networks.{Network, count}
use Rattle.cstn_net.specs.Strategies.{Table}
use Rattle.cstn_plan.specs.Plans.{IsEarliest}
use Rattle.cstn_exec.specs.Runs.{Run, start_of_run, due, called}
use Rattle.cstn_exec.specs.Moves.{Awaiting, moment_refusal, run_moved, handed}
use Rattle.cstn_outline.specs.Trees.{Tree, TreeLine, lines_of_tree}
use Rattle.cstn_outline.specs.Trees.Tree.{at, ask, done}
use Rattle.cstn_outline.specs.Whole.{all_lines}

-- the tree from a run on. Where no moment is due, it is `done`. Where the due moment has to wait for an outcome, the least
-- proposition that is awaited is asked. Else the time-points that are executed at the due moment are named.
pub data IsTreeFrom (net : Network) (bounds : List Bound) : Run → Tree → Type 0 where
  ends : (run : Run) → due net bounds run ≡ None → IsTreeFrom net bounds run done
  asks : (run : Run) (t p : ℕ) (one other : Tree) → due net bounds run ≡ Some t → moment_refusal net bounds run t ≡ Some (Awaiting p) →
      IsTreeFrom net bounds (handed run p true) one → IsTreeFrom net bounds (handed run p false) other →
      IsTreeFrom net bounds run (ask p one other)
  names : (run : Run) (t : ℕ) (next : Tree) → due net bounds run ≡ Some t → moment_refusal net bounds run t ≡ None →
      IsTreeFrom net bounds (run_moved net bounds run t) next → IsTreeFrom net bounds run (at t (called net bounds run t) next)

-- the tree from the run in which nothing is executed yet
abbrev pub IsTreeOf : Network → List Bound → Tree → Type 0
IsTreeOf net bounds tree = IsTreeFrom net bounds (start_of_run (count net)) tree

-- the tree of a network: that by some bounds that have a strategy with each time-point at the least moment that they leave it
pub record IsTheTree (net : Network) (tree : Tree) : Type 0 where
  pub bounds : List Bound
  pub table : Table
  pub earliest : IsEarliest net bounds table
  pub made : IsTreeOf net bounds tree

-- a tree from each of the runs
abbrev pub AreTreesFrom : Network → List Bound → List Run → List Tree → Type 0
AreTreesFrom net bounds [] [] = Unit {0}
AreTreesFrom net bounds [] (tree ∷ trees) = ⊥
AreTreesFrom net bounds (run ∷ runs) [] = ⊥
AreTreesFrom net bounds (run ∷ runs) (tree ∷ trees) = IsTreeFrom net bounds run tree × AreTreesFrom net bounds runs trees

-- the lines, followed by those of the trees from these runs, are the lines of the tree of the network
pub record IsGrownTree (net : Network) (bounds : List Bound) (ls : List TreeLine) (runs : List Run) : Type 0 where
  pub grown : (trees : List Tree) → AreTreesFrom net bounds runs trees → (tree : Tree) × (ls ++ all_lines trees ≡ lines_of_tree tree) × IsTreeOf net bounds tree
