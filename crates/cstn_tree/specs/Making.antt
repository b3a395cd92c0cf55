-- What the program keeps while it makes a tree.
use Rattle.std.specs.Prelude.{ℕ, ◌≡◌, false, List, ◌∷◌, Some, None, map, reverse}
use Rattle.std.specs.List.{All}
use Rattle.cstn_label.specs.Bounds.{Bound}
use Rattle.cstn_net.specs.Networks.{Network}
use Rattle.cstn_net.specs.Read.{the_network}
use Rattle.cstn_plan.specs.Plans.{the_bounds}
use Rattle.cstn_exec.specs.Runs.{Run, due}
use Rattle.cstn_exec.specs.Moves.{moment_refusal, outcome_refusal, handed}
use Rattle.cstn_exec.specs.Read.{ExecParts, IsRunOf, moved_on}
use Rattle.cstn_tree.specs.declared.making.OpenAsk.{OpenAsk}
use Rattle.cstn_tree.specs.declared.making.Making.{Making}
use Rattle.cstn_outline.specs.Read.{the_tree_line}
use Rattle.cstn_tree.specs.Made.{IsGrownTree}

-- the run of the second tree of an `ask`
abbrev pub second_run : OpenAsk → Run
second_run a = handed a.before a.prop.index false

-- the runs of the trees that are still to come, the next one first
abbrev pub the_pending : List OpenAsk → List Run
the_pending asks = map second_run (reverse asks)

-- the executive can go back to the `ask`, and accepts an outcome there
pub record IsOpenAsk (net : Network) (a : OpenAsk) : Type 0 where
  pub run : IsRunOf net a.before
  pub accepted : outcome_refusal net a.before a.prop.index ≡ None

-- the lines, followed by those of the trees from the executive's run and from the pending runs, are the lines of the tree of
-- the network
pub record IsMaking (net : Network) (bounds : List Bound) (run : Run) (m : Making) : Type 0 where
  pub grown : IsGrownTree net bounds (map the_tree_line m.lines.items) (run ∷ the_pending m.asks.items)
  pub asks : All (IsOpenAsk net) m.asks.items

-- the executive has accepted the due moment t, whose line is still to come
pub record IsMovedTo (t : ℕ) (exec : ExecParts) (m : Making) : Type 0 where
  pub before : ExecParts
  pub making : IsMaking (the_network before.net) (the_bounds before.bounds) before.run m
  pub due : due (the_network before.net) (the_bounds before.bounds) before.run ≡ Some t
  pub accepted : moment_refusal (the_network before.net) (the_bounds before.bounds) before.run t ≡ None
  pub moved : exec ≡ moved_on before t
