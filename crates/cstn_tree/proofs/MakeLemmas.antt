-- The tree of a network, line by line.
use Rattle.std.proofs.Common.{ℕ, ◌≡◌, true, false, List, [], ◌∷◌, ◌++◌, Some, None, sym, subst, ap, ◌∙◌, append_assoc}
use Rattle.std.proofs.lemmas.List.{append-nil}
use Rattle.cstn_label.specs.Bounds.{Bound}
use Rattle.cstn_net.specs.Networks.{Network, count}
use Rattle.cstn_exec.specs.Runs.{Run, start_of_run, due, called}
use Rattle.cstn_exec.specs.Moves.{Awaiting, moment_refusal, run_moved, handed}
use Rattle.cstn_outline.specs.Trees.{Tree, TreeLine, lines_of_tree}
use Rattle.cstn_outline.specs.Trees.Tree.{at, ask, done}
use Rattle.cstn_outline.specs.Trees.TreeLine.{AtLine, AskLine, DoneLine}
use Rattle.cstn_outline.specs.Whole.{all_lines}
use Rattle.cstn_tree.specs.Made.{IsTreeOf, AreTreesFrom, IsGrownTree}
use Rattle.cstn_tree.specs.Made.IsTreeFrom.{ends, asks, names}
use Rattle.cstn_outline.specs.Read.{AreWhole, the_tree}
use Rattle.cstn_outline.proofs.TreeLemmas.{tree_back, more_lines}

module _ (net : Network) (bounds : List Bound) where
  pub grown_first : IsGrownTree net bounds [] (start_of_run (count net) ∷ [])
  grown_first = record { grown = go }
    where
      go : (trees : List Tree) → AreTreesFrom net bounds (start_of_run (count net) ∷ []) trees → (tree : Tree) × (all_lines trees ≡ lines_of_tree tree) × IsTreeOf net bounds tree
      go [] no_tree = absurd no_tree
      go (tree ∷ []) are = (tree, append-nil (lines_of_tree tree), are.0)
      go (tree ∷ (other ∷ trees)) are = absurd are.1

  pub grown_end : (ls : List TreeLine) → IsGrownTree net bounds ls [] → AreWhole ls × IsTreeOf net bounds (the_tree ls)
  grown_end ls g =
      let whole = g.grown [] tt in
      let same : ls ≡ lines_of_tree whole.0 = sym (append-nil ls) ∙ whole.1 in
      ((whole.0, same), subst (IsTreeOf net bounds) (sym (ap the_tree same ∙ tree_back whole.0)) whole.2)

  pub grown_done : (ls : List TreeLine) (run : Run) (runs : List Run) → due net bounds run ≡ None → IsGrownTree net bounds ls (run ∷ runs) → IsGrownTree net bounds (ls ++ DoneLine ∷ []) runs
  grown_done ls run runs none g = record { grown = go }
    where
      go : (trees : List Tree) → AreTreesFrom net bounds runs trees → (tree : Tree) × ((ls ++ DoneLine ∷ []) ++ all_lines trees ≡ lines_of_tree tree) × IsTreeOf net bounds tree
      go trees are =
          let whole = g.grown (done ∷ trees) (ends run none, are) in
          (whole.0, more_lines ls DoneLine (all_lines trees) ∙ whole.1, whole.2)

  pub grown_at : (ls : List TreeLine) (run : Run) (runs : List Run) (t : ℕ) → due net bounds run ≡ Some t → moment_refusal net bounds run t ≡ None →
      IsGrownTree net bounds ls (run ∷ runs) → IsGrownTree net bounds (ls ++ AtLine t (called net bounds run t) ∷ []) (run_moved net bounds run t ∷ runs)
  grown_at ls run runs t is accepted g = record { grown = go }
    where
      go : (trees : List Tree) → AreTreesFrom net bounds (run_moved net bounds run t ∷ runs) trees →
          (tree : Tree) × ((ls ++ AtLine t (called net bounds run t) ∷ []) ++ all_lines trees ≡ lines_of_tree tree) × IsTreeOf net bounds tree
      go [] no_tree = absurd no_tree
      go (below ∷ trees) are =
          let whole = g.grown (at t (called net bounds run t) below ∷ trees) (names run t below is accepted are.0, are.1) in
          (whole.0, more_lines ls (AtLine t (called net bounds run t)) (all_lines (below ∷ trees)) ∙ whole.1, whole.2)

  pub grown_ask : (ls : List TreeLine) (run : Run) (runs : List Run) (t p : ℕ) → due net bounds run ≡ Some t → moment_refusal net bounds run t ≡ Some (Awaiting p) →
      IsGrownTree net bounds ls (run ∷ runs) → IsGrownTree net bounds (ls ++ AskLine p ∷ []) (handed run p true ∷ (handed run p false ∷ runs))
  grown_ask ls run runs t p is waits g = record { grown = go }
    where
      go : (trees : List Tree) → AreTreesFrom net bounds (handed run p true ∷ (handed run p false ∷ runs)) trees →
          (tree : Tree) × ((ls ++ AskLine p ∷ []) ++ all_lines trees ≡ lines_of_tree tree) × IsTreeOf net bounds tree
      go [] no_tree = absurd no_tree
      go (one ∷ []) no_tree = absurd no_tree.1
      go (one ∷ (other ∷ trees)) are =
          let whole = g.grown (ask p one other ∷ trees) (asks run t p one other is waits are.0 are.1.0, are.1.1) in (
            whole.0,
            more_lines ls (AskLine p) (all_lines (one ∷ (other ∷ trees)))
                ∙ ap (λ l. ls ++ (AskLine p ∷ l)) (sym (append_assoc (lines_of_tree one) (lines_of_tree other) (all_lines trees))) ∙ whole.1,
            whole.2,
          )
