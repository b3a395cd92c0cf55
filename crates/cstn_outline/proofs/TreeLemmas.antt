-- The lines of trees, and the trees of lines.
use Rattle.std.proofs.Common.{ℕ, suc, ◌+◌, ◌<◌, Bool, true, false, Option, Some, None, length, length-append, arith, subst, ◌≡◌, List, [], ◌∷◌, ◌++◌, refl, sym, ap, ◌∙◌, append_assoc}
use Rattle.std.specs.Prelude.{if◌then◌else◌}
use Rattle.std.specs.List.{All}
use Rattle.std.proofs.lemmas.List.{append-nil, get_or-map, length-map}
use Rattle.cstn_label.specs.declared.nodes.NodeId.{NodeId}
use Rattle.cstn_outline.specs.Read.{node_numbers}
use Rattle.cstn_outline.specs.Texts.{ahead_after}
use Rattle.cstn_outline.specs.Whole.{all_lines, IsBegun}
use Rattle.cstn_outline.specs.Trees.{Tree, TreeLine, IsAmong, lines_of_tree, names_on}
use Rattle.cstn_outline.specs.Trees.Tree.{at, ask, done}
use Rattle.cstn_outline.specs.Trees.TreeLine.{AtLine, AskLine, DoneLine}
use Rattle.cstn_outline.specs.Read.{trees_of, with_line, the_tree, first_or_done, AreWhole}

-- the lines of a tree and further ones are read back as this tree and the trees of the further ones
pub trees_back : (tree : Tree) (ls : List TreeLine) → trees_of (lines_of_tree tree ++ ls) ≡ tree ∷ trees_of ls
unfolding trees_of
trees_back (at t xs next) ls = ap (with_line (AtLine t xs)) (trees_back next ls)
trees_back (ask p one other) ls =
    ap (λ l. with_line (AskLine p) (trees_of l)) (append_assoc (lines_of_tree one) (lines_of_tree other) ls)
    ∙ ap (with_line (AskLine p)) (trees_back one (lines_of_tree other ++ ls) ∙ ap (λ trees. one ∷ trees) (trees_back other ls))
trees_back done ls = refl

pub tree_back : (tree : Tree) → the_tree (lines_of_tree tree) ≡ tree
tree_back tree =
    ap (λ l. the_tree l) (sym (append-nil (lines_of_tree tree))) ∙ ap first_or_done (trees_back tree [])

pub whole_back : (ls : List TreeLine) → AreWhole ls → ls ≡ lines_of_tree (the_tree ls)
whole_back ls whole = whole.1 ∙ ap lines_of_tree (sym (ap the_tree whole.1 ∙ tree_back whole.0))

pub all_numbers : (n : ℕ) (xs : List NodeId) → All (λ x. x < n) (node_numbers xs) → All (λ x. x.0 < n) xs
all_numbers n xs all = λ k d inside.
    subst (λ x. x < n) (get_or-map (λ (x : NodeId). x.0) xs k d 0 inside) (all k 0 (subst (λ m. k < m) (sym (length-map xs (λ (x : NodeId). x.0))) inside))

pub numbers_all : (n : ℕ) (xs : List NodeId) → All (λ x. x.0 < n) xs → All (λ x. x < n) (node_numbers xs)
numbers_all n xs all = λ k d inside.
    let within = subst (λ m. k < m) (length-map xs (λ (x : NodeId). x.0)) inside in
    subst (λ x. x < n) (sym (get_or-map (λ (x : NodeId). x.0) xs k (record { 0 = 0 }) d within)) (all k (record { 0 = 0 }) within)

-- ---- trees that are still to come

pub begun_first : IsBegun [] 1
begun_first = record { whole = one }
  where
    one : (trees : List Tree) → length trees ≡ 1 → AreWhole (all_lines trees)
    one [] e = absurd (omega arith)
    one (tree ∷ []) e = (tree, append-nil (lines_of_tree tree))
    one (tree ∷ (other ∷ trees)) e = absurd (omega arith)

pub begun_end : (ls : List TreeLine) → IsBegun ls 0 → AreWhole ls
begun_end ls b = let w = b.whole [] refl in (w.0, sym (append-nil ls) ∙ w.1)

pub more_lines : (ls : List TreeLine) (l : TreeLine) (others : List TreeLine) → (ls ++ l ∷ []) ++ others ≡ ls ++ (l ∷ others)
more_lines ls l others = append_assoc ls (l ∷ []) others

pub begun_next : (ls : List TreeLine) (depth : ℕ) (ahead : List ℕ) (l : TreeLine) → IsBegun ls (length (depth ∷ ahead)) → IsBegun (ls ++ l ∷ []) (length (ahead_after depth ahead l))
begun_next ls depth ahead (AtLine t xs) b = record { whole = go }
  where
    go : (trees : List Tree) → length trees ≡ length (depth ∷ ahead) → AreWhole ((ls ++ AtLine t xs ∷ []) ++ all_lines trees)
    go [] e = absurd (omega arith)
    go (next ∷ trees) e = subst AreWhole (sym (more_lines ls (AtLine t xs) (all_lines (next ∷ trees)))) (b.whole (at t xs next ∷ trees) e)
begun_next ls depth ahead (AskLine p) b = record { whole = go }
  where
    go : (trees : List Tree) → length trees ≡ suc (length (depth ∷ ahead)) → AreWhole ((ls ++ AskLine p ∷ []) ++ all_lines trees)
    go [] e = absurd (omega arith)
    go (one ∷ []) e = absurd (omega arith)
    go (one ∷ (other ∷ trees)) e =
        subst AreWhole (ap (λ l. ls ++ (AskLine p ∷ l)) (append_assoc (lines_of_tree one) (lines_of_tree other) (all_lines trees)) ∙ sym (more_lines ls (AskLine p) (all_lines (one ∷ (other ∷ trees)))))
        (b.whole (ask p one other ∷ trees) (omega arith))
begun_next ls depth ahead DoneLine b = record { whole = go }
  where
    go : (trees : List Tree) → length trees ≡ length ahead → AreWhole ((ls ++ DoneLine ∷ []) ++ all_lines trees)
    go trees e = subst AreWhole (sym (more_lines ls DoneLine (all_lines trees))) (b.whole (done ∷ trees) (omega arith))

pub among_whole : (n : ℕ) (ls : List TreeLine) → AreWhole ls → All (λ l. All (λ x. x < n) (names_on l)) ls → IsAmong n (the_tree ls)
among_whole n ls whole all = subst (λ k. All (λ l. All (λ x. x < n) (names_on l)) k) (whole_back ls whole) all
