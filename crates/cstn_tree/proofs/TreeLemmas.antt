-- The walk along the lines of a tree.
use Rattle.std.proofs.Common.{ℕ, suc, ◌+◌, ◌<◌, Bool, true, false, Option, Some, None, length, length-append, arith, subst, ◌≡◌, List, [], ◌∷◌, ◌++◌, refl, sym, ap, ◌∙◌, append_assoc}
use Rattle.std.specs.Prelude.{if◌then◌else◌}
use Rattle.std.specs.List.{All}
use Rattle.std.proofs.lemmas.List.{append-nil, get_or-map, length-map}
use Rattle.cstn_label.specs.declared.nodes.NodeId.{NodeId}
use Rattle.cstn_net.specs.Networks.{Network}
use Rattle.cstn_tree.specs.Good.{Branch, branch_begun, fits_at, fits_ask, is_complete, below_at, below_ask, or_else, first_broken_from, first_broken}
use Rattle.cstn_tree.specs.Walks.{first_broken_in}
use Rattle.cstn_outline.specs.Read.{node_numbers}
use Rattle.cstn_outline.specs.Texts.{ahead_after}
use Rattle.cstn_outline.specs.Whole.{all_lines, IsBegun}
use Rattle.cstn_outline.specs.Trees.{Tree, TreeLine, IsAmong, lines_of_tree, names_on}
use Rattle.cstn_outline.specs.Trees.Tree.{at, ask, done}
use Rattle.cstn_outline.specs.Trees.TreeLine.{AtLine, AskLine, DoneLine}
use Rattle.cstn_outline.specs.Read.{trees_of, with_line, the_tree, first_or_done, AreWhole}

-- where no branch is left, no line is found to break
pub none_left : (net : Network) (ls : List TreeLine) (k : ℕ) → first_broken_in net [] ls k ≡ None
none_left net [] k = refl
none_left net (l ∷ ls) k = refl

abbrev or_nothing : (o : Option ℕ) (net : Network) (branches : List Branch) (ls : List TreeLine) (k : ℕ) → Option ℕ
or_nothing None net branches ls k = first_broken_in net branches ls k
or_nothing (Some line) net branches ls k = Some line

if_or : (test : Bool) (one : Option ℕ) (line : ℕ) (net : Network) (branches : List Branch) (ls : List TreeLine) (k : ℕ) →
    (if test then or_nothing one net branches ls k else Some line) ≡ or_nothing (if test then one else Some line) net branches ls k
if_or true one line net branches ls k = refl
if_or false one line net branches ls k = refl

or_again : (one other : Option ℕ) (net : Network) (branches : List Branch) (ls : List TreeLine) (k : ℕ) →
    (or_else one (or_nothing other net branches ls k)) ≡ or_nothing (or_else one other) net branches ls k
or_again None other net branches ls k = refl
or_again (Some line) other net branches ls k = refl

or_is : (one : Option ℕ) (net : Network) (branches : List Branch) (ls : List TreeLine) (k : ℕ) →
    or_nothing one net branches ls k ≡ or_else one (first_broken_in net branches ls k)
or_is None net branches ls k = refl
or_is (Some line) net branches ls k = refl

-- a walk along the lines of a tree finds the first of them that breaks, or goes on along the further lines
walk_tree : (net : Network) (b : Branch) (branches : List Branch) (tree : Tree) (ls : List TreeLine) (line : ℕ) →
    first_broken_in net (b ∷ branches) (lines_of_tree tree ++ ls) line
    ≡ or_nothing (first_broken_from net b tree line) net branches ls (line + length (lines_of_tree tree))
walk_tree net b branches (at t xs next) ls line =
    let size : (line + 1) + length (lines_of_tree next) ≡ line + suc (length (lines_of_tree next)) = omega arith in
    ap (λ o. if fits_at net b t xs then o else Some line)
    (walk_tree net (below_at b t xs) branches next ls (line + 1)
    ∙ ap (or_nothing (first_broken_from net (below_at b t xs) next (line + 1)) net branches ls) size)
    ∙ if_or (fits_at net b t xs) (first_broken_from net (below_at b t xs) next (line + 1)) line net branches ls (line + suc (length (lines_of_tree next)))
walk_tree net b branches (ask p one other) ls line =
    let left = below_ask net b p true in
    let right = below_ask net b p false in
    let size : ((line + 1) + length (lines_of_tree one)) + length (lines_of_tree other) ≡ line + suc (length (lines_of_tree one ++ lines_of_tree other)) = let both = length-append (lines_of_tree one) (lines_of_tree other) in omega arith in
    let next = line + suc (length (lines_of_tree one ++ lines_of_tree other)) in
    let first = first_broken_from net left one (line + 1) in
    let second = first_broken_from net right other ((line + 1) + length (lines_of_tree one)) in
    let way = ap (λ l. first_broken_in net (left ∷ (right ∷ branches)) l (line + 1)) (append_assoc (lines_of_tree one) (lines_of_tree other) ls)
    ∙ walk_tree net left (right ∷ branches) one (lines_of_tree other ++ ls) (line + 1)
    ∙ or_is first net (right ∷ branches) (lines_of_tree other ++ ls) ((line + 1) + length (lines_of_tree one))
    ∙ ap (or_else first) (walk_tree net right branches other ls ((line + 1) + length (lines_of_tree one)) ∙ ap (or_nothing second net branches ls) size)
    ∙ or_again first second net branches ls next in
    ap (λ o. if fits_ask net b p then o else Some line) way
    ∙ if_or (fits_ask net b p) (or_else first second) line net branches ls next
walk_tree net b branches done ls line = if_or (is_complete net b) None line net branches ls (line + 1)

-- the walk along the lines of one tree finds the first line that breaks
pub walk_finds : (net : Network) (tree : Tree) → first_broken_in net (branch_begun ∷ []) (lines_of_tree tree) 2 ≡ first_broken net tree
walk_finds net tree =
    ap (λ l. first_broken_in net (branch_begun ∷ []) l 2) (sym (append-nil (lines_of_tree tree)))
    ∙ walk_tree net branch_begun [] tree [] 2 ∙ nothing (first_broken net tree)
  where
    nothing : (o : Option ℕ) → or_nothing o net [] [] (2 + length (lines_of_tree tree)) ≡ o
    nothing None = refl
    nothing (Some line) = refl
