-- A network has one tree.
use Rattle.std.proofs.Common.{ℕ, zero, suc, ◌≡◌, ◌⊎◌, inl, inr, ◌+◌, ◌<◌, true, false, List, Option, Some, None, arith, refl, sym, subst, ap, ◌∙◌}
use Rattle.std.proofs.lemmas.Option.{same_Some}
use Rattle.cstn_label.specs.Bounds.{Bound}
use Rattle.cstn_net.specs.Networks.{Network, IsWellFormed, count}
use Rattle.cstn_net.specs.Strategies.{Table}
use Rattle.cstn_plan.specs.Plans.{IsEarliest}
use Rattle.cstn_exec.specs.Runs.{Run, start_of_run, called, due}
use Rattle.cstn_exec.specs.Moves.{EventRefusal, Awaiting, moment_refusal, run_moved, handed}
use Rattle.cstn_outline.specs.Trees.{Tree}
use Rattle.cstn_outline.specs.Trees.Tree.{at, ask, done}
use Rattle.cstn_tree.specs.Good.{Branch, branch_begun as first_branch, below_at, below_ask}
use Rattle.cstn_tree.specs.Made.{IsTreeFrom, IsTreeOf}
use Rattle.cstn_tree.specs.Made.IsTreeFrom.{ends, asks, names}
use Rattle.cstn_tree.proofs.Following.{Follows, follows_start, follows_at, follows_ask}
use Rattle.cstn_tree.proofs.MadeTrees.{left, moved_fewer, handed_fewer}

-- ---- at most one

module _ (net : Network) (bounds : List Bound) where
  none_some : {X : Type 0} (o : Option X) (x : X) → o ≡ None → o ≡ Some x → ⊥
  none_some o x none some =
      let e : None ≡ Some x = sym none ∙ some in
      let f : ⊥ = cc in
      f

  same_prop : (o : Option EventRefusal) (p q : ℕ) → o ≡ Some (Awaiting p) → o ≡ Some (Awaiting q) → p ≡ q
  same_prop o p q one two =
      let e : Some (Awaiting p) ≡ Some (Awaiting q) = sym one ∙ two in
      cc

  same_from : (run : Run) (tree again : Tree) → IsTreeFrom net bounds run tree → IsTreeFrom net bounds run again → tree ≡ again
  same_from run tree again (ends r none) (ends q nothing) = refl
  same_from run tree again (ends r none) (asks q t p one two is waits first second) = absurd (none_some (due net bounds r) t none is)
  same_from run tree again (ends r none) (names q t next is accepted below) = absurd (none_some (due net bounds r) t none is)
  same_from run tree again (asks r t p one two is waits first second) (ends q none) = absurd (none_some (due net bounds r) t none is)
  same_from run tree again (asks r t p one two is waits first second) (asks q u o three four also wait third fourth) =
      let time : t ≡ u = same_Some t u (sym is ∙ also) in
      let same : p ≡ o = same_prop (moment_refusal net bounds r t) p o waits (subst (λ (v : ℕ). moment_refusal net bounds r v ≡ Some (Awaiting o)) (sym time) wait) in
      let left : one ≡ three = same_from (handed r p true) one three first (subst (λ (v : ℕ). IsTreeFrom net bounds (handed r v true) three) (sym same) third) in
      let right : two ≡ four = same_from (handed r p false) two four second (subst (λ (v : ℕ). IsTreeFrom net bounds (handed r v false) four) (sym same) fourth) in
      ap (λ (v : ℕ). ask v one two) same ∙ ap (λ (x : Tree). ask o x two) left ∙ ap (ask o three) right
  same_from run tree again (asks r t p one two is waits first second) (names q u after also accepted deeper) =
      let time : t ≡ u = same_Some t u (sym is ∙ also) in
      absurd (none_some (moment_refusal net bounds r t) (Awaiting p) (subst (λ (v : ℕ). moment_refusal net bounds r v ≡ None) (sym time) accepted) waits)
  same_from run tree again (names r t next is accepted below) (ends q none) = absurd (none_some (due net bounds r) t none is)
  same_from run tree again (names r t next is accepted below) (asks q u p one two also waits first second) =
      let time : t ≡ u = same_Some t u (sym is ∙ also) in
      absurd (none_some (moment_refusal net bounds r t) (Awaiting p) accepted (subst (λ (v : ℕ). moment_refusal net bounds r v ≡ Some (Awaiting p)) (sym time) waits))
  same_from run tree again (names r t next is accepted below) (names q u after also free deeper) =
      let time : t ≡ u = same_Some t u (sym is ∙ also) in
      let same : next ≡ after = same_from (run_moved net bounds r t) next after below (subst (λ (v : ℕ). IsTreeFrom net bounds (run_moved net bounds r v) after) (sym time) deeper) in
      ap (at t (called net bounds r t)) same ∙ ap (λ (v : ℕ). at v (called net bounds r v) after) time

  pub one_tree : (tree again : Tree) → IsTreeOf net bounds tree → IsTreeOf net bounds again → tree ≡ again
  one_tree = same_from (start_of_run (count net))

-- ---- at least one

abbrev pub Waits : Network → List Bound → Type 0
Waits net bounds = (run : Run) (t : ℕ) → due net bounds run ≡ Some t → (moment_refusal net bounds run t ≡ None) ⊎ ((p : ℕ) × (moment_refusal net bounds run t ≡ Some (Awaiting p)))

module _ (net : Network) (bounds : List Bound) (table : Table) (waits : Waits net bounds) (wf : IsWellFormed net) (plan : IsEarliest net bounds table) where
  -- there is a tree from a run, where there is one from each run in which less is left to be executed and seen
  tree_step : (run : Run) (b : Branch) → Follows net bounds run b →
      ((later : Run) (c : Branch) → Follows net bounds later c → left later.moments + left later.outcomes < left run.moments + left run.outcomes → (tree : Tree) × IsTreeFrom net bounds later tree) →
      (tree : Tree) × IsTreeFrom net bounds run tree
  tree_step run b f deeper = by_due (due net bounds run) refl
    where
      by_refusal : (t : ℕ) → due net bounds run ≡ Some t → (moment_refusal net bounds run t ≡ None) ⊎ ((p : ℕ) × (moment_refusal net bounds run t ≡ Some (Awaiting p))) → (tree : Tree) × IsTreeFrom net bounds run tree
      by_refusal t is (inl accepted) =
          let fewer = moved_fewer net bounds table wf plan run b f t is accepted in
          let next = deeper (run_moved net bounds run t) (below_at b t (called net bounds run t)) (follows_at net bounds table wf plan run b f t is accepted) (omega (arith, fewer)) in
          (at t (called net bounds run t) next.0, names run t next.0 is accepted next.1)
      by_refusal t is (inr (p, asked)) =
          let one_less = handed_fewer net bounds table wf plan run b f t is p asked true in
          let other_less = handed_fewer net bounds table wf plan run b f t is p asked false in
          let one = deeper (handed run p true) (below_ask net b p true) (follows_ask net bounds table wf plan run b f t is p asked true) (omega (arith, one_less)) in
          let other = deeper (handed run p false) (below_ask net b p false) (follows_ask net bounds table wf plan run b f t is p asked false) (omega (arith, other_less)) in
          (ask p one.0 other.0, asks run t p one.0 other.0 is asked one.1 other.1)

      by_due : (o : Option ℕ) → due net bounds run ≡ o → (tree : Tree) × IsTreeFrom net bounds run tree
      by_due None is = (done, ends run is)
      by_due (Some t) is = by_refusal t is (waits run t is)

  tree_from : (most : ℕ) (run : Run) (b : Branch) → Follows net bounds run b → left run.moments + left run.outcomes < most → (tree : Tree) × IsTreeFrom net bounds run tree
  tree_from zero run b f below = absurd (omega (arith, below))
  tree_from (suc most) run b f below = tree_step run b f (λ later c g fewer. tree_from most later c g (omega (arith, fewer, below)))

  pub some_tree : (tree : Tree) × IsTreeOf net bounds tree
  some_tree =
      let first = start_of_run (count net) in
      tree_from (left first.moments + left first.outcomes + 1) first first_branch (follows_start net bounds table wf plan) (omega arith)
