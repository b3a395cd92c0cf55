-- The tree of a network is the same whatever plan it is made by.
use Rattle.std.proofs.Common.{ℕ, ◌≡◌, inl, inr, ◌+◌, ◌<◌, true, false, List, Option, Some, None, arith, refl, sym, subst, ap, ◌∙◌}
use Rattle.std.specs.Prelude.{if◌then◌else◌}
use Rattle.std.proofs.lemmas.Bool.{cases_lt}
use Rattle.cstn_facts.proofs.Ranges.{passing_same}
use Rattle.cstn_facts.proofs.Booleans.{same_truth}
use Rattle.cstn_label.specs.Bounds.{Bound}
use Rattle.cstn_net.specs.Networks.{Network, IsWellFormed, count}
use Rattle.cstn_net.specs.Strategies.{Table, IsConsistent}
use Rattle.cstn_plan.specs.Asked.{asked}
use Rattle.cstn_plan.specs.Plans.{IsEarliest}
use Rattle.cstn_plan.proofs.PlanLemmas.{asked_earliest}
use Rattle.cstn_check.specs.Growth.{log_of, live_bounds}
use Rattle.cstn_check.proofs.Decides.{log_decides, log_closed, log_sound}
use Rattle.cstn_exec.specs.Runs.{Run, start_of_run, called, due, is_run_done, is_free, awaited}
use Rattle.cstn_exec.specs.Moves.{Done, moment_refusal, unless_past, unless_awaiting, unless_late, run_moved, handed, executed}
use Rattle.cstn_exec.specs.Right.{IsRightRun, IsDue}
use Rattle.cstn_exec.proofs.Dues.{due_is_due, due_none, done_none}
use Rattle.cstn_exec.proofs.Naming.{from_passing, in_passing}
use Rattle.cstn_exec.proofs.Refusals.{called_exactly}
use Rattle.cstn_outline.specs.Trees.{Tree}
use Rattle.cstn_outline.specs.Trees.Tree.{at}
use Rattle.cstn_tree.specs.Good.{Branch, branch_begun as first_branch, below_at, below_ask}
use Rattle.cstn_tree.specs.Made.{IsTreeFrom, IsTreeOf, IsTheTree}
use Rattle.cstn_tree.specs.Made.IsTreeFrom.{ends, asks, names}
use Rattle.cstn_tree.proofs.Following.{Follows, follows_start, follows_at, follows_ask}
use Rattle.cstn_tree.proofs.OneTree.{Waits, one_tree, some_tree}

-- a run has one due moment
one_due : (net : Network) (run : Run) (t u : ℕ) → IsDue net run t → IsDue net run u → t ≡ u
one_due net run t u one two = elim (cases_lt t u) [
  | inl before ↦ absurd (two.first t one.from before one.work)
  | inr upto ↦ elim (cases_lt u t) [
    | inl after ↦ absurd (one.first u two.from after two.work)
    | inr from ↦ omega arith
  ]
]

-- a time-point that is called by one plan is called by the other
free_by : (net : Network) (bounds others : List Bound) (table other : Table) (run : Run) (t : ℕ) → IsWellFormed net → IsEarliest net bounds table → IsEarliest net others other →
    IsRightRun net run → moment_refusal net bounds run t ≡ None → moment_refusal net others run t ≡ None →
    (x : ℕ) → x < 0 + count net → is_free net bounds run t x ≡ true → is_free net others run t x ≡ true
free_by net bounds others table other run t wf plan again right accepted accepts x here free =
    let has = in_passing (is_free net bounds run t) 0 (count net) x (omega arith) here free in
    let is = (called_exactly net bounds table run t wf plan right accepted x).0 has in
    (from_passing (is_free net others run t) 0 (count net) x ((called_exactly net others other run t wf again right accepts x).1 is)).2

module _ (net : Network) (bounds others : List Bound) (table other : Table) (wf : IsWellFormed net) (plan : IsEarliest net bounds table) (again : IsEarliest net others other) where
  same_due : (run : Run) → IsRightRun net run → due net bounds run ≡ due net others run
  same_due run right = go (due net bounds run) (due net others run) refl refl
    where
      go : (o q : Option ℕ) → due net bounds run ≡ o → due net others run ≡ q → o ≡ q
      go None q one two = sym (done_none net others other wf again run right (due_none net bounds table wf plan run right one)) ∙ two
      go (Some t) None one two = sym one ∙ done_none net bounds table wf plan run right (due_none net others other wf again run right two)
      go (Some t) (Some u) one two =
          ap Some (one_due net run t u (due_is_due net bounds table wf plan run right t one).0 (due_is_due net others other wf again run right u two).0)

  same_refusal : (run : Run) (t : ℕ) → IsRightRun net run → moment_refusal net bounds run t ≡ moment_refusal net others run t
  same_refusal run t right =
      ap (λ (d : Option ℕ). if is_run_done run then Some Done else unless_past t run.now (unless_awaiting (awaited net run (t + 1)) (unless_late t d))) (same_due run right)

  same_called : (run : Run) (t : ℕ) → IsRightRun net run → moment_refusal net bounds run t ≡ None → moment_refusal net others run t ≡ None → called net bounds run t ≡ called net others run t
  same_called run t right accepted accepts =
      passing_same (is_free net bounds run t) (is_free net others run t) 0 (count net)
      (λ x from upto. same_truth (is_free net bounds run t x) (is_free net others run t x)
      (free_by net bounds others table other run t wf plan again right accepted accepts x upto)
      (free_by net others bounds other table run t wf again plan right accepts accepted x upto))

  -- what is a tree from a run by one plan is one by the other
  same_from : (run : Run) (tree : Tree) → IsTreeFrom net bounds run tree → (b : Branch) → Follows net bounds run b → IsTreeFrom net others run tree
  same_from run tree (ends r none) b f = ends r (sym (same_due r f.right) ∙ none)
  same_from run tree (asks r t p one two is waits first second) b f =
      asks r t p one two (sym (same_due r f.right) ∙ is) (sym (same_refusal r t f.right) ∙ waits)
      (same_from (handed r p true) one first (below_ask net b p true) (follows_ask net bounds table wf plan r b f t is p waits true))
      (same_from (handed r p false) two second (below_ask net b p false) (follows_ask net bounds table wf plan r b f t is p waits false))
  same_from run tree (names r t next is accepted below) b f =
      let accepts = sym (same_refusal r t f.right) ∙ accepted in
      let same = same_called r t f.right accepted accepts in
      let after : List ℕ → Run = λ xs. record { now = Some t; moments = executed t xs r.moments; outcomes = r.outcomes } in
      let later = same_from (run_moved net bounds r t) next below (below_at b t (called net bounds r t)) (follows_at net bounds table wf plan r b f t is accepted) in
      subst (λ (xs : List ℕ). IsTreeFrom net others r (at t xs next)) (sym same)
      (names r t next (sym (same_due r f.right) ∙ is) accepts (subst (λ (m : Run). IsTreeFrom net others m next) (ap after same) later))

  pub same_tree : (tree other_tree : Tree) → IsTreeOf net bounds tree → IsTreeOf net others other_tree → tree ≡ other_tree
  same_tree tree other_tree one two =
      one_tree net others tree other_tree (same_from (start_of_run (count net)) tree one first_branch (follows_start net bounds table wf plan)) two

-- the tree of a network is one
pub the_tree_is_one : (net : Network) (tree other : Tree) → IsWellFormed net → IsTheTree net tree → IsTheTree net other → tree ≡ other
the_tree_is_one net tree other wf one two = same_tree net one.bounds two.bounds one.table two.table wf one.earliest two.earliest tree other one.made two.made

-- a consistent network has a tree: that by the bounds of its log
pub consistent_tree : ((net : Network) (bounds : List Bound) → Waits net bounds) → (net : Network) → IsWellFormed net → IsConsistent net → (tree : Tree) × IsTheTree net tree
consistent_tree waits net wf consistent =
    let bounds = live_bounds (log_of net) in
    let closed = log_closed net wf.network wf.letters ((log_decides net wf.network wf.letters).0 consistent) in
    let plan = asked_earliest net bounds wf.network closed (log_sound net wf.network wf.letters) in
    let made = some_tree net bounds (asked net bounds) (waits net bounds) wf plan in
    (made.0, record { bounds = bounds; table = asked net bounds; earliest = plan; made = made.1 })

-- and a network that has a tree is consistent
pub tree_consistent : (net : Network) (tree : Tree) → IsTheTree net tree → IsConsistent net
tree_consistent net tree is = (is.table, is.earliest.strategy)
