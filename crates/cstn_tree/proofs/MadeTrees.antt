-- The tree of a network is good, has each time-point at its least moment, and can be said by a text.
use Rattle.std.proofs.Common.{ℕ, zero, suc, ◌≡◌, inl, inr, ◌+◌, ◌<◌, ◌≤◌, Bool, true, false, List, [], ◌∷◌, ◌++◌, Option, Some, None, length, arith, refl, sym, subst, ap, ◌∙◌}
use Rattle.std.specs.Prelude.{is_some, slice_index_or, slice_set, if◌then◌else◌}
use Rattle.std.specs.List.{All, Contains}
use Rattle.std.proofs.lemmas.Bool.{cases_Bool, cond-true}
use Rattle.std.proofs.lemmas.List.Elements.{All-nil, All-cons, All-append, All-weaker, All-contains_itself}
use Rattle.cstn_facts.proofs.Ranges.{all_pass}
use Rattle.cstn_label.specs.Labels.{Scenario}
use Rattle.cstn_label.specs.Bounds.{Bound}
use Rattle.cstn_net.specs.Limits.{most_load}
use Rattle.cstn_net.specs.Networks.{Network, IsWellFormed, count}
use Rattle.cstn_net.specs.Strategies.{Table, IsLeast}
use Rattle.cstn_plan.specs.Plans.{IsEarliest}
use Rattle.cstn_exec.specs.Runs.{Run, start_of_run, is_free, called, due}
use Rattle.cstn_exec.specs.Moves.{Awaiting, moment_refusal, run_moved, handed, executed}
use Rattle.cstn_exec.proofs.Naming.{from_passing}
use Rattle.cstn_exec.proofs.Moving.{free_parts}
use Rattle.cstn_exec.proofs.Dues.{done_from, due_is_due, due_none}
use Rattle.cstn_outline.specs.Trees.{Tree, TreeLine, IsAmong, lines_of_tree, names_on, moment_or_zero, table_of}
use Rattle.cstn_outline.specs.Trees.Tree.{done}
use Rattle.cstn_outline.specs.Trees.TreeLine.{AtLine, AskLine, DoneLine}
use Rattle.cstn_tree.specs.Good.{Branch, branch_begun as first_branch, below_at, below_ask, fits_at, fits_ask, is_complete, or_else, first_broken_from, IsUnbroken}
use Rattle.cstn_tree.specs.Made.{IsTreeFrom, IsTreeOf}
use Rattle.cstn_tree.specs.Made.IsTreeFrom.{ends, asks, names}
use Rattle.cstn_outline.specs.Written.{NamesSome, depth, TreeFitsText, IsPrintableLine, IsTreeWritten}
use Rattle.cstn_tree.proofs.Strategies.{AreOf, asked_of}
use Rattle.cstn_tree.proofs.Ways.{full, placed_full, full_at, full_true, full_false}
use Rattle.cstn_tree.proofs.Following.{Follows, follows_start, placed_is, follows_at, named_unplaced, some_named, at_fits, ask_fits, missing, letter, follows_ask}

-- the time-points of the line are below n
abbrev NamesBelow : ℕ → TreeLine → Type 0
NamesBelow n l = All (λ x. x < n) (names_on l)

-- ---- how many values are missing

-- how many of the options have no value
abbrev pub left : {X : Type 0} → List (Option X) → ℕ
left [] = 0
left (None ∷ os) = suc (left os)
left (Some x ∷ os) = left os

pub left_upto : {X : Type 0} (os : List (Option X)) → left os ≤ length os
left_upto [] = omega arith
left_upto (None ∷ os) = let more = left_upto os in omega arith
left_upto (Some x ∷ os) = let more = left_upto os in omega arith

-- a value that is put in leaves no more options without one
left_fewer : {X : Type 0} (os : List (Option X)) (k : ℕ) (x : X) → left (slice_set os k (Some x)) ≤ left os
left_fewer [] k x = omega arith
left_fewer (None ∷ os) zero x = omega arith
left_fewer (Some y ∷ os) zero x = omega arith
left_fewer (None ∷ os) (suc k) x = let more = left_fewer os k x in omega arith
left_fewer (Some y ∷ os) (suc k) x = let more = left_fewer os k x in omega arith

pub left_less : {X : Type 0} (os : List (Option X)) (k : ℕ) (x : X) → k < length os → slice_index_or os k None ≡ None → left (slice_set os k (Some x)) + 1 ≡ left os
left_less [] k x inside e = absurd (omega arith)
left_less (None ∷ os) zero x inside e = omega arith
left_less (Some y ∷ os) zero x inside e = let f : ⊥ = cc in absurd f
left_less (None ∷ os) (suc k) x inside e = let more = left_less os k x (omega arith) e in omega arith
left_less (Some y ∷ os) (suc k) x inside e = let more = left_less os k x (omega arith) e in omega arith

executed_fewer : (t : ℕ) (xs : List ℕ) (ms : List (Option ℕ)) → left (executed t xs ms) ≤ left ms
executed_fewer t [] ms = omega arith
executed_fewer t (x ∷ xs) ms =
    let one = left_fewer ms x t in
    let more = executed_fewer t xs (slice_set ms x (Some t)) in
    omega arith

executed_less : (t : ℕ) (xs : List ℕ) (ms : List (Option ℕ)) → 1 ≤ length xs →
    ((x : ℕ) → Contains xs x → (x < length ms) × (slice_index_or ms x None ≡ None)) → left (executed t xs ms) + 1 ≤ left ms
executed_less t [] ms some free = absurd (omega arith)
executed_less t (x ∷ xs) ms some free =
    let first = free x (0, omega arith, refl) in
    let one = left_less ms x t first.0 first.1 in
    let more = executed_fewer t xs (slice_set ms x (Some t)) in
    omega arith

-- ---- no line breaks

holds_if : (test : Bool) (rest : Option ℕ) (line : ℕ) → test ≡ true → rest ≡ None → (if test then rest else Some line) ≡ None
holds_if test rest line h none = cond-true test rest (Some line) h ∙ none

neither_breaks : (one other : Option ℕ) → one ≡ None → other ≡ None → or_else one other ≡ None
neither_breaks one other first second = ap (λ o. or_else o other) first ∙ second

module _ (net : Network) (bounds : List Bound) (table : Table) (wf : IsWellFormed net) (plan : IsEarliest net bounds table) where
  all_done : (run : Run) (b : Branch) → Follows net bounds run b → due net bounds run ≡ None → (x : ℕ) → x < count net → (m : ℕ) × (b.placed x ≡ Some m)
  all_done run b f none x here =
      let all = done_from net run f.right.moments (due_none net bounds table wf plan run f.right none) x here in
      (all.0, f.placed x ∙ all.1)

  good_from : (run : Run) (tree : Tree) → IsTreeFrom net bounds run tree → (b : Branch) → Follows net bounds run b → (line : ℕ) → first_broken_from net b tree line ≡ None
  good_from run tree (ends r none) b f line =
      holds_if (is_complete net b) None line
      (all_pass (λ x. is_some (b.placed x)) 0 (count net) (λ x from upto. ap is_some (all_done r b f none x (omega arith)).1)) refl
  good_from run tree (names r t next is accepted below) b f line =
      holds_if (fits_at net b t (called net bounds r t)) (first_broken_from net (below_at b t (called net bounds r t)) next (line + 1)) line
      (at_fits net bounds table wf plan r b f t is accepted)
      (good_from (run_moved net bounds r t) next below (below_at b t (called net bounds r t)) (follows_at net bounds table wf plan r b f t is accepted) (line + 1))
  good_from run tree (asks r t p one other is waits first second) b f line =
      let here = first_broken_from net (below_ask net b p true) one (line + 1) in
      let there = first_broken_from net (below_ask net b p false) other (line + 1 + length (lines_of_tree one)) in
      holds_if (fits_ask net b p) (or_else here there) line (ask_fits net bounds table wf plan r b f t is p waits)
      (neither_breaks here there
      (good_from (handed r p true) one first (below_ask net b p true) (follows_ask net bounds table wf plan r b f t is p waits true) (line + 1))
      (good_from (handed r p false) other second (below_ask net b p false) (follows_ask net bounds table wf plan r b f t is p waits false) (line + 1 + length (lines_of_tree one))))

  pub made_good : (tree : Tree) → IsTreeOf net bounds tree → IsUnbroken net tree
  made_good tree made = good_from (start_of_run (count net)) tree made first_branch (follows_start net bounds table wf plan) 2

  -- ---- least moments

  least_from : (run : Run) (tree : Tree) → IsTreeFrom net bounds run tree → (b : Branch) → Follows net bounds run b → (s : Scenario) → AreOf s b.asked →
      (x : ℕ) → x < count net → full b tree s x ≡ Some (table s x)
  least_from run tree (ends r none) b f s of x here =
      let there = all_done r b f none x here in
      placed_full b done s x there.0 there.1 ∙ ap (λ m. Some m) (sym (placed_is net bounds table wf plan r b f s of x there.0 there.1))
  least_from run tree (names r t next is accepted below) b f s of x here =
      sym (full_at b t (called net bounds r t) next s x (named_unplaced net bounds table wf plan r b f t is accepted))
      ∙ least_from (run_moved net bounds r t) next below (below_at b t (called net bounds r t)) (follows_at net bounds table wf plan r b f t is accepted) s of x here
  least_from run tree (asks r t p one other is waits first second) b f s of x here = elim (cases_Bool (s p)) [
    | inl value ↦
        sym (full_true net b p one other s x value)
        ∙ least_from (handed r p true) one first (below_ask net b p true) (follows_ask net bounds table wf plan r b f t is p waits true) s (asked_of s b.asked p true value of) x here
    | inr value ↦
        sym (full_false net b p one other s x value)
        ∙ least_from (handed r p false) other second (below_ask net b p false) (follows_ask net bounds table wf plan r b f t is p waits false) s (asked_of s b.asked p false value of) x here
  ]

  pub made_least : (tree : Tree) → IsTreeOf net bounds tree → (s : Scenario) (x : ℕ) → x < count net → IsLeast net s x (table_of tree s x)
  made_least tree made s x here =
      let at = least_from (start_of_run (count net)) tree made first_branch (follows_start net bounds table wf plan) s (λ p v e. let f : ⊥ = cc in absurd f) x here in
      subst (λ m. IsLeast net s x m) (sym (ap moment_or_zero at)) (plan.least s x here)

  -- ---- texts

  some_from : (run : Run) (tree : Tree) → IsTreeFrom net bounds run tree → (b : Branch) → Follows net bounds run b → All NamesSome (lines_of_tree tree)
  some_from run tree (ends r none) b f = All-cons NamesSome DoneLine [] tt (All-nil NamesSome)
  some_from run tree (names r t next is accepted below) b f =
      All-cons NamesSome (AtLine t (called net bounds r t)) (lines_of_tree next) (some_named net bounds table wf plan r b f t is accepted)
      (some_from (run_moved net bounds r t) next below (below_at b t (called net bounds r t)) (follows_at net bounds table wf plan r b f t is accepted))
  some_from run tree (asks r t p one other is waits first second) b f =
      All-cons NamesSome (AskLine p) (lines_of_tree one ++ lines_of_tree other) tt
      (All-append NamesSome (lines_of_tree one) (lines_of_tree other)
      (some_from (handed r p true) one first (below_ask net b p true) (follows_ask net bounds table wf plan r b f t is p waits true))
      (some_from (handed r p false) other second (below_ask net b p false) (follows_ask net bounds table wf plan r b f t is p waits false)))

  -- a moment leaves fewer time-points that aren't executed, and an outcome fewer outcomes that weren't seen
  pub moved_fewer : (run : Run) (b : Branch) → Follows net bounds run b → (t : ℕ) → due net bounds run ≡ Some t → moment_refusal net bounds run t ≡ None → left (run_moved net bounds run t).moments + 1 ≤ left run.moments
  moved_fewer run b f t is accepted = executed_less t (called net bounds run t) run.moments (some_named net bounds table wf plan run b f t is accepted) (λ x has.
      let in_range = from_passing (is_free net bounds run t) 0 (count net) x has in
      let upto = in_range.1 in
      let size = f.right.moments in
      (omega arith, (free_parts net bounds run t x in_range.2).0))

  pub handed_fewer : (run : Run) (b : Branch) → Follows net bounds run b → (t : ℕ) → due net bounds run ≡ Some t → (p : ℕ) → moment_refusal net bounds run t ≡ Some (Awaiting p) → (v : Bool) → left (handed run p v).outcomes + 1 ≡ left run.outcomes
  handed_fewer run b f t is p waits v =
      let size = f.right.outcomes in
      let known = letter net bounds table wf plan run b f t is p waits in
      left_less run.outcomes p v (omega arith) (missing net bounds table wf plan run b f t is p waits)

  -- each line of a branch executes a time-point or hands in an outcome, but for the last one
  short_from : (run : Run) (tree : Tree) → IsTreeFrom net bounds run tree → (b : Branch) → Follows net bounds run b → depth tree ≤ left run.moments + left run.outcomes + 1
  short_from run tree (ends r none) b f = omega arith
  short_from run tree (names r t next is accepted below) b f =
      let more = short_from (run_moved net bounds r t) next below (below_at b t (called net bounds r t)) (follows_at net bounds table wf plan r b f t is accepted) in
      let fewer = moved_fewer r b f t is accepted in
      omega arith
  short_from run tree (asks r t p one other is waits first second) b f =
      let here = short_from (handed r p true) one first (below_ask net b p true) (follows_ask net bounds table wf plan r b f t is p waits true) in
      let there = short_from (handed r p false) other second (below_ask net b p false) (follows_ask net bounds table wf plan r b f t is p waits false) in
      let one_less = handed_fewer r b f t is p waits true in
      let other_less = handed_fewer r b f t is p waits false in
      omega arith

  pub made_fits : (tree : Tree) → IsTreeOf net bounds tree → TreeFitsText tree
  made_fits tree made =
      let first = follows_start net bounds table wf plan in
      let short = short_from (start_of_run (count net)) tree made first_branch first in
      let moments = left_upto (start_of_run (count net)).moments in
      let outcomes = left_upto (start_of_run (count net)).outcomes in
      let size = first.right.moments in
      let letters = first.right.outcomes in
      let few = wf.few_points in
      record {
        named = some_from (start_of_run (count net)) tree made first_branch first;
        short = omega arith;
      }

  -- each line can be said
  printable_from : (texts : List (List ℕ)) → length texts ≡ count net → (run : Run) (tree : Tree) → IsTreeFrom net bounds run tree → (b : Branch) → Follows net bounds run b → All (IsPrintableLine texts) (lines_of_tree tree)
  printable_from texts named run tree (ends r none) b f = All-cons (IsPrintableLine texts) DoneLine [] tt (All-nil (IsPrintableLine texts))
  printable_from texts named run tree (names r t next is accepted below) b f =
      let soon = (due_is_due net bounds table wf plan r f.right t is).1 in
      let in_time = wf.in_time in
      All-cons (IsPrintableLine texts) (AtLine t (called net bounds r t)) (lines_of_tree next) (
        omega (arith, soon, in_time),
        All-weaker (Contains (called net bounds r t)) (λ x. x < length texts)
            (λ x has. let upto = (from_passing (is_free net bounds r t) 0 (count net) x has).1 in omega (arith, upto, named)) (called net bounds r t) (All-contains_itself (called net bounds r t)),
      )
      (printable_from texts named (run_moved net bounds r t) next below (below_at b t (called net bounds r t)) (follows_at net bounds table wf plan r b f t is accepted))
  printable_from texts named run tree (asks r t p one other is waits first second) b f =
      All-cons (IsPrintableLine texts) (AskLine p) (lines_of_tree one ++ lines_of_tree other) (letter net bounds table wf plan r b f t is p waits)
      (All-append (IsPrintableLine texts) (lines_of_tree one) (lines_of_tree other)
      (printable_from texts named (handed r p true) one first (below_ask net b p true) (follows_ask net bounds table wf plan r b f t is p waits true))
      (printable_from texts named (handed r p false) other second (below_ask net b p false) (follows_ask net bounds table wf plan r b f t is p waits false)))

  pub made_written : (texts : List (List ℕ)) (load : ℕ) → length texts ≡ count net → 1 ≤ load → load ≤ most_load → (tree : Tree) → IsTreeOf net bounds tree → IsTreeWritten texts load tree
  made_written texts load named low high tree made = record {
    load_low = low;
    load_high = high;
    fits = made_fits tree made;
    each = printable_from texts named (start_of_run (count net)) tree made first_branch (follows_start net bounds table wf plan);
  }

-- ---- time-points

module _ (net : Network) (bounds : List Bound) where
  among_from : (run : Run) (tree : Tree) → IsTreeFrom net bounds run tree → IsAmong (count net) tree
  among_from run tree (ends r none) = All-cons (NamesBelow (count net)) DoneLine [] (All-nil (λ x. x < count net)) (All-nil (NamesBelow (count net)))
  among_from run tree (names r t next is accepted below) =
      All-cons (NamesBelow (count net)) (AtLine t (called net bounds r t)) (lines_of_tree next)
      (All-weaker (Contains (called net bounds r t)) (λ x. x < count net)
      (λ x has. let upto = (from_passing (is_free net bounds r t) 0 (count net) x has).1 in omega arith) (called net bounds r t) (All-contains_itself (called net bounds r t)))
      (among_from (run_moved net bounds r t) next below)
  among_from run tree (asks r t p one other is waits first second) =
      All-cons (NamesBelow (count net)) (AskLine p) (lines_of_tree one ++ lines_of_tree other) (All-nil (λ x. x < count net))
      (All-append (NamesBelow (count net)) (lines_of_tree one) (lines_of_tree other) (among_from (handed r p true) one first) (among_from (handed r p false) other second))

  pub made_among : (tree : Tree) → IsTreeOf net bounds tree → IsAmong (count net) tree
  made_among tree made = among_from (start_of_run (count net)) tree made
