-- How long the text of the tree of a network is at most.
use Rattle.std.proofs.Common.{ℕ, zero, suc, ◌≡◌, inl, inr, ◌+◌, ◌*◌, ◌<◌, ◌≤◌, ◌^◌, Bool, true, false, cond, List, [], ◌∷◌, ◌++◌, Option, Some, None, length, get_or, arith, refl, sym, subst, ap, ◌∙◌, length-append, get_or-set_other, get_or-set_same}
use Rattle.std.specs.Prelude.{codes, flat_map, is_none, is_some, slice_index_or, slice_set}
use Rattle.std.specs.List.{All, count_by}
use Rattle.std.proofs.lemmas.Bool.{cases_Bool, cases_eq, cases_lt, cond-true, cond-false}
use Rattle.std.proofs.lemmas.Fmt.{length-decimal-le}
use Rattle.std.proofs.lemmas.List.{get_or_default, length-set}
use Rattle.std.proofs.lemmas.List.Elements.{All-head, All-tail}
use Rattle.std.proofs.lemmas.List.Sums.{sum_by-cons}
use Rattle.cstn_label.specs.Bounds.{Bound}
use Rattle.cstn_net.specs.Limits.{most_time_points, most_load}
use Rattle.cstn_net.specs.Networks.{Network, IsWellFormed, count}
use Rattle.cstn_net.specs.Strategies.{Table}
use Rattle.cstn_text.specs.Limits.{most_text}
use Rattle.cstn_plan.specs.Plans.{IsEarliest}
use Rattle.cstn_text.specs.Names.{AreNames}
use Rattle.cstn_text.specs.Numbers.{printed_number}
use Rattle.cstn_text.specs.PrintedNames.{printed_name}
use Rattle.cstn_text.proofs.PrintedNameLemmas.{name_length}
use Rattle.cstn_exec.specs.Runs.{Run, start_of_run, is_free, called}
use Rattle.cstn_exec.specs.Moves.{run_moved, handed, executed}
use Rattle.cstn_exec.proofs.Dues.{due_is_due}
use Rattle.cstn_exec.proofs.Moving.{free_parts}
use Rattle.cstn_exec.proofs.Naming.{passing, passing_yes, passing_no, from_passing}
use Rattle.cstn_tree.specs.Limits.{most_observed}
use Rattle.cstn_outline.specs.Trees.{Tree, TreeLine, lines_of_tree}
use Rattle.cstn_outline.specs.Trees.TreeLine.{AtLine, AskLine, DoneLine}
use Rattle.cstn_outline.specs.Texts.{printed_line, printed_lines, tree_shown}
use Rattle.cstn_tree.specs.Unfolded.{how_many_observed}
use Rattle.cstn_tree.specs.Good.{Branch, branch_begun as first_branch, below_at, below_ask}
use Rattle.cstn_tree.specs.Made.{IsTreeFrom, IsTreeOf}
use Rattle.cstn_tree.specs.Made.IsTreeFrom.{ends, asks, names}
use Rattle.cstn_tree.proofs.Following.{Follows, follows_start, follows_at, follows_ask, some_named, missing, letter, ready}
use Rattle.cstn_tree.proofs.MadeTrees.{left, left_less, left_upto}

-- ---- how long a tree's lines are at most

-- the bytes of a tree where so many propositions may be asked and so many time-points be named on a branch
most : ℕ → ℕ → ℕ
most zero n = 207 * n + 5
most (suc a) n = 6 + (most a n + most a n)

-- a line that names time-points, and what comes after it
most_named : (a n m k : ℕ) → m + k ≤ n → 207 * k + most a m ≤ most a n
unfolding most
most_named zero n m k fewer = omega arith
most_named (suc a) n m k fewer = let more = most_named a n m k fewer in omega arith

most_some : (a n : ℕ) → 5 ≤ most a n
unfolding most
most_some zero n = omega arith
most_some (suc a) n = let more = most_some a n in omega arith

most_grows : (a b n : ℕ) → a ≤ b → most a n ≤ most b n
unfolding most
most_grows a zero n upto = let same : a ≡ 0 = omega arith in subst (λ (k : ℕ). most k n ≤ most 0 n) (sym same) (omega arith)
most_grows a (suc b) n upto = elim (cases_lt b a) [
  | inl last ↦ let same : a ≡ suc b = omega arith in subst (λ (k : ℕ). most k n ≤ most (suc b) n) (sym same) (omega arith)
  | inr before ↦ let more = most_grows a b n before in omega arith
]

most_ten : most most_observed most_time_points ≤ 217066490
unfolding most
most_ten = omega arith

-- an ask and the two trees below it
halves : (a y n m i j whole : ℕ) → y + 1 ≤ a → n + 1 ≤ a → i ≤ most y m → j ≤ most n m → whole ≡ 6 + i + j → whole ≤ most a m
unfolding most
halves zero y n m i j whole one other first second is = absurd (omega arith)
halves (suc a) y n m i j whole one other first second is =
    let left_half = most_grows y a m (omega arith) in
    let right_half = most_grows n a m (omega arith) in
    omega arith

-- ---- lines

bytes : List (List ℕ) → List TreeLine → ℕ
bytes texts lines = length (printed_lines texts lines)

bytes_are : (texts : List (List ℕ)) (lines : List TreeLine) → bytes texts lines ≡ length (printed_lines texts lines)
unfolding bytes
bytes_are texts lines = refl

bytes_none : (texts : List (List ℕ)) → bytes texts [] ≡ 0
unfolding bytes
bytes_none texts = refl

bytes_first : (texts : List (List ℕ)) (l : TreeLine) (lines : List TreeLine) → bytes texts (l ∷ lines) ≡ length (printed_line texts l) + 1 + bytes texts lines
unfolding bytes
bytes_first texts l lines =
    let whole = length-append (printed_line texts l ++ 10 ∷ []) (printed_lines texts lines) in
    let one = length-append (printed_line texts l) (10 ∷ []) in
    omega arith

bytes_both : (texts : List (List ℕ)) (one other : List TreeLine) → bytes texts (one ++ other) ≡ bytes texts one + bytes texts other
unfolding bytes
bytes_both texts [] other = omega arith
bytes_both texts (l ∷ one) other =
    let more = bytes_both texts one other in
    let first = bytes_first texts l (one ++ other) in
    let second = bytes_first texts l one in
    omega arith

names_short : (texts : List (List ℕ)) → AreNames texts → (xs : List ℕ) → All (λ x. x < length texts) xs →
    length (flat_map (λ x. 32 ∷ printed_name (slice_index_or texts x [])) xs) ≤ 193 * length xs
names_short texts are [] inside = omega arith
names_short texts are (x ∷ xs) inside =
    let here = (are.each x [] (All-head (λ y. y < length texts) x xs inside)).few in
    let printed = (name_length (slice_index_or texts x [])).1 in
    let rest = names_short texts are xs (All-tail (λ y. y < length texts) x xs inside) in
    let both = length-append (32 ∷ printed_name (slice_index_or texts x [])) (flat_map (λ y. 32 ∷ printed_name (slice_index_or texts y [])) xs) in
    omega arith

at_short : (texts : List (List ℕ)) → AreNames texts → (t : ℕ) → t < 2 ^ 32 → (xs : List ℕ) → 1 ≤ length xs → All (λ x. x < length texts) xs →
    length (printed_line texts (AtLine t xs)) + 1 ≤ 207 * length xs
at_short texts are t low xs some inside =
    let moment : length (printed_number t) ≤ 10 = length-decimal-le 10 t (omega arith) (omega arith) (omega arith) in
    let list = names_short texts are xs inside in
    let text = flat_map (λ x. 32 ∷ printed_name (slice_index_or texts x [])) xs in
    let both = length-append (printed_number t) text in
    let whole = length-append (codes "at ") (printed_number t ++ text) in
    omega arith

-- ---- what may still be asked and named

-- how many of these observed propositions have no outcome
pub unseen : List (Option ℕ) → List (Option Bool) → ℕ
unseen [] outcomes = 0
unseen (None ∷ os) outcomes = unseen os outcomes
unseen (Some p ∷ os) outcomes = cond (is_none (slice_index_or outcomes p None)) (suc (unseen os outcomes)) (unseen os outcomes)

-- an outcome that is seen leaves no more unseen
unseen_fewer : (os : List (Option ℕ)) (outcomes : List (Option Bool)) (p : ℕ) (v : Bool) → p < length outcomes →
    unseen os (slice_set outcomes p (Some v)) ≤ unseen os outcomes
unfolding unseen
unseen_fewer [] outcomes p v inside = omega arith
unseen_fewer (None ∷ os) outcomes p v inside = unseen_fewer os outcomes p v inside
unseen_fewer (Some q ∷ os) outcomes p v inside = elim (cases_eq q p) [
  | inl same ↦
      let seen : slice_index_or (slice_set outcomes p (Some v)) q None ≡ Some v =
      subst (λ (r : ℕ). slice_index_or (slice_set outcomes p (Some v)) r None ≡ Some v) (sym same) (get_or-set_same outcomes p (Some v) None inside) in
      let first = cond-false (is_none (slice_index_or (slice_set outcomes p (Some v)) q None)) (suc (unseen os (slice_set outcomes p (Some v)))) (unseen os (slice_set outcomes p (Some v))) (ap is_none seen) in
      let more = unseen_fewer os outcomes p v inside in
      let upto = at_least (is_none (slice_index_or outcomes q None)) (unseen os outcomes) in
      omega (arith, first, more, upto)
  | inr other ↦
      let kept : slice_index_or (slice_set outcomes p (Some v)) q None ≡ slice_index_or outcomes q None = get_or-set_other outcomes p q (Some v) None other in
      let more = unseen_fewer os outcomes p v inside in
      let first = ap (λ o. cond (is_none o) (suc (unseen os (slice_set outcomes p (Some v)))) (unseen os (slice_set outcomes p (Some v)))) kept in
      let upto = both_grow (is_none (slice_index_or outcomes q None)) (unseen os (slice_set outcomes p (Some v))) (unseen os outcomes) more in
      omega (arith, first, upto)
]
  where
    at_least : (b : Bool) (n : ℕ) → n ≤ cond b (suc n) n
    at_least true n = omega arith
    at_least false n = omega arith

    both_grow : (b : Bool) (m n : ℕ) → m ≤ n → cond b (suc m) m ≤ cond b (suc n) n
    both_grow true m n upto = omega arith
    both_grow false m n upto = upto

-- one that was missing, and is observed, leaves fewer
unseen_here : (os : List (Option ℕ)) (outcomes : List (Option Bool)) (q p : ℕ) (v : Bool) → p < length outcomes → slice_index_or outcomes p None ≡ None →
    q ≡ p → unseen (Some q ∷ os) (slice_set outcomes p (Some v)) + 1 ≤ unseen (Some q ∷ os) outcomes
unfolding unseen
unseen_here os outcomes q p v inside none same =
    let seen : slice_index_or (slice_set outcomes p (Some v)) q None ≡ Some v =
    subst (λ (r : ℕ). slice_index_or (slice_set outcomes p (Some v)) r None ≡ Some v) (sym same) (get_or-set_same outcomes p (Some v) None inside) in
    let missing : slice_index_or outcomes q None ≡ None = subst (λ (r : ℕ). slice_index_or outcomes r None ≡ None) (sym same) none in
    let first = cond-false (is_none (slice_index_or (slice_set outcomes p (Some v)) q None)) (suc (unseen os (slice_set outcomes p (Some v)))) (unseen os (slice_set outcomes p (Some v))) (ap is_none seen) in
    let before = cond-true (is_none (slice_index_or outcomes q None)) (suc (unseen os outcomes)) (unseen os outcomes) (ap is_none missing) in
    let more = unseen_fewer os outcomes p v inside in
    omega (arith, first, before, more)

pub unseen_less : (os : List (Option ℕ)) (outcomes : List (Option Bool)) (x p : ℕ) (v : Bool) → p < length outcomes → slice_index_or outcomes p None ≡ None →
    slice_index_or os x None ≡ Some p → unseen os (slice_set outcomes p (Some v)) + 1 ≤ unseen os outcomes
unfolding unseen
unseen_less [] outcomes x p v inside none at = let f : ⊥ = cc in absurd f
unseen_less (None ∷ os) outcomes zero p v inside none at = let f : ⊥ = cc in absurd f
unseen_less (None ∷ os) outcomes (suc x) p v inside none at = unseen_less os outcomes x p v inside none at
unseen_less (Some q ∷ os) outcomes zero p v inside none at = unseen_here os outcomes q p v inside none (let same : q ≡ p = cc in same)
unseen_less (Some q ∷ os) outcomes (suc x) p v inside none at = elim (cases_eq q p) [
  | inl same ↦ unseen_here os outcomes q p v inside none same
  | inr other ↦
      let kept : slice_index_or (slice_set outcomes p (Some v)) q None ≡ slice_index_or outcomes q None = get_or-set_other outcomes p q (Some v) None other in
      let more = unseen_less os outcomes x p v inside none at in
      let first = ap (λ o. cond (is_none o) (suc (unseen os (slice_set outcomes p (Some v)))) (unseen os (slice_set outcomes p (Some v)))) kept in
      let upto = both_less (is_none (slice_index_or outcomes q None)) (unseen os (slice_set outcomes p (Some v))) (unseen os outcomes) more in
      omega (arith, first, upto)
]
  where
    both_less : (b : Bool) (m n : ℕ) → m + 1 ≤ n → cond b (suc m) m + 1 ≤ cond b (suc n) n
    both_less true m n upto = omega arith
    both_less false m n upto = upto

observed_more : (o : Option ℕ) (os : List (Option ℕ)) → count_by is_some (o ∷ os) ≡ cond (is_some o) 1 0 + count_by is_some os
observed_more o os = sum_by-cons (λ x. cond (is_some x) 1 0) o os

pub unseen_upto : (os : List (Option ℕ)) (outcomes : List (Option Bool)) → unseen os outcomes ≤ count_by is_some os
unfolding unseen
unseen_upto [] outcomes = omega arith
unseen_upto (None ∷ os) outcomes = let more = unseen_upto os outcomes in let here = observed_more None os in omega arith
unseen_upto (Some p ∷ os) outcomes =
    let more = unseen_upto os outcomes in
    let here = observed_more (Some p) os in
    let one = at_most (is_none (slice_index_or outcomes p None)) (unseen os outcomes) in
    omega (arith, more, here, one)
  where
    at_most : (b : Bool) (n : ℕ) → cond b (suc n) n ≤ n + 1
    at_most true n = omega arith
    at_most false n = omega arith

-- the numbers that pass are executed, each of which wasn't before
passing_left : (test : ℕ → Bool) (t a n : ℕ) (ms : List (Option ℕ)) →
    ((x : ℕ) → a ≤ x → x < a + n → test x ≡ true → (x < length ms) × (slice_index_or ms x None ≡ None)) →
    left (executed t (passing test a n) ms) + length (passing test a n) ≤ left ms
passing_left test t a zero ms free = omega arith
passing_left test t a (suc n) ms free = elim (cases_Bool (test a)) [
  | inl passes ↦
      let here = free a (omega arith) (omega arith) passes in
      let one = left_less ms a t here.0 here.1 in
      let size : length (slice_set ms a (Some t)) ≡ length ms = length-set ms a (Some t) in
      let more = passing_left test t (a + 1) n (slice_set ms a (Some t)) (λ x from upto h.
      let was = free x (omega arith) (omega arith) h in
      let inside = was.0 in
      (omega arith, get_or-set_other ms a x (Some t) None (λ same. omega arith) ∙ was.1)) in
      subst (λ (xs : List ℕ). left (executed t xs ms) + length xs ≤ left ms) (sym (passing_yes test a n passes)) (omega (arith, one, more))
  | inr fails ↦
      subst (λ (xs : List ℕ). left (executed t xs ms) + length xs ≤ left ms) (sym (passing_no test a n fails))
      (passing_left test t (a + 1) n ms (λ x from upto h. free x (omega arith) (omega arith) h))
]

-- ---- the tree

module _ (texts : List (List ℕ)) (are : AreNames texts) (net : Network) (bounds : List Bound) (table : Table) (wf : IsWellFormed net) (plan : IsEarliest net bounds table)
    (named : length texts ≡ count net) where
  called_left : (run : Run) (b : Branch) → Follows net bounds run b → (t : ℕ) → left (run_moved net bounds run t).moments + length (called net bounds run t) ≤ left run.moments
  called_left run b f t = passing_left (is_free net bounds run t) t 0 (count net) run.moments (λ x from upto h.
      let size = f.right.moments in
      (omega (arith, size, upto), (free_parts net bounds run t x h).0))

  short_from : (run : Run) (tree : Tree) → IsTreeFrom net bounds run tree → (b : Branch) → Follows net bounds run b →
      bytes texts (lines_of_tree tree) ≤ most (unseen net.observes run.outcomes) (left run.moments)
  short_from run tree (ends r none) b f =
      let one = bytes_first texts DoneLine [] in
      let end = bytes_none texts in
      let upto = most_some (unseen net.observes r.outcomes) (left r.moments) in
      omega (arith, one, end, upto)
  short_from run tree (names r t next is accepted below) b f =
      let soon = (due_is_due net bounds table wf plan r f.right t is).1 in
      let in_time = wf.in_time in
      let xs = called net bounds r t in
      let first = bytes_first texts (AtLine t xs) (lines_of_tree next) in
      let here = at_short texts are t (omega (arith, soon, in_time)) xs (some_named net bounds table wf plan r b f t is accepted)
      (λ k d inside. let upto = (from_passing (is_free net bounds r t) 0 (count net) (get_or xs k d) (k, inside, get_or_default xs k (get_or xs k d) d inside)).1 in omega (arith, upto, named)) in
      let rest = short_from (run_moved net bounds r t) next below (below_at b t xs) (follows_at net bounds table wf plan r b f t is accepted) in
      let more = most_named (unseen net.observes r.outcomes) (left r.moments) (left (run_moved net bounds r t).moments) (length xs) (called_left r b f t) in
      omega (arith, first, here, rest, more)
  short_from run tree (asks r t p one other is waits first second) b f =
      let line = bytes_first texts (AskLine p) (lines_of_tree one ++ lines_of_tree other) in
      let both = bytes_both texts (lines_of_tree one) (lines_of_tree other) in
      let here = short_from (handed r p true) one first (below_ask net b p true) (follows_ask net bounds table wf plan r b f t is p waits true) in
      let there = short_from (handed r p false) other second (below_ask net b p false) (follows_ask net bounds table wf plan r b f t is p waits false) in
      let size = f.right.outcomes in
      let known = letter net bounds table wf plan r b f t is p waits in
      let inside : p < length r.outcomes = omega (arith, size, known) in
      let none = missing net bounds table wf plan r b f t is p waits in
      let seer = ready net bounds table wf plan r b f t is p waits in
      let if_true = unseen_less net.observes r.outcomes seer.observer p true inside none seer.observes.what in
      let if_false = unseen_less net.observes r.outcomes seer.observer p false inside none seer.observes.what in
      halves (unseen net.observes r.outcomes) (unseen net.observes (handed r p true).outcomes) (unseen net.observes (handed r p false).outcomes) (left r.moments)
      (bytes texts (lines_of_tree one)) (bytes texts (lines_of_tree other)) (bytes texts (AskLine p ∷ (lines_of_tree one ++ lines_of_tree other))) if_true if_false here there (omega (arith, line, both))

  pub made_short : (load : ℕ) → load ≤ most_load → how_many_observed net ≤ most_observed → (tree : Tree) → IsTreeOf net bounds tree → length (tree_shown texts load (lines_of_tree tree)) ≤ most_text
  made_short load low narrow tree made =
      let first = start_of_run (count net) in
      let begun = follows_start net bounds table wf plan in
      let lines : length (printed_lines texts (lines_of_tree tree)) ≤ most (unseen net.observes first.outcomes) (left first.moments) =
      (let short = short_from first tree made first_branch begun in let same = bytes_are texts (lines_of_tree tree) in omega arith) in
      let asked = unseen_upto net.observes first.outcomes in
      let size = begun.right.moments in
      let few = wf.few_points in
      let upto = left_upto first.moments in
      let wide = most_grows (unseen net.observes first.outcomes) most_observed (left first.moments) (omega (arith, asked, narrow)) in
      let deep = most_named most_observed most_time_points (left first.moments) 0 (omega (arith, size, few, upto)) in
      let number : length (printed_number load) ≤ 7 = length-decimal-le 7 load (omega arith) (omega arith) (omega arith) in
      let top = length-append (printed_number load) (10 ∷ printed_lines texts (lines_of_tree tree)) in
      let whole = length-append (codes "yes ") (printed_number load ++ 10 ∷ printed_lines texts (lines_of_tree tree)) in
      let ten = most_ten in
      omega (arith, lines, wide, deep, number, top, whole, ten)
