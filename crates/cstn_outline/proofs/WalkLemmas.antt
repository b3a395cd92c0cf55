-- The time-points that a line names, and where a branch names them.
use Rattle.std.proofs.Common.{ℕ, zero, suc, ◌≡◌, inl, inr, Bool, true, false, ◌||◌, List, [], ◌∷◌, Some, arith, sym, subst}
use Rattle.std.specs.Prelude.{◌==◌}
use Rattle.std.specs.List.{Contains}
use Rattle.std.proofs.lemmas.Bool.{cases_Bool, cond-true, cond-false, or_left, or_right, eq-eqb, eqb-true, false≢true}
use Rattle.cstn_facts.proofs.Members.{contains_tail}
use Rattle.cstn_label.specs.Labels.{Scenario}
use Rattle.cstn_outline.specs.Trees.{Tree, is_named, walk}
use Rattle.cstn_outline.specs.Trees.Tree.{at, ask}

pub named_has : (x : ℕ) (xs : List ℕ) → is_named x xs ≡ true → Contains xs x
named_has x [] h = absurd (false≢true h)
named_has x (y ∷ ys) h = elim (cases_Bool (x == y)) [
  | inl same ↦ (0, omega arith, sym (eqb-true x y same))
  | inr other ↦ contains_tail y x ys (named_has x ys (subst (λ b. (b || is_named x ys) ≡ true) other h))
]

pub has_named : (x : ℕ) (xs : List ℕ) → Contains xs x → is_named x xs ≡ true
has_named x [] c = let h = c.1 in absurd (omega arith)
has_named x (y ∷ ys) (zero, inside, e) = or_left (x == y) (is_named x ys) (eq-eqb x y (sym e))
has_named x (y ∷ ys) (suc k, inside, e) = or_right (x == y) (is_named x ys) (has_named x ys (k, omega arith, e))

pub named_walk : (xs : List ℕ) (u : ℕ) (next : Tree) (s : Scenario) (x : ℕ) → is_named x xs ≡ true → walk (at u xs next) s x ≡ Some u
named_walk xs u next s x named = cond-true (is_named x xs) (Some u) (walk next s x) named

pub unnamed_walk : (xs : List ℕ) (u : ℕ) (next : Tree) (s : Scenario) (x : ℕ) → is_named x xs ≡ false → walk (at u xs next) s x ≡ walk next s x
unnamed_walk xs u next s x unnamed = cond-false (is_named x xs) (Some u) (walk next s x) unnamed

pub true_walk : (p : ℕ) (one other : Tree) (s : Scenario) (x : ℕ) → s p ≡ true → walk (ask p one other) s x ≡ walk one s x
true_walk p one other s x h = cond-true (s p) (walk one s x) (walk other s x) h

pub false_walk : (p : ℕ) (one other : Tree) (s : Scenario) (x : ℕ) → s p ≡ false → walk (ask p one other) s x ≡ walk other s x
false_walk p one other s x h = cond-false (s p) (walk one s x) (walk other s x) h
