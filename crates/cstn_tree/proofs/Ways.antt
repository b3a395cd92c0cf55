-- Two scenarios that agree on what is known when x is named have x named on the same line.
use Rattle.std.proofs.Common.{ℕ, ◌≡◌, inl, inr, ◌+◌, ◌≤◌, true, false, Option, Some, None, List, arith, refl, sym, ap, ◌∙◌}
use Rattle.std.proofs.lemmas.Bool.{cases_Bool, cond-true, cond-false}
use Rattle.cstn_label.specs.Labels.{Scenario}
use Rattle.cstn_net.specs.Networks.{Network, Observes}
use Rattle.cstn_outline.specs.Trees.{Tree, is_named, walk}
use Rattle.cstn_outline.specs.Trees.Tree.{at, ask, done}
use Rattle.cstn_outline.proofs.WalkLemmas.{named_walk, unnamed_walk, true_walk, false_walk}
use Rattle.cstn_tree.specs.Good.{Branch, below_at, below_ask, or_else}
use Rattle.cstn_tree.proofs.Standing.{Stands}

-- the moment of x on the whole branch of s: above this line, or else on it or below
abbrev pub full : Branch → Tree → Scenario → ℕ → Option ℕ
full b tree s x = or_else (b.placed x) (walk tree s x)

pub some_same : (m n : ℕ) → Some m ≡ Some n → m ≡ n
some_same m n e = cc

pub placed_full : (b : Branch) (tree : Tree) (s : Scenario) (x m : ℕ) → b.placed x ≡ Some m → full b tree s x ≡ Some m
placed_full b tree s x m e = rw e refl

-- each moment that a tree has is at least the branch's first moment that may follow
pub walk_from : (net : Network) (b : Branch) (tree : Tree) (s : Scenario) (x t : ℕ) → Stands net b tree →
    walk tree s x ≡ Some t → b.from ≤ t
walk_from net b (at u xs next) s x t good e = elim (cases_Bool (is_named x xs)) [
  | inl named ↦
      let same = some_same u t (sym (named_walk xs u next s x named) ∙ e) in
      let first = good.0.first in
      omega arith
  | inr unnamed ↦
      let below = walk_from net (below_at b u xs) next s x t good.1 (sym (unnamed_walk xs u next s x unnamed) ∙ e) in
      let first = good.0.first in
      omega arith
]
walk_from net b (ask p one other) s x t good e = elim (cases_Bool (s p)) [
  | inl here ↦
      let below = walk_from net (below_ask net b p true) one s x t good.1.0 (sym (true_walk p one other s x here) ∙ e) in
      let kept = good.0.kept true in
      omega arith
  | inr there ↦
      let below = walk_from net (below_ask net b p false) other s x t good.1.1 (sym (false_walk p one other s x there) ∙ e) in
      let kept = good.0.kept false in
      omega arith
]
walk_from net b done s x t good e = let f : ⊥ = cc in absurd f

-- the moment of x on the branch of s is the same, read from a line or from the line below it
pub full_at : (b : Branch) (u : ℕ) (xs : List ℕ) (next : Tree) (s : Scenario) (x : ℕ) →
    ((y : ℕ) → is_named y xs ≡ true → b.placed y ≡ None) → full (below_at b u xs) next s x ≡ full b (at u xs next) s x
full_at b u xs next s x none = elim (cases_Bool (is_named x xs)) [
  | inl named ↦ rw (none x named, named) refl
  | inr unnamed ↦ rw unnamed refl
]

pub full_true : (net : Network) (b : Branch) (p : ℕ) (one other : Tree) (s : Scenario) (x : ℕ) → s p ≡ true →
    full (below_ask net b p true) one s x ≡ full b (ask p one other) s x
full_true net b p one other s x h = ap (or_else (b.placed x)) (sym (true_walk p one other s x h))

pub full_false : (net : Network) (b : Branch) (p : ℕ) (one other : Tree) (s : Scenario) (x : ℕ) → s p ≡ false →
    full (below_ask net b p false) other s x ≡ full b (ask p one other) s x
full_false net b p one other s x h = ap (or_else (b.placed x)) (sym (false_walk p one other s x h))

-- p is known at t on the branch of s
pub record KnownOn (net : Network) (b : Branch) (tree : Tree) (s : Scenario) (t p : ℕ) : Type 0 where
  pub observer : ℕ
  pub observes : Observes net observer p
  pub moment : ℕ
  pub there : full b tree s observer ≡ Some moment
  pub passed : moment + net.reaction p ≤ t

pub walk_alike : (net : Network) (b : Branch) (tree : Tree) (s r : Scenario) (x t : ℕ) → Stands net b tree →
    walk tree s x ≡ Some t → ((p : ℕ) → KnownOn net b tree s t p → r p ≡ s p) → walk tree r x ≡ Some t
walk_alike net b (at u xs next) s r x t good e agrees = elim (cases_Bool (is_named x xs)) [
  | inl named ↦ named_walk xs u next r x named ∙ sym (named_walk xs u next s x named) ∙ e
  | inr unnamed ↦
      unnamed_walk xs u next r x unnamed
      ∙ walk_alike net (below_at b u xs) next s r x t good.1 (sym (unnamed_walk xs u next s x unnamed) ∙ e) (λ p k.
      agrees p (record {
        observer = k.observer;
        observes = k.observes;
        moment = k.moment;
        there = sym (full_at b u xs next s k.observer good.0.once) ∙ k.there;
        passed = k.passed;
      }))
]
walk_alike net b (ask p one other) s r x t good e agrees = elim (cases_Bool (s p)) [
  | inl here ↦
      let below : walk one s x ≡ Some t = sym (true_walk p one other s x here) ∙ e in
      let placed = good.0.placed in
      let later = good.0.later true in
      let from = walk_from net (below_ask net b p true) one s x t good.1.0 below in
      let same = agrees p (record {
        observer = placed.observer;
        observes = placed.observes;
        moment = good.0.moment;
        there = placed_full b (ask p one other) s placed.observer good.0.moment placed.there;
        passed = omega arith;
      }) in
      true_walk p one other r x (same ∙ here)
      ∙ walk_alike net (below_ask net b p true) one s r x t good.1.0 below (λ q k.
      agrees q (record {
        observer = k.observer;
        observes = k.observes;
        moment = k.moment;
        there = sym (full_true net b p one other s k.observer here) ∙ k.there;
        passed = k.passed;
      }))
  | inr there ↦
      let below : walk other s x ≡ Some t = sym (false_walk p one other s x there) ∙ e in
      let placed = good.0.placed in
      let later = good.0.later false in
      let from = walk_from net (below_ask net b p false) other s x t good.1.1 below in
      let same = agrees p (record {
        observer = placed.observer;
        observes = placed.observes;
        moment = good.0.moment;
        there = placed_full b (ask p one other) s placed.observer good.0.moment placed.there;
        passed = omega arith;
      }) in
      false_walk p one other r x (same ∙ there)
      ∙ walk_alike net (below_ask net b p false) other s r x t good.1.1 below (λ q k.
      agrees q (record {
        observer = k.observer;
        observes = k.observes;
        moment = k.moment;
        there = sym (full_false net b p one other s k.observer there) ∙ k.there;
        passed = k.passed;
      }))
]
walk_alike net b done s r x t good e agrees = let f : ⊥ = cc in absurd f
