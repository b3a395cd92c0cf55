-- Constraints that are met, and the bounds that they are.
use Rattle.std.proofs.Common.{◌≡◌, ◌↔◌, ℕ, ◌+◌, ◌≤◌, List, [], ◌∷◌, ◌++◌, arith}
use Rattle.std.specs.Prelude.{All, flat_map, ℤ, pos, neg_ℤ, ◌+ℤ◌, ◌-ℤ◌, ◌≤ℤ◌}
use Rattle.std.proofs.lemmas.Int.{ints}
use Rattle.std.proofs.lemmas.List.Elements.{All-nil, All-cons, All-append, All-head, All-tail, All-weaker, All-contains, Contains-append_left, Contains-append_right}
use Rattle.cstn_facts.proofs.Members.{all_from}
use Rattle.cstn_net.specs.Strategies.{Schedule, Meets}
use Rattle.cstn_graphml.specs.DrawnGraph.{DrawnConstraint}
use Rattle.cstn_graphml.specs.Networks.{constraint_drawn}
use Rattle.cstn_sentences.specs.Moments.{MeetsEach}

abbrev pub IsMet : Schedule → DrawnConstraint → Type 0
IsMet at c = Meets at (constraint_drawn c)

-- ---- what comes to the same

pub through : {A B C : Type 0} → (A ↔ B) → (B ↔ C) → (A ↔ C)
through e f = (λ a. f.0 (e.0 a), λ c. e.1 (f.1 c))

pub both : {A B C D : Type 0} → (A ↔ B) → (C ↔ D) → ((A × C) ↔ (B × D))
both e f = (λ h. (e.0 h.0, f.0 h.1), λ h. (e.1 h.0, f.1 h.1))

pub all_same : {X : Type 0} (P Q : X → Type 0) (xs : List X) → ((x : X) → P x ↔ Q x) → (All P xs ↔ All Q xs)
all_same P Q xs same = (All-weaker P Q (λ x h. (same x).0 h) xs, All-weaker Q P (λ x h. (same x).1 h) xs)

-- ---- lists of constraints

pub none_met : (at : Schedule) → MeetsEach at [] ↔ Unit {0}
none_met at = (λ all. tt, λ h. All-nil (IsMet at))

pub first_met : (at : Schedule) (c : DrawnConstraint) (cs : List DrawnConstraint) → MeetsEach at (c ∷ cs) ↔ (IsMet at c × MeetsEach at cs)
first_met at c cs = (λ all. (All-head (IsMet at) c cs all, All-tail (IsMet at) c cs all), λ h. All-cons (IsMet at) c cs h.0 h.1)

pub one_met : (at : Schedule) (c : DrawnConstraint) → MeetsEach at (c ∷ []) ↔ IsMet at c
one_met at c = (λ all. All-head (IsMet at) c [] all, λ h. All-cons (IsMet at) c [] h (All-nil (IsMet at)))

pub two_met : (at : Schedule) (c d : DrawnConstraint) → MeetsEach at (c ∷ (d ∷ [])) ↔ (IsMet at c × IsMet at d)
two_met at c d = (λ all. (All-head (IsMet at) c (d ∷ []) all, (one_met at d).0 (All-tail (IsMet at) c (d ∷ []) all)), λ h. All-cons (IsMet at) c (d ∷ []) h.0 ((one_met at d).1 h.1))

pub each_met : {X : Type 0} (at : Schedule) (f : X → List DrawnConstraint) (xs : List X) → MeetsEach at (flat_map f xs) ↔ All (λ x. MeetsEach at (f x)) xs
each_met {X = X} at f [] = (λ all. All-nil (λ x. MeetsEach at (f x)), λ all. All-nil (IsMet at))
each_met {X = X} at f (x ∷ xs) =
    let P : X → Type 0 = λ y. MeetsEach at (f y) in
    let later = each_met at f xs in (
      λ all. All-cons P x xs
          (all_from (IsMet at) (f x) (λ c there. All-contains (IsMet at) (f x ++ flat_map f xs) c all (Contains-append_left (f x) (flat_map f xs) c there)))
          (later.0 (all_from (IsMet at) (flat_map f xs) (λ c there. All-contains (IsMet at) (f x ++ flat_map f xs) c all (Contains-append_right (f x) (flat_map f xs) c there)))),
      λ all. All-append (IsMet at) (f x) (flat_map f xs) (All-head P x xs all) (later.1 (All-tail P x xs all)),
    )

-- ---- bounds

pub least_same : (y x shift a : ℤ) → ((y -ℤ x) ≤ℤ neg_ℤ (a +ℤ shift)) ↔ (((y +ℤ shift) +ℤ a) ≤ℤ x)
least_same y x shift a = (λ h. grind (arith, ints), λ h. grind (arith, ints))

pub most_same : (y x shift b : ℤ) → ((x -ℤ y) ≤ℤ (b +ℤ shift)) ↔ (x ≤ℤ ((y +ℤ shift) +ℤ b))
most_same y x shift b = (λ h. grind (arith, ints), λ h. grind (arith, ints))

pub from_it : (tick x : ℤ) → ((tick +ℤ pos 0) ≤ℤ x) ↔ (tick ≤ℤ x)
from_it tick x = (λ h. grind (arith, ints), λ h. grind (arith, ints))

pub at_it : (tick x : ℤ) → (((tick +ℤ pos 0) ≤ℤ x) × (x ≤ℤ (tick +ℤ pos 0))) ↔ (x ≡ tick)
at_it tick x = (λ h. grind (arith, ints, h.0, h.1), λ e. (grind (arith, ints), grind (arith, ints)))

pub from_zero : (z : ℕ) (n x : ℤ) → z ≡ 0 → (((pos z +ℤ pos 0) +ℤ n) ≤ℤ x) ↔ (n ≤ℤ x)
from_zero z n x e = (λ h. grind (arith, ints), λ h. grind (arith, ints))

pub to_zero : (z : ℕ) (n x : ℤ) → z ≡ 0 → (x ≤ℤ ((pos z +ℤ pos 0) +ℤ n)) ↔ (x ≤ℤ n)
to_zero z n x e = (λ h. grind (arith, ints), λ h. grind (arith, ints))

pub passed_by : (observer reaction x : ℕ) → ((pos observer +ℤ pos reaction) ≤ℤ pos x) ↔ (observer + reaction ≤ x)
passed_by observer reaction x = (λ h. grind (arith, ints), λ h. grind (arith, ints))
