-- Conclusions as the program's bounds.
use Rattle.std.proofs.Common.{ℕ, ◌≡◌, ◌↔◌, Bool, true, ◌&&◌, Option, None, Some, eqb, int_eq, refl, subst, ap}
use Rattle.std.proofs.Math.Path.{fun_ext}
use Rattle.std.proofs.lemmas.Bool.{and_parts, eqb-true, eq-eqb}
use Rattle.std.proofs.lemmas.Bool.Decides.{Decides-int_eq}
use Rattle.cstn_label.specs.Words.{has_bit}
use Rattle.std.specs.Prelude.{ℤ, IfSome, IfNone}
use Rattle.cstn_label.specs.declared.bounds.Bound.{Bound}
use Rattle.cstn_label.specs.declared.labels.Label.{Label}
use Rattle.cstn_label.specs.Bounds.{Bound as TheBound}
use Rattle.cstn_label.specs.Read.{mark_of, marks, the_bound}

built : (n m : ℕ) (d e : ℤ) (k l : Label) → n ≡ m → d ≡ e → k ≡ l →
    ◌≡◌ {A = Bound} (record { node = record { 0 = n }; least = d; label = k }) (record { node = record { 0 = m }; least = e; label = l })
built n m d e k l same alike equal = cc

-- labels of the same marks are equal
abbrev pub AreTheirMarks : Type 0
AreTheirMarks = (a b : Label) → marks a ≡ marks b → a ≡ b

-- bounds with the same time-point, least value and marks are equal
pub same_bounds : AreTheirMarks → (a b : Bound) → the_bound a ≡ the_bound b → a ≡ b
same_bounds equal a b same = built a.node.0 b.node.0 a.least b.least a.label b.label
    (ap {A = TheBound} (λ x. x.node) same) (ap {A = TheBound} (λ x. x.least) same)
    (equal a.label b.label (ap {A = TheBound} (λ x. x.label) same))

-- where a call answers the only bound that a rule gives, if there is one, it answers r exactly where the rule gives r
pub concluded : {P : TheBound → Type 0} → AreTheirMarks → (o : Option Bound) (r : Bound) → IfSome o (λ x. P (the_bound x)) →
    IfNone o ((q : TheBound) → P q → ⊥) → ((q s : TheBound) → P q → P s → q ≡ s) → (o ≡ Some r) ↔ P (the_bound r)
concluded equal None r h none one = (λ e. cc, λ p. absurd (none (the_bound r) p))
concluded {P} equal (Some x) r h none one = (
  λ e. let same : x ≡ r = cc in subst (λ y. P (the_bound y)) same h,
  λ p. ap Some (same_bounds equal x r (one (the_bound x) (the_bound r) h p)),
)

-- where P holds of no number and bound, it holds of no bound with some number
pub none_of_all : (P : ℕ → TheBound → Type 0) (o : Option Bound) → IfNone o ((p : ℕ) (q : TheBound) → P p q → ⊥) →
    IfNone o ((q : TheBound) → (p : ℕ) × P p q → ⊥)
none_of_all P None none = λ q x. none x.0 q x.1
none_of_all P (Some x) none = tt

same_marks : (y z n m p : ℕ) → y ≡ z → n ≡ m → mark_of (has_bit y p) (has_bit n p) ≡ mark_of (has_bit z p) (has_bit m p)
same_marks y z n m p e f = cc

-- whether two bounds are equal part by part
abbrev pub test : Bound → Bound → Bool
test a b = eqb a.node.0 b.node.0 && (int_eq a.least b.least && (eqb a.label.yes b.label.yes && eqb a.label.no b.label.no))

equal_to_itself : (a : Bound) → test a a ≡ true
equal_to_itself a = rw (eq-eqb a.node.0 a.node.0 refl, (Decides-int_eq a.least a.least).1 refl, eq-eqb a.label.yes a.label.yes refl, eq-eqb a.label.no a.label.no refl) refl

-- bounds are equal exactly where the test says so
pub tested : AreTheirMarks → (a b : Bound) → (test a b ≡ true) ↔ (a ≡ b)
tested equal a b = (
  λ t.
      let one = and_parts _ _ t in
      let two = and_parts _ _ one.1 in
      let three = and_parts _ _ two.1 in
      let yes_same = eqb-true a.label.yes b.label.yes three.0 in
      let no_same = eqb-true a.label.no b.label.no three.1 in
      built a.node.0 b.node.0 a.least b.least a.label b.label (eqb-true a.node.0 b.node.0 one.0)
      ((Decides-int_eq a.least b.least).0 two.0)
      (equal a.label b.label (fun_ext (λ p. same_marks a.label.yes b.label.yes a.label.no b.label.no p yes_same no_same))),
  λ e. subst (λ x. test a x ≡ true) e (equal_to_itself a),
)
