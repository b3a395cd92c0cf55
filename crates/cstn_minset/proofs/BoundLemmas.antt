-- When a bound dominates another.
use Rattle.std.proofs.Common.{◌≡◌, ◌⊎◌, inl, inr, ℕ, zero, suc, ◌<◌, ◌≤◌, true, false, arith, sym, ◌∙◌, subst}
use Rattle.std.specs.Prelude.{ℤ, ◌≤ℤ◌, int_le}
use Rattle.std.proofs.lemmas.Bool.{cases_eq, cases_lt, cases_Bool}
use Rattle.std.proofs.lemmas.Int.{ints}
use Rattle.cstn_label.specs.declared.bounds.Bound.{Bound}
use Rattle.cstn_label.specs.declared.marks.Mark.{Mark}
use Rattle.cstn_label.specs.declared.marks.Mark.TheVariants.{Absent, Yes, No, Unknown}
use Rattle.cstn_label.specs.declared.labels.Label.{Label}
use Rattle.cstn_label.specs.Labels.{IsMarkWithin, IsWithin}
use Rattle.cstn_label.specs.Read.{marks}
use Rattle.cstn_minset.specs.Sets.{IsBoundOver}

mark_within_or_not : (m n : Mark) → IsMarkWithin m n ⊎ ¬ IsMarkWithin m n
mark_within_or_not Absent n = inl tt
mark_within_or_not Yes Absent = inr (λ h. h)
mark_within_or_not Yes Yes = inl tt
mark_within_or_not Yes No = inr (λ h. h)
mark_within_or_not Yes Unknown = inl tt
mark_within_or_not No Absent = inr (λ h. h)
mark_within_or_not No Yes = inr (λ h. h)
mark_within_or_not No No = inl tt
mark_within_or_not No Unknown = inl tt
mark_within_or_not Unknown Absent = inr (λ h. h)
mark_within_or_not Unknown Yes = inr (λ h. h)
mark_within_or_not Unknown No = inr (λ h. h)
mark_within_or_not Unknown Unknown = inl tt

marks_within_or_not : (a b : ℕ → Mark) (n : ℕ) → ((p : ℕ) → p < n → IsMarkWithin (a p) (b p)) ⊎ ¬ IsWithin a b
marks_within_or_not a b zero = inl (λ p below. absurd (omega arith))
marks_within_or_not a b (suc n) = elim (marks_within_or_not a b n) [
  | inr not ↦ inr not
  | inl below ↦ elim (mark_within_or_not (a n) (b n)) [
    | inr not ↦ inr (λ all. not (all n))
    | inl here ↦ inl (λ p less. elim (cases_eq p n) [ inl same ↦ subst (λ (q : ℕ). IsMarkWithin (a q) (b q)) (sym same) here | inr other ↦ below p (omega arith) ])
  ]
]

mark_through : (m n o : Mark) → IsMarkWithin m n → IsMarkWithin n o → IsMarkWithin m o
mark_through m n o h k = grind arith

mark_itself : (m : Mark) → IsMarkWithin m m
mark_itself m = grind arith

-- no proposition above 51 is marked
abbrev pub MarksEnd : Type 0
MarksEnd = (a : Label) (p : ℕ) → 52 ≤ p → marks a p ≡ Absent

absent_within : (m n : Mark) → m ≡ Absent → IsMarkWithin m n
absent_within m n is = subst (λ (o : Mark). IsMarkWithin o n) (sym is) tt

pub within_or_not : MarksEnd → (a b : Label) → IsWithin (marks a) (marks b) ⊎ ¬ IsWithin (marks a) (marks b)
within_or_not end a b = elim (marks_within_or_not (marks a) (marks b) 52) [
  | inr not ↦ inr not
  | inl below ↦ inl (λ p. elim (cases_lt p 52) [ inl less ↦ below p less | inr above ↦ absent_within (marks a p) (marks b p) (end a p above) ])
]

pub least_or_not : (a b : ℤ) → (a ≤ℤ b) ⊎ ¬ (a ≤ℤ b)
least_or_not a b = elim (cases_Bool (int_le a b)) [ inl y ↦ inl (least a b y) | inr n ↦ inr (not_least a b n) ]
  where
    least : (c d : ℤ) → int_le c d ≡ true → c ≤ℤ d
    least c d is = grind (arith, ints)

    not_least : (c d : ℤ) → int_le c d ≡ false → ¬ (c ≤ℤ d)
    not_least c d is h = grind (arith, ints)

either_least : (a b : ℤ) → (a ≤ℤ b) ⊎ (b ≤ℤ a)
either_least a b = elim (cases_Bool (int_le a b)) [ inl y ↦ inl (least a b y) | inr n ↦ inr (most a b n) ]
  where
    least : (c d : ℤ) → int_le c d ≡ true → c ≤ℤ d
    least c d is = grind (arith, ints)

    most : (c d : ℤ) → int_le c d ≡ false → d ≤ℤ c
    most c d is = grind (arith, ints)

-- a bound dominates another or it doesn't
pub over_or_not : MarksEnd → (a b : Bound) → IsBoundOver a b ⊎ ¬ IsBoundOver a b
over_or_not end a b = elim (cases_eq a.node.0 b.node.0) [
  | inr other ↦ inr (λ over. other over.node)
  | inl node ↦ elim (least_or_not b.least a.least) [
    | inr less ↦ inr (λ over. less over.least)
    | inl least ↦ elim (within_or_not end a.label b.label) [
      | inr not ↦ inr (λ over. not over.label)
      | inl label ↦ inl (record { node = node; least = least; label = label })
    ]
  ]
]

pub over_through : (a b c : Bound) → IsBoundOver a b → IsBoundOver b c → IsBoundOver a c
over_through a b c x y = record {
  node = x.node ∙ y.node;
  least = between c.least b.least a.least y.least x.least;
  label = λ p. mark_through (marks a.label p) (marks b.label p) (marks c.label p) (x.label p) (y.label p);
}
  where
    between : (u v w : ℤ) → u ≤ℤ v → v ≤ℤ w → u ≤ℤ w
    between u v w p q = omega (arith, ints)

-- of two bounds of one time-point and label, one dominates the other
pub one_is_over : (a b : Bound) → a.node.0 ≡ b.node.0 → a.label ≡ b.label → IsBoundOver a b ⊎ IsBoundOver b a
one_is_over a b node label = elim (either_least b.least a.least) [
  | inl le ↦ inl (record { node = node; least = le; label = subst (λ (l : Label). IsWithin (marks a.label) (marks l)) label (λ p. mark_itself (marks a.label p)) })
  | inr ge ↦ inr (record { node = sym node; least = ge; label = subst (λ (l : Label). IsWithin (marks l) (marks a.label)) label (λ p. mark_itself (marks a.label p)) })
]
