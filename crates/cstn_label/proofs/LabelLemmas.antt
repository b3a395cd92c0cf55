-- Laws of labels, each lifted from the marks of one proposition.
use Rattle.std.proofs.Common.{ℕ, ◌≡◌, inl, inr, sym, subst, Bool, arith, refl}
use Rattle.std.proofs.Math.Path.{fun_ext}
use Rattle.std.proofs.lemmas.Bool.{eq-eqb, ne_eqb, cases_eq}
use Rattle.cstn_label.specs.declared.marks.Mark.{Mark}
use Rattle.cstn_label.specs.declared.marks.Mark.TheVariants.{Absent}
use Rattle.cstn_label.specs.Labels.{Label, Scenario, joined, empty, without, IsMarkWithin, IsWithin, IsPlain, MarkFits, Holds, IsPossible}
use Rattle.cstn_label.proofs.MarkLemmas.{value_of, mark_made, value_kept, mark_fits_within, mark_fits_join, mark_fits_left, mark_fits_right, mark_fits_plain, mark_plain_left, mark_plain_right, mark_plain_within, mark_within_same, mark_within_through, mark_within_joined, mark_joined_either, mark_joined_three, mark_joined_itself, mark_joined_absent, absent_or_not, fits_absent}

-- the scenario s, changed so that the literals of a are true
abbrev pub made_true : Label → Scenario → Scenario
made_true a s = λ p. value_of (a p) (s p)

pub made_holds : (a : Label) (s : Scenario) → IsPlain a → Holds (made_true a s) a
made_holds a s h = λ p. mark_made (a p) (s p) (h p)

-- where a label is possible, the scenario that is changed to make it true keeps the values that are known
pub made_agrees : (known : ℕ → Type 0) (s : Scenario) (a : Label) → IsPossible known s a →
    (p : ℕ) → known p → made_true a s p ≡ s p
made_agrees known s a possible p k = value_kept (a p) (s p) (possible p k)

pub plain_from_holds : (s : Scenario) (a : Label) → Holds s a → IsPlain a
plain_from_holds s a h = λ p. mark_fits_plain (s p) (a p) (h p)

pub plain_within : (a b : Label) → IsWithin a b → IsPlain b → IsPlain a
plain_within a b w h = λ p. mark_plain_within (a p) (b p) (w p) (h p)

pub plain_left : (a b : Label) → IsPlain (joined a b) → IsPlain a
plain_left a b h = λ p. mark_plain_left (a p) (b p) (h p)

pub plain_right : (a b : Label) → IsPlain (joined a b) → IsPlain b
plain_right a b h = λ p. mark_plain_right (a p) (b p) (h p)

pub holds_within : (s : Scenario) (a b : Label) → IsWithin a b → Holds s b → Holds s a
holds_within s a b w h = λ p. mark_fits_within (s p) (a p) (b p) (w p) (h p)

pub holds_joined : (s : Scenario) (a b : Label) → Holds s a → Holds s b → Holds s (joined a b)
holds_joined s a b h k = λ p. mark_fits_join (s p) (a p) (b p) (h p) (k p)

pub holds_left : (s : Scenario) (a b : Label) → Holds s (joined a b) → Holds s a
holds_left s a b h = λ p. mark_fits_left (s p) (a p) (b p) (h p)

pub holds_right : (s : Scenario) (a b : Label) → Holds s (joined a b) → Holds s b
holds_right s a b h = λ p. mark_fits_right (s p) (a p) (b p) (h p)

pub possible_within : (known : ℕ → Type 0) (s : Scenario) (a b : Label) → IsWithin a b →
    IsPossible known s b → IsPossible known s a
possible_within known s a b w h = λ p k. mark_fits_within (s p) (a p) (b p) (w p) (h p k)

pub possible_joined : (known : ℕ → Type 0) (s : Scenario) (a b : Label) → IsPossible known s a →
    IsPossible known s b → IsPossible known s (joined a b)
possible_joined known s a b h j = λ p k. mark_fits_join (s p) (a p) (b p) (h p k) (j p k)

pub possible_left : (known : ℕ → Type 0) (s : Scenario) (a b : Label) → IsPossible known s (joined a b) →
    IsPossible known s a
possible_left known s a b h = λ p k. mark_fits_left (s p) (a p) (b p) (h p k)

pub possible_right : (known : ℕ → Type 0) (s : Scenario) (a b : Label) → IsPossible known s (joined a b) →
    IsPossible known s b
possible_right known s a b h = λ p k. mark_fits_right (s p) (a p) (b p) (h p k)

-- what was ruled out stays ruled out
pub possible_earlier : (known later : ℕ → Type 0) (s : Scenario) (a : Label) → ((p : ℕ) → known p → later p) →
    IsPossible later s a → IsPossible known s a
possible_earlier known later s a more h = λ p k. h p (more p k)

-- whether a label is possible depends only on the values of what is known
pub possible_alike : (known : ℕ → Type 0) (s r : Scenario) (a : Label) → ((p : ℕ) → known p → r p ≡ s p) →
    IsPossible known s a → IsPossible known r a
possible_alike known s r a same h = λ p k. subst (λ v. MarkFits v (a p)) (sym (same p k)) (h p k)

-- a label whose marked propositions are all known is possible only where it holds
pub holds_from_possible : (known : ℕ → Type 0) (s : Scenario) (a : Label) →
    ((p : ℕ) → (a p ≡ Absent → ⊥) → known p) → IsPossible known s a → Holds s a
holds_from_possible known s a all h p = elim (absent_or_not (a p)) [
  | inl gone ↦ fits_absent (s p) (a p) gone
  | inr marked ↦ h p (all p marked)
]

pub within_itself : (a : Label) → IsWithin a a
within_itself a = λ p. mark_itself (a p)
  where
    mark_itself : (m : Mark) → IsMarkWithin m m
    mark_itself m = grind arith

pub within_through : (a b c : Label) → IsWithin a b → IsWithin b c → IsWithin a c
within_through a b c h k = λ p. mark_within_through (a p) (b p) (c p) (h p) (k p)

-- labels that are within each other are equal
pub within_same : (a b : Label) → IsWithin a b → IsWithin b a → a ≡ b
within_same a b h k = fun_ext (λ p. mark_within_same (a p) (b p) (h p) (k p))

pub within_joined : (a b c : Label) → IsWithin a c → IsWithin b c → IsWithin (joined a b) c
within_joined a b c h k = λ p. mark_within_joined (a p) (b p) (c p) (h p) (k p)

pub joined_either : (a b : Label) → joined a b ≡ joined b a
joined_either a b = fun_ext (λ p. mark_joined_either (a p) (b p))

pub joined_three : (a b c : Label) → joined (joined a b) c ≡ joined a (joined b c)
joined_three a b c = fun_ext (λ p. mark_joined_three (a p) (b p) (c p))

pub joined_itself : (a : Label) → joined a a ≡ a
joined_itself a = fun_ext (λ p. mark_joined_itself (a p))

pub joined_empty : (a : Label) → joined a empty ≡ a
joined_empty a = fun_ext (λ p. mark_joined_absent (a p))

-- the mark on p is gone, and the others stay
pub without_same : (a : Label) (p : ℕ) → without a p p ≡ Absent
without_same a p = grind (arith, eq-eqb)

pub without_other : (a : Label) (p q : ℕ) → (q ≡ p → ⊥) → without a p q ≡ a q
without_other a p q h = grind (arith, ne_eqb)

-- what holds of an absent mark and of the label's mark on q holds of the mark on q once the mark on p is taken off
pub kept_without : (P : Mark → Type 0) (a : Label) (p q : ℕ) → P Absent → P (a q) → P (without a p q)
kept_without P a p q none h = elim (cases_eq q p) [
  | inl e ↦ rw (eq-eqb q p e) none
  | inr n ↦ subst P (sym (without_other a p q n)) h
]

pub without_within : (a : Label) (p : ℕ) → IsWithin (without a p) a
without_within a p = λ q. kept_without (λ m. IsMarkWithin m (a q)) a p q tt (within_itself a q)

pub absent_joined : (a b : Label) (p : ℕ) → a p ≡ Absent → b p ≡ Absent → joined a b p ≡ Absent
absent_joined a b p h k = rw (h, k) refl

-- once its mark on p is taken off, a label fits every value of p there
pub fits_off : (v : Bool) (a : Label) (p : ℕ) → MarkFits v (without a p p)
fits_off v a p = rw (without_same a p) tt
