-- The test of a label passes exactly where it has no unknown mark.
use Rattle.std.proofs.Common.{ℕ, zero, suc, ◌≡◌, inl, inr, ◌<◌, ◌≤◌, Bool, true, arith, refl, subst}
use Rattle.std.proofs.lemmas.Bool.{cases_lt, and_parts, and_from}
use Rattle.cstn_label.specs.declared.marks.Mark.{Mark}
use Rattle.cstn_label.specs.declared.marks.Mark.TheVariants.{Absent}
use Rattle.cstn_label.specs.Labels.{Label, IsMarkPlain, IsPlain}
use Rattle.cstn_label.specs.Marks.{is_mark_plain, each_below, is_plain}

pub each_at : (test : ℕ → Bool) (n p : ℕ) → p < n → each_below test n ≡ true → test p ≡ true
each_at test zero p h e = absurd (omega arith)
each_at test (suc n) p h e =
    let both = and_parts (test n) (each_below test n) e in
    elim (cases_lt p n) [
      | inl below ↦ each_at test n p below both.1
      | inr last ↦ let here : n ≡ p = omega arith in subst (λ k. test k ≡ true) here both.0
    ]

pub each_from : (test : ℕ → Bool) (n : ℕ) → ((p : ℕ) → test p ≡ true) → each_below test n ≡ true
each_from test zero h = refl
each_from test (suc n) h = and_from (test n) (each_below test n) (h n) (each_from test n h)

pub mark_plain_true : (m : Mark) → IsMarkPlain m → is_mark_plain m ≡ true
mark_plain_true m h = grind arith

pub true_mark_plain : (m : Mark) → is_mark_plain m ≡ true → IsMarkPlain m
true_mark_plain m h = grind arith

absent_plain : (m : Mark) → m ≡ Absent → IsMarkPlain m
absent_plain m e = rw e tt

pub plain_true : (a : Label) → IsPlain a → is_plain a ≡ true
plain_true a h = each_from (λ p. is_mark_plain (a p)) 52 (λ p. mark_plain_true (a p) (h p))

pub true_plain : (a : Label) → ((p : ℕ) → 52 ≤ p → a p ≡ Absent) → is_plain a ≡ true → IsPlain a
true_plain a small e = λ p. elim (cases_lt p 52) [
  | inl below ↦ true_mark_plain (a p) (each_at (λ q. is_mark_plain (a q)) 52 p below e)
  | inr above ↦ absent_plain (a p) (small p above)
]
