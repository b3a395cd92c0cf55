-- A label's test of being within another passes exactly where it is within.
use Rattle.std.proofs.Common.{ℕ, ◌≡◌, inl, inr, ◌≤◌, ◌↔◌, Bool, true, arith, IsTrue}
use Rattle.std.specs.Cmp.{both_ways}
use Rattle.std.proofs.lemmas.Bool.{cases_lt}
use Rattle.cstn_label.specs.declared.marks.Mark.{Mark}
use Rattle.cstn_label.specs.declared.marks.Mark.TheVariants.{Absent}
use Rattle.cstn_label.specs.Labels.{Label, IsMarkWithin, IsWithin}
use Rattle.cstn_label.specs.Tests.{is_mark_within, is_within}
use Rattle.cstn_label.proofs.MarkLemmas.{absent_within}
use Rattle.cstn_label.proofs.PlainLabels.{each_at, each_from}

mark_true : (x y : Mark) → IsMarkWithin x y → is_mark_within x y ≡ true
mark_true x y h = grind arith

true_mark : (x y : Mark) → is_mark_within x y ≡ true → IsMarkWithin x y
true_mark x y h = grind arith

within_true : (a b : Label) → IsWithin a b → is_within a b ≡ true
within_true a b h = each_from (λ p. is_mark_within (a p) (b p)) 52 (λ p. mark_true (a p) (b p) (h p))

-- and where the test passes, it is within the other
pub true_within : (a b : Label) → ((p : ℕ) → 52 ≤ p → a p ≡ Absent) → is_within a b ≡ true → IsWithin a b
true_within a b small e = λ p. elim (cases_lt p 52) [
  | inl below ↦ true_mark (a p) (b p) (each_at (λ q. is_mark_within (a q) (b q)) 52 p below e)
  | inr above ↦ absent_within (a p) (b p) (small p above)
]

-- a test that passes exactly where the label is within the other is the test of the definitions
pub within_tested : (a b : Label) (test : Bool) → ((p : ℕ) → 52 ≤ p → a p ≡ Absent) → (IsTrue test ↔ IsWithin a b) → test ≡ is_within a b
within_tested a b test small h = both_ways test (is_within a b) (λ e. within_true a b (h.0 e)) (λ e. h.1 (true_within a b small e))
