-- The letters of propositions, and labels that mark these alone.
use Rattle.std.proofs.Common.{ℕ, ◌≡◌, ◌<◌, ◌≤◌, Some, arith}
use Rattle.std.specs.Prelude.{◌==◌, if◌then◌else◌}
use Rattle.cstn_label.specs.declared.marks.Mark.{Mark}
use Rattle.cstn_label.specs.declared.marks.Mark.TheVariants.{Absent}
use Rattle.cstn_label.specs.declared.labels.Label.{Label}
use Rattle.cstn_label.specs.Letters.{letter_of, prop_of}
use Rattle.cstn_label.specs.Read.{marks}

pub letter_back : (p : ℕ) → p < 52 → prop_of (letter_of p) ≡ Some p
letter_back p small = grind arith

pub letter_above : (p : ℕ) → 32 < letter_of p
letter_above p = grind arith

pub prop_small : (b p : ℕ) → prop_of b ≡ Some p → p < 52
prop_small b p e = grind arith

-- where one of the 52 propositions is marked, none from 52 on is
pub with_small : (q p : ℕ) (m n : Mark) → p < 52 → 52 ≤ q → n ≡ Absent → (if q == p then m else n) ≡ Absent
with_small q p m n low high e = grind arith

-- no label of the program marks a proposition from 52 on
abbrev pub MarksEnd : Type 0
MarksEnd = (a : Label) (p : ℕ) → 52 ≤ p → marks a p ≡ Absent
