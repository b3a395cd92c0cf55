-- Laws of one mark.
use Rattle.std.proofs.Common.{◌≡◌, ◌⊎◌, inl, inr, Bool, true, false, arith, refl}
use Rattle.cstn_label.specs.declared.marks.Mark.{Mark}
use Rattle.cstn_label.specs.declared.marks.Mark.TheVariants.{Absent, Yes, No, Unknown}
use Rattle.cstn_label.specs.Labels.{joined_mark, IsMarkPlain, IsMarkWithin, MarkFits}
use Rattle.cstn_label.specs.Marks.{is_marked}
use Rattle.cstn_label.specs.Tests.{fits}

-- the value that a mark asks for, or else v
abbrev pub value_of : Mark → Bool → Bool
value_of Absent v = v
value_of Yes v = true
value_of No v = false
value_of Unknown v = v

pub mark_made : (m : Mark) (v : Bool) → IsMarkPlain m → MarkFits (value_of m v) m
mark_made m v h = grind arith

pub value_kept : (m : Mark) (v : Bool) → MarkFits v m → value_of m v ≡ v
value_kept m v h = grind arith

pub mark_fits_within : (v : Bool) (m n : Mark) → IsMarkWithin m n → MarkFits v n → MarkFits v m
mark_fits_within v m n h k = grind arith

pub mark_fits_join : (v : Bool) (m n : Mark) → MarkFits v m → MarkFits v n → MarkFits v (joined_mark m n)
mark_fits_join v m n h k = grind arith

pub mark_fits_left : (v : Bool) (m n : Mark) → MarkFits v (joined_mark m n) → MarkFits v m
mark_fits_left v m n h = grind arith

pub mark_fits_right : (v : Bool) (m n : Mark) → MarkFits v (joined_mark m n) → MarkFits v n
mark_fits_right v m n h = grind arith

pub mark_fits_plain : (v : Bool) (m : Mark) → MarkFits v m → IsMarkPlain m
mark_fits_plain v m h = grind arith

pub mark_plain_left : (m n : Mark) → IsMarkPlain (joined_mark m n) → IsMarkPlain m
mark_plain_left m n h = grind arith

pub mark_plain_right : (m n : Mark) → IsMarkPlain (joined_mark m n) → IsMarkPlain n
mark_plain_right m n h = grind arith

pub mark_plain_within : (m n : Mark) → IsMarkWithin m n → IsMarkPlain n → IsMarkPlain m
mark_plain_within m n h k = grind arith

pub mark_within_absent : (m n : Mark) → IsMarkWithin m n → n ≡ Absent → m ≡ Absent
mark_within_absent m n h e = grind arith

pub mark_within_same : (m n : Mark) → IsMarkWithin m n → IsMarkWithin n m → m ≡ n
mark_within_same m n h k = grind arith

pub mark_within_through : (m n o : Mark) → IsMarkWithin m n → IsMarkWithin n o → IsMarkWithin m o
mark_within_through m n o h k = grind arith

pub mark_within_joined : (m n o : Mark) → IsMarkWithin m o → IsMarkWithin n o → IsMarkWithin (joined_mark m n) o
mark_within_joined m n o h k = grind arith

pub mark_joined_either : (m n : Mark) → joined_mark m n ≡ joined_mark n m
mark_joined_either m n = grind arith

pub mark_joined_three : (m n o : Mark) → joined_mark (joined_mark m n) o ≡ joined_mark m (joined_mark n o)
mark_joined_three m n o = grind arith

pub mark_joined_itself : (m : Mark) → joined_mark m m ≡ m
mark_joined_itself m = grind arith

pub mark_joined_absent : (m : Mark) → joined_mark m Absent ≡ m
mark_joined_absent m = grind arith

pub absent_from_joined_left : (m n : Mark) → joined_mark m n ≡ Absent → m ≡ Absent
absent_from_joined_left m n e = grind arith

pub absent_from_joined_right : (m n : Mark) → joined_mark m n ≡ Absent → n ≡ Absent
absent_from_joined_right m n e = grind arith

pub absent_or_not : (m : Mark) → (m ≡ Absent) ⊎ (m ≡ Absent → ⊥)
absent_or_not Absent = inl refl
absent_or_not Yes = inr (λ e. cc)
absent_or_not No = inr (λ e. cc)
absent_or_not Unknown = inr (λ e. cc)

pub fits_absent : (v : Bool) (m : Mark) → m ≡ Absent → MarkFits v m
fits_absent v m e = rw e tt

pub absent_within : (m n : Mark) → m ≡ Absent → IsMarkWithin m n
absent_within m n e = rw e tt

-- ---- what the tests on marks tell

pub marked_true : (m : Mark) → (m ≡ Absent → ⊥) → is_marked m ≡ true
marked_true m named = grind arith

pub true_marked : (m : Mark) → is_marked m ≡ true → m ≡ Absent → ⊥
true_marked m e is = grind arith

pub fits_true : (v : Bool) (m : Mark) → fits v m ≡ true → MarkFits v m
fits_true v m h = grind arith

pub true_fits : (v : Bool) (m : Mark) → MarkFits v m → fits v m ≡ true
true_fits v m h = grind arith
