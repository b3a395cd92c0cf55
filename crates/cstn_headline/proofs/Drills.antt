-- The counts of a drill are right.
use Rattle.std.proofs.Common.{◌≡◌, ℕ, zero, suc, ◌+◌, Bool, true, false, refl, subst, arith}
use Rattle.std.specs.Prelude.{if◌then◌else◌}
use Rattle.cstn_top.specs.commands.Drill.{small, is_unrefuted, unrefuted}
use Rattle.cstn_headline.specs.commands.Drill.{AreConsistent, none, one_more, no_more}
use Rattle.cstn_top.proofs.Drills.{small_good, consistent_true, true_consistent}

-- the counts of the small networks are right
counts_more : (number n : ℕ) (b : Bool) → is_unrefuted (small number n) ≡ b → AreConsistent number n (unrefuted number n) → AreConsistent number (suc n) (unrefuted number n + (if b then 1 else 0))
counts_more number n true is before = one_more n (unrefuted number n) before (true_consistent (small number n) (small_good number n) is)
counts_more number n false is before =
    let so : unrefuted number n ≡ unrefuted number n + 0 = omega arith in
    subst (AreConsistent number (suc n)) so
    (no_more n (unrefuted number n) before (λ consistent. absurd (let yes : is_unrefuted (small number n) ≡ true = consistent_true (small number n) (small_good number n) consistent in cc)))

pub counts_right : (number n : ℕ) → AreConsistent number n (unrefuted number n)
counts_right number zero = none
counts_right number (suc n) = counts_more number n (is_unrefuted (small number n)) refl (counts_right number n)
