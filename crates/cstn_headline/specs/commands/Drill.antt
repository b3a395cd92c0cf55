-- What `drill` tells.
use Rattle.std.specs.Prelude.{◌≡◌, ℕ, suc, ◌+◌, List}
use Rattle.cstn_net.specs.Strategies.{IsConsistent}
use Rattle.cstn_top.specs.commands.Drill.{small, unrefuted, drilled}
use Rattle.cstn_headline.specs.Telling.{Telling, good_only}

-- `AreConsistent number n k`: of the first n small networks from the number on, k are consistent.
pub data AreConsistent (number : ℕ) : ℕ → ℕ → Type 0 where
  none : AreConsistent number 0 0
  one_more : (n k : ℕ) → AreConsistent number n k → IsConsistent (small number n) → AreConsistent number (suc n) (k + 1)
  no_more : (n k : ℕ) → AreConsistent number n k → (IsConsistent (small number n) → ⊥) → AreConsistent number (suc n) k

-- as many small networks are consistent as are counted, and the text is of these counts and of the large network
abbrev pub drill_telling : ℕ → List ℕ → Telling
drill_telling number text = good_only (AreConsistent number 64 (unrefuted number 64) × (text ≡ (drilled number).text))
