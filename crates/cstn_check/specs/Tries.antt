-- How many rules growth tries.
use Rattle.std.specs.Prelude.{ℕ, zero, suc, ◌≡◌, ◌≤◌, ◌+◌, ◌*◌, List, Option, Some, None, length}
use Rattle.cstn_net.specs.Networks.{Network}
use Rattle.cstn_label.specs.Bounds.{Bound}
use Rattle.cstn_rules.specs.Derivations.{Entry}
use Rattle.cstn_check.specs.Growth.{conclusion, log_of}
use Rattle.cstn_check.specs.Growth.Instance.{wait_at}
use Rattle.cstn_check.specs.declared.verdicts.Verdict.{Verdict}
use Rattle.cstn_check.specs.declared.verdicts.Verdict.TheVariants.{Full}

-- the sum of the first n values
abbrev pub total : (ℕ → ℕ) → ℕ → ℕ
total f zero = 0
total f (suc n) = total f n + f n

-- how many bounds there are: one or none
abbrev pub how_many : Option Bound → ℕ
how_many None = 0
how_many (Some b) = 1

-- 1 where wait has a conclusion from the entry at i, as the one at the observer, and the entry at j, and else 0
abbrev pub concludes : Network → List Entry → ℕ → ℕ → ℕ
concludes net list i j = how_many (conclusion net list (wait_at i j))

-- how many ordered pairs of entries there are of which wait has a conclusion
abbrev pub concluding_pairs : Network → List Entry → ℕ
concluding_pairs net list = total (λ i. total (λ j. concludes net list i j) (length list)) (length list)

-- how many rules are tried at most until the list is grown: each constraint with each entry, and the waits that have a conclusion
abbrev pub most_tried : Network → List Entry → ℕ
most_tried net list = length net.constraints * length list + concluding_pairs net list

-- how many of the waits of entry j with entry i, either way round, have a conclusion
abbrev pub concludes_with : Network → List Entry → ℕ → ℕ → ℕ
concludes_with net list j i = concludes net list i j + concludes net list j i

-- how many of the waits of entry j with the entries up to it, in both orders, have a conclusion
abbrev pub concludes_upto : Network → List Entry → ℕ → ℕ
concludes_upto net list j = total (concludes_with net list j) (suc j)

-- how many rules a check has tried: none before its verdict, and at most `most_tried` after yes or no
abbrev pub HasTried : Network → Option Verdict → ℕ → Type 0
HasTried net None tries = tries ≡ 0
HasTried net (Some v) tries = (v ≡ Full → ⊥) → tries ≤ most_tried net (log_of net)
