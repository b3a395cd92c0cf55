-- Which constraints of a labelled network a no on its lowered network needs.
use Rattle.std.specs.Prelude.{ℕ, ◌≡◌, ◌<◌, Bool, false, List, length, get_or, map, Some}
use Rattle.cstn_net.specs.Networks.{Network}
use Rattle.cstn_check.specs.Givers.{is_of, with_some}
use Rattle.cstn_check.specs.Needs.{said}
use Rattle.cstn_lift.specs.Labelled.{Labelled}
use Rattle.cstn_lift.specs.Lowered.{full_constraints}

-- the ids of the constraints that the lowered network has of those of a labelled network, in order
abbrev pub sources : Labelled → List ℕ
sources m = map (λ c. c.id) (full_constraints m)

-- the sources at these numbers are among those that are found
abbrev pub HasSources : List ℕ → List ℕ → List ℕ → Type 0
HasSources sources found numbers = (k : ℕ) → k < length sources → is_of found (get_or sources k 0) ≡ false → is_of numbers k ≡ false

-- a check says no of a network without any of those of its numbered constraints whose sources aren't needed
abbrev pub NeedsNoOther : ℕ → Network → List ℕ → List ℕ → Type 0
NeedsNoOther cap net sources needed =
    (test : ℕ → Bool) → ((k : ℕ) → test k ≡ false → (k < length sources) × (is_of needed (get_or sources k 0) ≡ false)) →
    said cap (with_some net test) ≡ Some false
