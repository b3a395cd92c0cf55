-- What a check of a network in memory tells, in the words of strategies.
use Rattle.std.specs.Prelude.{ℕ, ◌≡◌, ◌<◌, ◌≤◌, ◌⊎◌, ◌+◌, ◌*◌, ◌^◌, List, [], ◌∷◌, length, Option, Some, is_some, codes}
use Rattle.std.specs.List.{Contains, filter}
use Rattle.cstn_net.specs.Limits.{most_constraints, most_load}
use Rattle.cstn_net.specs.Networks.{Network, count}
use Rattle.cstn_lift.specs.Labelled.{Labelled}
use Rattle.cstn_lift.specs.Lowered.{lowered}
use Rattle.cstn_lift.specs.Strategies.{IsLabelledConsistent}
use Rattle.cstn_lift.specs.WellFormed.{IsLabelled}
use Rattle.cstn_text.specs.Numbers.{printed_number}
use Rattle.cstn_save.specs.Canonical.{canonical}
use Rattle.cstn_save.specs.Names.{AreNamesOf}
use Rattle.cstn_request.specs.Limits.{usual_cap, most_document}
use Rattle.cstn_reply.specs.declared.status.Status.{Status}
use Rattle.cstn_reply.specs.declared.status.Status.TheVariants.{Good, Bad, Full, ReadFault, WriteFault, Memory}

-- the words ask for a check of a file whose log may have this many bounds: `check FILE`, or `check FILE --cap CAP`
abbrev pub AskCheck : List (List ℕ) → List ℕ → ℕ → Type 0
AskCheck words file cap =
    ((words ≡ codes "check" ∷ file ∷ []) × (cap ≡ usual_cap))
    ⊎ ((words ≡ codes "check" ∷ file ∷ codes "--cap" ∷ printed_number cap ∷ []) × (1 ≤ cap) × (cap ≤ most_load))

-- The labels of time-points are in order, the constraints that stand for them are within the limit too, and these are names of
-- the time-points.
pub record IsNamedNetwork (m : Labelled) (names : List (List ℕ)) : Type 0 where
  pub labelled : IsLabelled m
  pub few : length (lowered m).constraints ≤ most_constraints
  pub named : AreNamesOf m.base names

-- it is told what files there are, and this one has the canonical document of the network under these names
pub record HasDocument (shelf : Option (List ℕ → Option (List ℕ))) (file : List ℕ) (m : Labelled) (names : List (List ℕ)) : Type 0 where
  pub files : List ℕ → Option (List ℕ)
  pub told_is : shelf ≡ Some files
  pub content : files file ≡ Some (canonical m names)
  pub short : length (canonical m names) ≤ most_document

-- n * 4^k * (H + 2): n time-points, k propositions that are observed, H the deadline
abbrev pub most_bounds : Network → ℕ
most_bounds net = count net * (net.deadline + 2) * 4 ^ length (filter is_some net.observes)

-- what the status of a check of the network tells
pub record IsNetworkDecided (m : Labelled) (cap : ℕ) (status : Status) : Type 0 where
  -- after yes there is a dynamic strategy
  pub yes : status ≡ Good → IsLabelledConsistent m
  -- after no there is none
  pub no : status ≡ Bad → IsLabelledConsistent m → ⊥
  -- the cap is below the most bounds that there can be
  pub full : status ≡ Full → cap < most_bounds m.base
  -- else the status is that of a fault, or of want of memory
  pub ends : Contains (Good ∷ Bad ∷ Full ∷ ReadFault ∷ WriteFault ∷ Memory ∷ []) status
