-- What `plan` tells.
use Rattle.std.specs.Prelude.{◌≡◌, ◌⊎◌, ℕ, List, Option, None, Result, Ok, Err}
use Rattle.cstn_lift.specs.Labelled.{Labelled}
use Rattle.cstn_graphml.specs.Document.{Parts}
use Rattle.cstn_graphml.specs.Networks.{labelled_of, IsFit}
use Rattle.cstn_save.specs.Canonical.{canonical}
use Rattle.cstn_reply.specs.declared.output.Outcome.{Outcome}
use Rattle.cstn_reply.specs.declared.output.Outcome.TheVariants.{Document}
use Rattle.cstn_request.specs.Documents.{HasLabelled}
use Rattle.cstn_sentences.specs.Plans.{plan}
use Rattle.cstn_sentences.specs.Refusals.{PlanRefusal}
use Rattle.cstn_headline.specs.Telling.{Telling, OutcomeTells, good_only}

-- what was read of a plan makes a labelled network, of which this holds under the names of its time-points
abbrev pub HasNetworkOf : Result Parts PlanRefusal → (List (List ℕ) → Labelled → Type 0) → Type 0
HasNetworkOf (Ok parts) holds = IsFit parts × holds parts.names (labelled_of parts)
HasNetworkOf (Err refusal) holds = ⊥

-- the plan has a labelled network, of which this holds under the names of its time-points
abbrev pub PlanHasNetwork : List ℕ → Option ℕ → (List (List ℕ) → Labelled → Type 0) → Type 0
PlanHasNetwork bytes deadline holds = HasNetworkOf (plan bytes deadline) holds

-- the text is a document that is read as this network, under these names
abbrev pub IsDocumentReadAs : List ℕ → List (List ℕ) → Labelled → Type 0
IsDocumentReadAs text names m = HasLabelled text None (λ others other. (others ≡ names) × (other ≡ m))

-- the text is the canonical document of the network
abbrev pub plan_telling : List ℕ → List (List ℕ) → Labelled → Telling
plan_telling text names m = good_only (text ≡ canonical m names)

-- what was read of a plan makes no labelled network, or this is told of the one that it makes
abbrev pub OfPlanned : Result Parts PlanRefusal → Outcome → List ℕ → Type 0
OfPlanned told outcome text =
    ((outcome ≡ Document) × (HasNetworkOf told (λ names m. Unit {0}) → ⊥)) ⊎ HasNetworkOf told (λ names m. OutcomeTells (plan_telling text names m) outcome)

-- the plan is refused, or this is told of its labelled network
abbrev pub OfPlan : List ℕ → Option ℕ → Outcome → List ℕ → Type 0
OfPlan bytes deadline outcome text = OfPlanned (plan bytes deadline) outcome text
