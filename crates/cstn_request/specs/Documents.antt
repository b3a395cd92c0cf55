-- Documents, and the networks that they hold.
use Rattle.std.specs.Prelude.{◌≡◌, ◌<◌, ◌≤◌, ◌⊎◌, ℕ, List, length, Option, None, Some, IsSomeAnd, Result, Ok, Err, codes}
use Rattle.cstn_label.specs.Labels.{Label, empty}
use Rattle.cstn_net.specs.Networks.{Network}
use Rattle.cstn_net.specs.declared.errors.NetError.{NetError}
use Rattle.cstn_lift.specs.Labelled.{Labelled, label_in}
use Rattle.cstn_lift.specs.declared.errors.LiftError.{LiftError}
use Rattle.cstn_element.specs.Results.{Refusal}
use Rattle.cstn_graphml.specs.Document.{Parts, document}
use Rattle.cstn_graphml.specs.Networks.{network_of, labelled_of, IsFit, IsUnfit, IsMislabelled}
use Rattle.cstn_reply.specs.Texts.{Said, say}
use Rattle.cstn_reply.specs.declared.output.Outcome.TheVariants.{Document}
use Rattle.cstn_request.specs.Limits.{most_document}
use Rattle.cstn_request.specs.Refusals.{refusal_text, fault_text, label_fault_text}

-- each of these labels is empty
abbrev pub AreEmpty : List Label → Type 0
AreEmpty labels = (x : ℕ) → x < length labels → label_in labels x ≡ empty

-- the parts of a document make a labelled network, no time-point of which has a label
abbrev pub AreUnlabelled : Parts → Type 0
AreUnlabelled parts = IsFit parts × AreEmpty parts.labels

-- the parts of a document, where it isn't refused by the grammar
abbrev pub parts_read : Result Parts Refusal → Option Parts
parts_read (Ok parts) = Some parts
parts_read (Err refusal) = None

-- the document of the bytes has a labelled network, of which this holds under the names of its time-points
abbrev pub HasLabelled : List ℕ → Option ℕ → (List (List ℕ) → Labelled → Type 0) → Type 0
HasLabelled bytes deadline holds = IsSomeAnd (parts_read (document bytes deadline)) (λ parts. IsFit parts × holds parts.names (labelled_of parts))

-- the document of the bytes has a network without labels on time-points, of which this holds under the names of its time-points
abbrev pub HasNetwork : List ℕ → Option ℕ → (List (List ℕ) → Network → Type 0) → Type 0
HasNetwork bytes deadline holds = IsSomeAnd (parts_read (document bytes deadline)) (λ parts. AreUnlabelled parts × holds parts.names (network_of parts))

-- the bytes are no document: they are too many, or have no labelled network
abbrev pub IsNoDocument : List ℕ → Option ℕ → Type 0
IsNoDocument bytes deadline = (most_document < length bytes) ⊎ (HasLabelled bytes deadline (λ names m. Unit {0}) → ⊥)

-- the document of the bytes is refused where no labels are taken: it is too long, or has no network without labels
abbrev pub IsRefused : List ℕ → Option ℕ → Type 0
IsRefused bytes deadline = (most_document < length bytes) ⊎ (HasNetwork bytes deadline (λ names net. Unit {0}) → ⊥)

-- this is said of what was read as a document, and is refused: by the grammar, or by the lowest fault of the network that the
-- parts make, or by that of its labels
abbrev pub IsRefusalOfParts : Result Parts Refusal → Said → Type 0
IsRefusalOfParts (Err refusal) said = said ≡ say Document (refusal_text refusal)
IsRefusalOfParts (Ok parts) said =
    ((error : NetError) × IsUnfit parts error × (said ≡ say Document (fault_text parts.names error)))
    ⊎ ((error : LiftError) × IsMislabelled parts error × (said ≡ say Document (label_fault_text parts.names error)))

-- this is said of the file with these bytes, which are too many, or whose document is refused
abbrev pub IsSaidOf : List ℕ → Option ℕ → Said → Type 0
IsSaidOf bytes deadline said =
    ((most_document < length bytes) × (said ≡ say Document (codes "document long")))
    ⊎ ((length bytes ≤ most_document) × IsRefusalOfParts (document bytes deadline) said)

-- this is said of what was read as a document, where a time-point has a label
abbrev pub IsLabelsTold : Result Parts Refusal → Said → Type 0
IsLabelsTold (Err refusal) said = ⊥
IsLabelsTold (Ok parts) said = IsFit parts × (AreEmpty parts.labels → ⊥) × (said ≡ say Document (codes "document labels"))

-- likewise where labels are refused: this is said of the file, or that a time-point has a label
abbrev pub IsSaidPlainly : List ℕ → Option ℕ → Said → Type 0
IsSaidPlainly bytes deadline said = IsSaidOf bytes deadline said ⊎ ((length bytes ≤ most_document) × IsLabelsTold (document bytes deadline) said)
