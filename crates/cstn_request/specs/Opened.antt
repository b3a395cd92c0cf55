-- Documents and texts that were read.
use Rattle.std.specs.Prelude.{◌≡◌, ℕ, ◌≤◌, ◌<◌, ◌^◌, Bool, true, false, [], ◌∷◌, List, length, Option, Result, Ok, codes}
use Rattle.std.specs.List.{All}
use Rattle.cstn_net.specs.Networks.{Network, IsWellFormed, count}
use Rattle.cstn_net.specs.Read.{NetworkParts, the_network}
use Rattle.cstn_text.specs.Limits.{most_text}
use Rattle.cstn_element.specs.declared.errors.DocError.{DocError}
use Rattle.cstn_element.specs.declared.errors.DocError.TheVariants.{NotUtf8, Shape, NameTwice, UnknownNode, Value, LabelText, Contingent, EdgeType, NoDeadline, Net, Lift, Memory}
use Rattle.cstn_element.specs.Results.Refusal.{not_utf8, shape, name_twice, unknown_node, bad_value, label_text, contingent, edge_type, no_deadline}
use Rattle.cstn_element.specs.Results.{Refusal}
use Rattle.cstn_graphml.specs.Answers.{IsDocument}
use Rattle.cstn_graphml.specs.Document.{Parts, document}
use Rattle.cstn_graphml.specs.Networks.{network_of}
use Rattle.cstn_lift.specs.WellFormed.{IsLabelled}
use Rattle.cstn_lift.specs.Lowered.{lowered}
use Rattle.cstn_lift.specs.Read.{LabelledParts, the_labelled}
use Rattle.cstn_graphml.specs.DrawnGraph.{origin_name}
use Rattle.cstn_reply.specs.declared.output.Outcome.TheVariants.{Document, Script}
use Rattle.cstn_request.specs.Limits.{most_document}
use Rattle.cstn_request.specs.declared.reading.NamedNetwork.{NamedNetwork}
use Rattle.cstn_request.specs.declared.reading.NamedLabelled.{NamedLabelled}
use Rattle.cstn_reply.specs.declared.output.Said.{Said as SaidText}
use Rattle.cstn_request.specs.Requests.{AskedFile}
use Rattle.cstn_request.specs.Files.{IsContent, AreThere}
use Rattle.cstn_request.specs.Refusals.{refusal_text, fault_text, label_fault_text}
use Rattle.cstn_reply.specs.Texts.{Said, say}
use Rattle.cstn_request.specs.Documents.{AreEmpty, AreUnlabelled, IsSaidOf, IsSaidPlainly}
use Rattle.cstn_reply.specs.Read.{the_said}

-- what is said of an error; nothing is said for want of memory
abbrev pub IsToldBy : DocError → Said → Type 0
IsToldBy (NotUtf8 at) said = said ≡ say Document (refusal_text (not_utf8 at))
IsToldBy (Shape at) said = said ≡ say Document (refusal_text (shape at))
IsToldBy (NameTwice at) said = said ≡ say Document (refusal_text (name_twice at))
IsToldBy (UnknownNode at) said = said ≡ say Document (refusal_text (unknown_node at))
IsToldBy (Value at) said = said ≡ say Document (refusal_text (bad_value at))
IsToldBy (LabelText at) said = said ≡ say Document (refusal_text (label_text at))
IsToldBy (Contingent at) said = said ≡ say Document (refusal_text (contingent at))
IsToldBy (EdgeType at) said = said ≡ say Document (refusal_text (edge_type at))
IsToldBy NoDeadline said = said ≡ say Document (refusal_text no_deadline)
IsToldBy (Net error names) said = said ≡ say Document (fault_text names error)
IsToldBy (Lift error names) said = said ≡ say Document (label_fault_text names error)
IsToldBy (Memory e) said = ⊥

-- the named file is there, and has bytes of which this holds
pub record HasFile (shelf : Option (List ℕ → Option (List ℕ))) (name : List ℕ) (holds : List ℕ → Type 0) : Type 0 where
  pub bytes : List ℕ
  pub content : IsContent shelf name bytes
  pub there : AreThere shelf (name ∷ [])
  pub is : holds bytes

-- the file that is asked for is there, and has bytes of which this holds with the deadline that is asked for
abbrev pub HasAskedFile : Option (List ℕ → Option (List ℕ)) → AskedFile → (List ℕ → Option ℕ → Type 0) → Type 0
HasAskedFile shelf asked holds = HasFile shelf asked.file (λ bytes. holds bytes asked.deadline)

-- the names are those of the time-points of a network, and the first is the name of the origin
pub record AreDocumentNames (names : List (List ℕ)) (net : Network) : Type 0 where
  pub named : length names ≡ count net
  pub origin : (later : List (List ℕ)) × (names ≡ origin_name ∷ later)

-- the bytes are a document of this labelled network, under these names
pub record IsLabelledOf (bytes : List ℕ) (deadline : Option ℕ) (d : NamedLabelled) : Type 0 where
  pub short : length bytes ≤ most_document
  pub is : IsDocument (document bytes deadline) (the_labelled d.labelled) d.names
  pub names : AreDocumentNames d.names (the_network d.labelled.base)

-- the bytes are a document of a labelled network under these names, and this is the network that it is lowered to
pub record IsLoweredOf (bytes : List ℕ) (deadline : Option ℕ) (d : NamedNetwork) : Type 0 where
  pub labelled : LabelledParts
  pub short : length bytes ≤ most_document
  pub is : IsDocument (document bytes deadline) (the_labelled labelled) d.names
  pub network : the_network d.network ≡ lowered (the_labelled labelled)
  pub well_formed : IsWellFormed (the_network d.network)
  pub names : AreDocumentNames d.names (the_network d.network)

-- the document has these parts, without labels: this is their network, and these are the names of its time-points
pub record IsPlainDocument (parsed : Result Parts Refusal) (network : NetworkParts) (names : List (List ℕ)) : Type 0 where
  pub parts : Parts
  pub told_are : parsed ≡ Ok parts
  pub unlabelled : AreUnlabelled parts
  pub network_is : the_network network ≡ network_of parts
  pub names_are : names ≡ parts.names

-- the bytes are a document of this network, no time-point of which has a label, under these names
pub record IsPlainOf (bytes : List ℕ) (deadline : Option ℕ) (d : NamedNetwork) : Type 0 where
  pub short : length bytes ≤ most_document
  pub is : IsPlainDocument (document bytes deadline) d.network d.names
  pub well_formed : IsWellFormed (the_network d.network)
  pub ids : All (λ c. c.id < 2 ^ 31) d.network.constraints
  pub names : AreDocumentNames d.names (the_network d.network)

-- this is said of the file with these bytes, which is refused, where labels are taken and where they aren't
abbrev pub IsDocumentRefusal : List ℕ → Option ℕ → SaidText → Type 0
IsDocumentRefusal bytes deadline said = IsSaidOf bytes deadline (the_said said) × (said.outcome ≡ Document)

abbrev pub IsPlainRefusal : List ℕ → Option ℕ → SaidText → Type 0
IsPlainRefusal bytes deadline said = IsSaidPlainly bytes deadline (the_said said) × (said.outcome ≡ Document)

-- the bytes are a document of this network, by whether labels are taken; and likewise what is said of it where it is refused
abbrev pub IsNetworkOf : Bool → List ℕ → Option ℕ → NamedNetwork → Type 0
IsNetworkOf true = IsLoweredOf
IsNetworkOf false = IsPlainOf

abbrev pub IsNetworkRefusal : Bool → List ℕ → Option ℕ → SaidText → Type 0
IsNetworkRefusal true = IsDocumentRefusal
IsNetworkRefusal false = IsPlainRefusal

-- the network of a labelled one was taken, since no time-point has a label
pub record IsTakenOf (l : LabelledParts) (names : List (List ℕ)) (d : NamedNetwork) : Type 0 where
  pub empties : AreEmpty (the_labelled l).labels
  pub labelled : IsLabelled (the_labelled l)
  pub network : the_network d.network ≡ lowered (the_labelled l)
  pub well_formed : IsWellFormed (the_network d.network)
  pub same : d.names ≡ names
  pub named : AreDocumentNames d.names (the_network d.network)

-- it is told that a time-point has a label
abbrev pub TellsLabels : LabelledParts → SaidText → Type 0
TellsLabels l said = (AreEmpty (the_labelled l).labels → ⊥) × (the_said said ≡ say Document (codes "document labels"))

-- the bytes are this text, which isn't too long
abbrev pub IsProofText : List ℕ → List ℕ → Type 0
IsProofText text bytes = (bytes ≡ text) × (length bytes ≤ most_text)

-- the bytes are a text that is too long, and that is said
abbrev pub IsLongText : SaidText → List ℕ → Type 0
IsLongText said bytes = (most_text < length bytes) × (the_said said ≡ say Script (codes "script long"))

-- the bytes are the text of a plan in sentences, which isn't too long
abbrev pub IsSentencesOf : List ℕ → List ℕ → Type 0
IsSentencesOf text bytes = (bytes ≡ text) × (length bytes ≤ most_document)

-- the bytes are more than a plan in sentences may have, and that is said
abbrev pub IsLongPlan : SaidText → List ℕ → Type 0
IsLongPlan said bytes = (most_document < length bytes) × (the_said said ≡ say Document (codes "plan long"))
