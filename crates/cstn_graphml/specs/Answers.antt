-- What reading a document answers.
use Rattle.std.specs.Prelude.{◌≡◌, ◌≢◌, ◌⊎◌, ℕ, List, Option, Result, Ok, Err}
use Rattle.std.specs.declared.alloc.AllocError.{AllocError}
use Rattle.cstn_net.specs.declared.errors.NetError.{NetError}
use Rattle.cstn_net.specs.declared.errors.NetError.TheVariants.{Memory as NoMemory}
use Rattle.cstn_lift.specs.declared.errors.LiftError.{LiftError}
use Rattle.cstn_lift.specs.declared.errors.LiftError.TheVariants.{Memory as NoLiftMemory}
use Rattle.cstn_lift.specs.Labelled.{Labelled}
use Rattle.cstn_lift.specs.Faults.{IsLowestLiftFault}
use Rattle.cstn_element.specs.declared.errors.DocError.{DocError}
use Rattle.cstn_element.specs.declared.errors.DocError.TheVariants.{NotUtf8, Shape, NameTwice, UnknownNode, Value, LabelText, Contingent, EdgeType, NoDeadline, Net, Lift, Memory}
use Rattle.cstn_element.specs.Results.{Refusal}
use Rattle.cstn_graphml.specs.Document.{Parts, document}
use Rattle.cstn_graphml.specs.Networks.{labelled_of, IsHeld, IsUnfit, IsMislabelled, IsFit}
use Rattle.cstn_element.specs.Reads.{Fails}

-- the document has these parts: this is their labelled network, and these are the names of its time-points
pub record IsDocument (told : Result Parts Refusal) (labelled : Labelled) (names : List (List ℕ)) : Type 0 where
  pub parts : Parts
  pub told_are : told ≡ Ok parts
  pub fit : IsFit parts
  pub labelled_is : labelled ≡ labelled_of parts
  pub names_are : names ≡ parts.names

-- the document has these parts, but they make no network
pub record IsUnfitDocument (told : Result Parts Refusal) (error : NetError) (names : List (List ℕ)) : Type 0 where
  pub parts : Parts
  pub told_are : told ≡ Ok parts
  pub unfit : IsUnfit parts error
  pub names_are : names ≡ parts.names

-- the document has these parts, and they make a network, but no labelled one
pub record IsMislabelledDocument (told : Result Parts Refusal) (error : LiftError) (names : List (List ℕ)) : Type 0 where
  pub parts : Parts
  pub told_are : told ≡ Ok parts
  pub mislabelled : IsMislabelled parts error
  pub names_are : names ≡ parts.names

-- the document is refused by the grammar, by the network or by its labels, with exactly this refusal; want of memory may come at any point
abbrev pub RefusesDocument : Result Parts Refusal → DocError → Type 0
RefusesDocument told (Net error names) = IsUnfitDocument told error names
RefusesDocument told (NotUtf8 at) = Fails (NotUtf8 at) told
RefusesDocument told (Shape at) = Fails (Shape at) told
RefusesDocument told (NameTwice at) = Fails (NameTwice at) told
RefusesDocument told (UnknownNode at) = Fails (UnknownNode at) told
RefusesDocument told (Value at) = Fails (Value at) told
RefusesDocument told (LabelText at) = Fails (LabelText at) told
RefusesDocument told (Contingent at) = Fails (Contingent at) told
RefusesDocument told (EdgeType at) = Fails (EdgeType at) told
RefusesDocument told NoDeadline = Fails NoDeadline told
RefusesDocument told (Lift error names) = IsMislabelledDocument told error names
RefusesDocument told (Memory e) = Unit {0}

-- a labelled network with the names of its time-points, or a refusal
abbrev pub DocumentAnswer : Type 0
DocumentAnswer = Result (Labelled × List (List ℕ)) DocError

-- The answer to a document: its labelled network with the names, or its refusal. Want of memory is no answer.
abbrev pub IsAnswerTo : Result Parts Refusal → DocumentAnswer → Type 0
IsAnswerTo told (Ok read) = IsDocument told read.0 read.1
IsAnswerTo told (Err error) = RefusesDocument told error × ((e : AllocError) → error ≢ Memory e)

-- the answer to the document of these bytes, with the deadline handed in or none
abbrev pub IsAnswer : List ℕ → Option ℕ → DocumentAnswer → Type 0
IsAnswer bytes deadline answer = IsAnswerTo (document bytes deadline) answer

-- where the document says something, values of the program can hold it
abbrev pub CanBeHeld : List ℕ → Option ℕ → Type 0
CanBeHeld bytes deadline = (parts : Parts) → document bytes deadline ≡ Ok parts → IsHeld parts

-- the refusal of a document for what the builder refused: want of memory by itself, any other fault with the names
abbrev pub IsNetTold : NetError → List (List ℕ) → DocError → Type 0
IsNetTold fault names error =
    ((e : AllocError) × (fault ≡ NoMemory e) × (error ≡ Memory e)) ⊎ (((e : AllocError) → fault ≢ NoMemory e) × (error ≡ Net fault names))

-- a document is refused for its labels: with their lowest fault and the names, or for want of memory
abbrev pub IsLabelRefusal : Labelled → List (List ℕ) → DocError → Type 0
IsLabelRefusal m names (Lift error others) = IsLowestLiftFault m error × (others ≡ names)
IsLabelRefusal m names (Memory e) = Unit {0}
IsLabelRefusal m names error = ⊥

-- the refusal of a document for labels that were refused: want of memory by itself, any other fault with the names
abbrev pub IsLiftTold : LiftError → List (List ℕ) → DocError → Type 0
IsLiftTold fault names error =
    ((e : AllocError) × (fault ≡ NoLiftMemory e) × (error ≡ Memory e)) ⊎ (((e : AllocError) → fault ≢ NoLiftMemory e) × (error ≡ Lift fault names))
