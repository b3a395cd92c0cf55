-- What reading a plan answers: its labelled network with the names, or its refusal.
use Rattle.std.specs.Prelude.{◌≡◌, ◌≢◌, ◌⊎◌, ℕ, List, Option, Result, Ok, Err}
use Rattle.std.specs.declared.alloc.AllocError.{AllocError}
use Rattle.cstn_net.specs.declared.errors.NetError.{NetError}
use Rattle.cstn_net.specs.declared.errors.NetError.TheVariants.{Memory as NoMemory}
use Rattle.cstn_element.specs.declared.errors.DocError.{DocError}
use Rattle.cstn_element.specs.declared.errors.DocError.TheVariants.{Lift as DocLift, Memory as DocMemory}
use Rattle.cstn_lift.specs.declared.errors.LiftError.{LiftError}
use Rattle.cstn_lift.specs.Labelled.{Labelled}
use Rattle.cstn_graphml.specs.Document.{Parts}
use Rattle.cstn_graphml.specs.Networks.{labelled_of, IsUnfit, IsMislabelled, IsFit}
use Rattle.cstn_sentences.specs.declared.errors.PlanError.{PlanError}
use Rattle.cstn_sentences.specs.declared.errors.PlanError.TheVariants.{Long, Wrong, Range, Twice, NoName, NoLetter, NoDeadline, Net, Lift, Memory}
use Rattle.cstn_sentences.specs.Refusals.{PlanRefusal}
use Rattle.cstn_sentences.specs.Answers.{FailsPlan}
use Rattle.cstn_sentences.specs.Declarations.{Declared}
use Rattle.cstn_sentences.specs.Meaning.{Meaning}
use Rattle.cstn_sentences.specs.Drawn.{IsKeptOfWhole}
use Rattle.cstn_sentences.specs.Plans.{plan, plan_parts}

-- the plan has these parts: this is their labelled network, and these are the names of its time-points
pub record IsFitPlan (told : Result Parts PlanRefusal) (labelled : Labelled) (names : List (List ℕ)) : Type 0 where
  pub parts : Parts
  pub told_are : told ≡ Ok parts
  pub fit : IsFit parts
  pub labelled_is : labelled ≡ labelled_of parts
  pub names_are : names ≡ parts.names

-- the plan has these parts, but they make no network
pub record IsUnfitPlan (told : Result Parts PlanRefusal) (error : NetError) (names : List (List ℕ)) : Type 0 where
  pub parts : Parts
  pub told_are : told ≡ Ok parts
  pub unfit : IsUnfit parts error
  pub names_are : names ≡ parts.names

-- the plan has these parts, and they make a network, but no labelled one
pub record IsMislabelledPlan (told : Result Parts PlanRefusal) (error : LiftError) (names : List (List ℕ)) : Type 0 where
  pub parts : Parts
  pub told_are : told ≡ Ok parts
  pub mislabelled : IsMislabelled parts error
  pub names_are : names ≡ parts.names

-- the plan is refused by its lines, by the network or by its labels, with exactly this refusal; want of memory may come at any point
abbrev pub RefusesPlan : Result Parts PlanRefusal → PlanError → Type 0
RefusesPlan told Long = FailsPlan Long told
RefusesPlan told (Wrong line word) = FailsPlan (Wrong line word) told
RefusesPlan told (Range line) = FailsPlan (Range line) told
RefusesPlan told (Twice line text) = FailsPlan (Twice line text) told
RefusesPlan told (NoName line name) = FailsPlan (NoName line name) told
RefusesPlan told (NoLetter line word) = FailsPlan (NoLetter line word) told
RefusesPlan told NoDeadline = FailsPlan NoDeadline told
RefusesPlan told (Net error names) = IsUnfitPlan told error names
RefusesPlan told (Lift error names) = IsMislabelledPlan told error names
RefusesPlan told (Memory e) = Unit {0}

-- a labelled network with the names of its time-points, or a refusal
abbrev pub PlanAnswer : Type 0
PlanAnswer = Result (Labelled × List (List ℕ)) PlanError

-- The answer to a text, with the deadline handed in or none. Want of memory is no answer.
abbrev pub IsPlanAnswerTo : Result Parts PlanRefusal → PlanAnswer → Type 0
IsPlanAnswerTo told (Ok read) = IsFitPlan told read.0 read.1
IsPlanAnswerTo told (Err error) = RefusesPlan told error × ((e : AllocError) → error ≢ Memory e)

abbrev pub IsPlanAnswer : List ℕ → Option ℕ → PlanAnswer → Type 0
IsPlanAnswer text deadline answer = IsPlanAnswerTo (plan text deadline) answer

-- ---- the parts of an answer

-- the network and the names are those of each plan of these lines of which this is kept
abbrev pub IsFitKept : ℕ → Declared → Meaning → Labelled → List (List ℕ) → Type 0
IsFitKept deadline d m labelled names = (whole : Meaning) → IsKeptOfWhole d m whole → IsFitPlan (Ok (plan_parts deadline d whole)) labelled names

-- each plan of these lines of which this is kept is refused so
abbrev pub RefusesKept : ℕ → Declared → Meaning → PlanError → Type 0
RefusesKept deadline d m error = (whole : Meaning) → IsKeptOfWhole d m whole → RefusesPlan (Ok (plan_parts deadline d whole)) error

-- the refusal of a plan for what the builder refused: want of memory by itself, any other fault with the names
abbrev pub IsPlanNetTold : NetError → List (List ℕ) → PlanError → Type 0
IsPlanNetTold fault names error =
    ((e : AllocError) × (fault ≡ NoMemory e) × (error ≡ Memory e)) ⊎ (((e : AllocError) → fault ≢ NoMemory e) × (error ≡ Net fault names))

-- labels are refused for a fault of theirs, or for want of memory
abbrev pub IsOfLabels : DocError → Type 0
IsOfLabels (DocLift error names) = Unit {0}
IsOfLabels (DocMemory e) = Unit {0}
IsOfLabels error = ⊥

-- the refusal of a plan for labels that were refused
abbrev pub IsLabelTold : DocError → PlanError → Type 0
IsLabelTold (DocLift fault names) error = error ≡ Lift fault names
IsLabelTold (DocMemory e) error = error ≡ Memory e
IsLabelTold fault error = ⊥
