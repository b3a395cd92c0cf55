-- What a request says, and what is written for it, also after a fault.
use Rattle.std.specs.Prelude.{◌≡◌, ◌⊎◌, ℕ, Bool, true, false, List, Option, None, Some}
use Rattle.cstn_reply.specs.Texts.{Said}
use Rattle.cstn_reply.specs.Written.{LiveState, IsText as IsTextOf, Ends as EndsBy}
use Rattle.cstn_reply.specs.Sessions.{Turn, session_says}
use Rattle.cstn_reply.specs.Reached.{session_heard, session_stops}
use Rattle.cstn_reply.specs.declared.status.Status.{Status}

-- What a request says: the whole output, where the live source has these bytes; what is said before a fault of the live source that
-- has given these bytes, if more is read then; what is said before an answer for which memory is refused, where the live source has
-- these bytes; and whether it may come to a session over the lines of the live source.
pub record Plan : Type 1 where
  pub output : List ℕ → Said → Type 0
  pub heard : List ℕ → Option (List ℕ)
  pub stops : Option (List ℕ) → List ℕ → Type 0
  pub talks : Type 0

-- a text of which this holds, and no more
abbrev pub says_such : (Said → Type 0) → Plan
says_such holds = record { output = λ live said. holds said; heard = λ taken. None; stops = λ source said. ⊥; talks = ⊥ }

-- this text, and no more
abbrev pub says : Said → Plan
says text = says_such (λ said. said ≡ text)

-- an opening, and then a session from a state on, by whether each line has to have its LF, and by which lines' answers may want memory
abbrev pub talks_by : {S : Type 0} → (ends : Bool) → (wants : List ℕ → Bool) → (S → List ℕ → Turn S) → (S → Said) → List ℕ → S → Plan
talks_by ends wants turn ending opening state = record {
  output = session_says ends turn ending opening state;
  heard = session_heard turn opening state;
  stops = session_stops ends turn wants opening state;
  talks = Unit {0};
}

-- a session of which no answer wants memory
abbrev pub session : {S : Type 0} → (S → List ℕ → Turn S) → (S → Said) → List ℕ → S → Plan
session turn ending opening state = talks_by false (λ line. false) turn ending opening state

-- a session in which the answers to these lines may want memory
abbrev pub wanting_session : {S : Type 0} → (wants : List ℕ → Bool) → (S → List ℕ → Turn S) → (S → Said) → List ℕ → S → Plan
wanting_session wants turn ending opening state = talks_by false wants turn ending opening state

-- a session in which each line has to have its LF, and each answer may want memory
abbrev pub ended_session : {S : Type 0} → (S → List ℕ → Turn S) → (S → Said) → List ℕ → S → Plan
ended_session turn ending opening state = talks_by true (λ line. true) turn ending opening state

-- one plan or the other
abbrev pub either_plan : Bool → Plan → Plan → Plan
either_plan true plan other = plan
either_plan false plan other = other

-- this text, if there is one, or else what the plan says
abbrev pub unless_said : Option Said → Plan → Plan
unless_said None plan = plan
unless_said (Some said) plan = says said

-- what the plan says where this holds, and else a text by which something is refused
abbrev pub where_fit : (fits : Type 0) → (refusal : Said → Type 0) → Plan → Plan
where_fit fits refusal plan = record {
  output = λ live said. (fits × plan.output live said) ⊎ refusal said;
  heard = plan.heard;
  stops = λ source said. fits × plan.stops source said;
  talks = fits × plan.talks;
}

-- the live source is as it was before, unless the plan may come to a session
abbrev pub Untouched : {S : Type 0} → Plan → S → S → Type 0
Untouched plan before after = plan.talks ⊎ (after ≡ before)

-- the plan says whatever the other plan says, and where that one may come to a session, it comes to the same
pub record ComesTo (plan other : Plan) : Type 0 where
  pub output : (live : List ℕ) (said : Said) → other.output live said → plan.output live said
  pub talks : other.talks → plan.talks
  pub fault : other.talks → (taken : List ℕ) → other.heard taken ≡ plan.heard taken
  pub stops : (source : Option (List ℕ)) (said : List ℕ) → other.stops source said → plan.stops source said

-- what is written for a plan where each write is accepted
abbrev pub IsPlanText : Plan → LiveState → LiveState → Status → List ℕ → Type 0
IsPlanText plan before after status text = IsTextOf plan.output plan.heard plan.stops before after status text

-- a call ends with this status: a text of the plan was written, whole or in part
abbrev pub PlanEnds : Plan → LiveState → LiveState → Option (List ℕ) → Option (List ℕ) → Status → Type 0
PlanEnds plan before after old new result = EndsBy plan.output plan.heard plan.stops before after old new result
