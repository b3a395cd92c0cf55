-- A session with a further time-point.
use Rattle.std.specs.Prelude.{ℕ, ◌≡◌, nat_le, Option, None, Some, if◌then◌else◌}
use Rattle.cstn_net.specs.Limits.{most_edits, most_time_points}
use Rattle.cstn_net.specs.Networks.{count}
use Rattle.cstn_lift.specs.Labelled.{Labelled}
use Rattle.cstn_lift.specs.Read.{the_labelled}
use Rattle.cstn_check.specs.declared.verdicts.Verdict.{Verdict}
use Rattle.cstn_history.specs.declared.errors.RestError.{RestError}
use Rattle.cstn_history.specs.declared.errors.RestError.TheVariants.{TooManyConstraints as AreTooMany, Memory as OutOfMemory}
use Rattle.cstn_history.specs.Read.{the_history}
use Rattle.cstn_history.specs.Steps.{stepped}
use Rattle.cstn_follow.specs.declared.errors.StepError.{StepError}
use Rattle.cstn_follow.specs.declared.errors.StepError.TheVariants.{EditLimit, NoPlace, TooManyConstraints, Memory}
use Rattle.cstn_follow.specs.Following.{verdict_left}
use Rattle.cstn_follow.specs.Sessions.{SessionParts}

-- the labelled network of a session, with a further time-point
abbrev pub stepped_now : SessionParts → Labelled
stepped_now s = stepped (the_labelled s.network)

-- why no time-point is put in, by why there is no network of what would be left
abbrev pub unstepped : RestError → StepError
unstepped AreTooMany = TooManyConstraints
unstepped (OutOfMemory error) = Memory error

-- the verdict on what is left then, where there are no more constraints than there may be
abbrev pub verdict_stepped : SessionParts → Option Verdict
verdict_stepped s = verdict_left (stepped_now s) (the_history s.history) s.fresh s.cap

-- why there is no room for a further time-point, if there is none: 1,000,000 edits were accepted, or there are 1,024 time-points
abbrev pub no_room : ℕ → ℕ → Option StepError
no_room edits points = if nat_le most_edits edits then Some EditLimit else if nat_le most_time_points points then Some NoPlace else None

abbrev pub no_room_now : SessionParts → Option StepError
no_room_now s = no_room s.edits (count (the_labelled s.network).base)

-- the session refuses a further time-point for this
abbrev pub IsStepRefusal : SessionParts → StepError → Type 0
IsStepRefusal s EditLimit = no_room_now s ≡ Some EditLimit
IsStepRefusal s NoPlace = no_room_now s ≡ Some NoPlace
IsStepRefusal s TooManyConstraints = (no_room_now s ≡ None) × (verdict_stepped s ≡ None)
IsStepRefusal s (Memory error) = Unit {0}
