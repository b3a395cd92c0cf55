-- What is said of facts and edits that a session was told.
use Rattle.std.specs.Prelude.{ℕ, ◌≡◌, List, Result, Ok, Err}
use Rattle.cstn_check.specs.declared.verdicts.Verdict.{Verdict}
use Rattle.cstn_history.specs.declared.errors.RestError.{RestError}
use Rattle.cstn_history.specs.declared.errors.RestError.TheVariants.{TooManyConstraints as AreTooMany, Memory as OutOfMemory}
use Rattle.cstn_history.specs.Read.{the_fact_refusal}
use Rattle.cstn_change.specs.ChangeLines.{refused_change_text}
use Rattle.cstn_change.specs.Read.{the_change_refusal}
use Rattle.cstn_reply.specs.Texts.{line}
use Rattle.cstn_follow.specs.Following.{verdict_line, too_many}
use Rattle.cstn_follow.specs.FactLines.{refused_fact}
use Rattle.cstn_follow.specs.StepLines.{step_error_text}
use Rattle.cstn_follow.specs.declared.errors.StepError.{StepError}
use Rattle.cstn_follow.specs.declared.errors.StepError.TheVariants.{EditLimit, NoPlace, TooManyConstraints as ManyWithStep, Memory as StepMemory}
use Rattle.cstn_follow.specs.declared.errors.FollowError.{FollowError}
use Rattle.cstn_follow.specs.declared.errors.FollowError.TheVariants.{Refused, TooManyConstraints, Memory}
use Rattle.cstn_follow.specs.declared.errors.ReplanError.{ReplanError}
use Rattle.cstn_follow.specs.declared.errors.ReplanError.TheVariants.{Refused as IsRefused, TooManyConstraints as WithTooMany, Memory as WithoutMemory}

-- the text is the line of the verdict, or of why facts aren't recorded, which isn't want of memory
abbrev pub IsSaidOfFacts : List (List ℕ) → ℕ → Result Verdict FollowError → List ℕ → Type 0
IsSaidOfFacts names cap (Ok v) text = text ≡ verdict_line cap v
IsSaidOfFacts names cap (Err (Refused e)) text = text ≡ line (refused_fact names (the_fact_refusal e))
IsSaidOfFacts names cap (Err TooManyConstraints) text = text ≡ too_many
IsSaidOfFacts names cap (Err (Memory e)) text = ⊥

-- the text is this one of an accepted change, or the line of why it isn't made, which isn't want of memory
abbrev pub IsSaidOfEdit : List ℕ → Result Verdict ReplanError → List ℕ → Type 0
IsSaidOfEdit accepted (Ok v) text = text ≡ accepted
IsSaidOfEdit accepted (Err (IsRefused e)) text = text ≡ line (refused_change_text (the_change_refusal e))
IsSaidOfEdit accepted (Err WithTooMany) text = text ≡ too_many
IsSaidOfEdit accepted (Err (WithoutMemory e)) text = ⊥

-- and so of another deadline
abbrev pub IsSaidOfReplan : List ℕ → Result Verdict RestError → List ℕ → Type 0
IsSaidOfReplan accepted (Ok v) text = text ≡ accepted
IsSaidOfReplan accepted (Err AreTooMany) text = text ≡ too_many
IsSaidOfReplan accepted (Err (OutOfMemory e)) text = ⊥

-- nothing is recorded or edited
abbrev pub IsUnmade : {E : Type 0} → Result Verdict E → Type 0
IsUnmade (Ok v) = ⊥
IsUnmade (Err e) = Unit {0}

-- the text is the line of why there is no further time-point, which isn't want of memory
abbrev pub IsSaidOfStep : StepError → List ℕ → Type 0
IsSaidOfStep EditLimit text = text ≡ line (step_error_text EditLimit)
IsSaidOfStep NoPlace text = text ≡ line (step_error_text NoPlace)
IsSaidOfStep ManyWithStep text = text ≡ line (step_error_text ManyWithStep)
IsSaidOfStep (StepMemory error) text = ⊥
