-- What a refusal says.
use Rattle.std.specs.Prelude.{◌≡◌}
use Rattle.cstn_refute.specs.declared.errors.RefuteError.{RefuteError}
use Rattle.cstn_refute.specs.declared.errors.RefuteError.TheVariants.{Line, Memory}
use Rattle.cstn_refute.specs.Texts.{RefutationTold, wrong}

-- a refusal for a line names the first wrong line of the text; one for want of memory says nothing of the text
abbrev pub IsWrongStepLine : RefutationTold → RefuteError → Type 0
IsWrongStepLine t (Line line) = t ≡ wrong line
IsWrongStepLine t (Memory e) = Unit {0}
