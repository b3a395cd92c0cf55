-- What a refusal says.
use Rattle.std.specs.Prelude.{◌≡◌}
use Rattle.cstn_closed.specs.declared.errors.ClosedError.{ClosedError}
use Rattle.cstn_closed.specs.declared.errors.ClosedError.TheVariants.{Line, Memory}
use Rattle.cstn_closed.specs.Texts.{ClosedTold, wrong}

-- the line of an error is the first wrong one of the text; want of memory says nothing of the text
abbrev pub IsWrongBoundLine : ClosedTold → ClosedError → Type 0
IsWrongBoundLine t (Line line) = t ≡ wrong line
IsWrongBoundLine t (Memory e) = Unit {0}
