-- Steps that may be refused.
use Rattle.std.specs.Prelude.{Bool, true, false, Option, Some, None, Result, Ok, Err}

infixl 10 ◌>>?◌
-- the next step, where the step before it wasn't refused
abbrev pub ◌>>?◌ : {A B E : Type 0} → Result A E → (A → Result B E) → Result B E
(Ok x) >>? f = f x
(Err e) >>? f = Err e

-- the value, or this refusal where there is none
abbrev pub some_or : {A E : Type 0} → Option A → E → Result A E
some_or (Some x) e = Ok x
some_or None e = Err e

-- this refusal, where the test doesn't hold
abbrev pub holds_or : {E : Type 0} → Bool → E → Result (Unit {0}) E
holds_or true e = Ok tt
holds_or false e = Err e
