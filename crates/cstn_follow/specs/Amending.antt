-- Lines of a session that amend its plan, beside those that edit it constraint by constraint.
use Rattle.std.specs.Prelude.{ℕ, ◌≡◌, true, List, ◌∷◌, ◌++◌, Option, Some, if◌then◌else◌, codes, bytes_eq}
use Rattle.std.specs.Option.{option_map, option_and_then, is_some}
use Rattle.cstn_text.specs.Names.{IsName}
use Rattle.cstn_text.specs.PrintedNames.{name_read, printed_name}
use Rattle.cstn_follow.specs.declared.amending.Amendment.{Amendment as AmendmentLine}
use Rattle.cstn_follow.specs.declared.amending.Amendment.TheVariants.{Forgive, Step}
use Rattle.cstn_follow.specs.Words.{behind_word}

-- what is amended: what was done has broken some constraints, which are forgiven, or there is a further time-point of this name
pub data Amendment : Type 0 where
  forgives : Amendment
  steps : List ℕ → Amendment

abbrev pub the_amendment : AmendmentLine → Amendment
the_amendment Forgive = forgives
the_amendment (Step name) = steps name

-- `step ` and a name
abbrev pub step_read : List ℕ → Option Amendment
step_read bytes = option_and_then (λ rest. option_map steps (name_read rest)) (behind_word (codes "step ") bytes)

-- what a line amends
abbrev pub amendment_read : List ℕ → Option Amendment
amendment_read bytes = if bytes_eq bytes (codes "forgive") then Some forgives else step_read bytes

-- the line begins with `step `
abbrev pub IsStepping : List ℕ → Type 0
IsStepping bytes = is_some (behind_word (codes "step ") bytes) ≡ true

-- the text of an amendment
abbrev pub printed_amendment : Amendment → List ℕ
printed_amendment forgives = codes "forgive"
printed_amendment (steps name) = codes "step" ++ 32 ∷ printed_name name

-- a name is one
abbrev pub IsAmendment : Amendment → Type 0
IsAmendment forgives = Unit {0}
IsAmendment (steps name) = IsName name
