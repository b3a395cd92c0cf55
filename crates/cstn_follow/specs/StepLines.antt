-- What is said where a further time-point is put in by its name.
use Rattle.std.specs.Prelude.{ℕ, ◌+◌, List, [], ◌∷◌, ◌++◌, Option, None, Some, codes}
use Rattle.std.specs.Option.{option_map}
use Rattle.cstn_net.specs.Networks.{count}
use Rattle.cstn_text.specs.Names.{number_of}
use Rattle.cstn_text.specs.PrintedNames.{printed_name}
use Rattle.cstn_history.specs.Facts.{Done}
use Rattle.cstn_history.specs.Steps.{stepped}
use Rattle.cstn_change.specs.Changes.{EditLimit as IsEditLimit}
use Rattle.cstn_change.specs.ChangeLines.{refused_change_text}
use Rattle.cstn_reply.specs.Texts.{line}
use Rattle.cstn_follow.specs.Following.{Following, Heard, says, follows}
use Rattle.cstn_follow.specs.FactLines.{refused_fact}
use Rattle.cstn_follow.specs.Stepping.{no_room}
use Rattle.cstn_follow.specs.declared.errors.StepError.{StepError}
use Rattle.cstn_follow.specs.declared.errors.StepError.TheVariants.{EditLimit, NoPlace, TooManyConstraints, Memory}

-- the session with a further time-point of this name, which counts as an edit
abbrev pub with_step : Following → List ℕ → Following
with_step s name = record s { network = stepped s.network; names = s.names ++ name ∷ []; edits = s.edits + 1 }

-- S6, S9, where there are 1,024 time-points, and F8
abbrev pub step_error_text : StepError → List ℕ
step_error_text EditLimit = refused_change_text IsEditLimit
step_error_text NoPlace = codes "refused S9"
step_error_text TooManyConstraints = codes "refused F8"
step_error_text (Memory error) = []

-- why there is no room for it, if there is none
abbrev pub room_refusal : Following → Option (List ℕ)
room_refusal s = option_map step_error_text (no_room s.edits (count s.network.base))

-- F4, where the time-point of the name was done at the moment given, and S8, where it isn't done
abbrev pub twice_refusal : List (List ℕ) → List ℕ → ℕ → Option ℕ → List ℕ
twice_refusal names name x (Some t) = refused_fact names (Done x t)
twice_refusal names name x None = codes "refused S8 " ++ printed_name name

-- the first reason for which there can't be a further time-point of the name, if one applies; this is the number of the name
abbrev pub step_refusal : Following → List ℕ → Option ℕ → Option (List ℕ)
step_refusal s name (Some x) = Some (twice_refusal s.names name x (s.history.done x))
step_refusal s name None = room_refusal s

abbrev pub step_unless : Following → List ℕ → Option (List ℕ) → Heard
step_unless s name (Some why) = says (line why) s
step_unless s name None = follows s (with_step s name) (λ v. line (codes "step " ++ printed_name name))

-- `step`: there is a further time-point of this name; F8 is for too many constraints
abbrev pub on_step : Following → List ℕ → Heard
on_step s name = step_unless s name (step_refusal s name (number_of s.names name))
