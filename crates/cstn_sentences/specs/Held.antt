-- Plans that values of the program can hold.
use Rattle.std.specs.Prelude.{◌≡◌, ℕ, List, Option, Ok}
use Rattle.cstn_graphml.specs.Document.{Parts}
use Rattle.cstn_graphml.specs.Networks.{IsHeld}
use Rattle.cstn_sentences.specs.Plans.{plan}

-- where the plan says something, values of the program can hold it
abbrev pub PlanCanBeHeld : List ℕ → Option ℕ → Type 0
PlanCanBeHeld text deadline = (parts : Parts) → plan text deadline ≡ Ok parts → IsHeld parts
