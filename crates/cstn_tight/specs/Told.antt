-- What is told of a refutation, if there is one.
use Rattle.std.specs.Prelude.{ℕ, ◌<◌, List, [], length, Option, None, Some, IfSome}
use Rattle.std.specs.List.{All}
use Rattle.cstn_refute.specs.Refutations.{RefutationParts, the_steps}
use Rattle.cstn_refute.specs.Texts.{refutation_shown}

-- each step of the refutation, if there is one, is at a time-point that has a name
abbrev pub AreStepsNamed : List (List ℕ) → Option RefutationParts → Type 0
AreStepsNamed names o = IfSome o (λ r. All (λ e. e.bound.node.0 < length names) r.steps)

-- the text of the refutation, or the empty text where there is none
abbrev pub told_before : List (List ℕ) → Option RefutationParts → List ℕ
told_before names None = []
told_before names (Some r) = refutation_shown names r.load (the_steps r)
