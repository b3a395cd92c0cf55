-- What a plan in sentences means: the parts of its labelled network, or the refusal.
use Rattle.std.specs.Prelude.{ℕ, ◌∷◌, List, length, nat_le, Option, option_map, Result, Ok, nat_abs}
use Rattle.cstn_graphml.specs.Document.{Parts, first_of_two}
use Rattle.cstn_sentences.specs.Limits.{most_plan}
use Rattle.cstn_sentences.specs.Results.{◌>>?◌, some_or, holds_or}
use Rattle.cstn_sentences.specs.Refusals.{PlanRefusal, too_long, no_deadline}
use Rattle.cstn_sentences.specs.Words.{plan_lines}
use Rattle.cstn_sentences.specs.Declarations.{Declared, nothing_declared, declared_after}
use Rattle.cstn_sentences.specs.Meaning.{Meaning, nothing_meant, meant_after, declared_observations, on_clock}

-- the deadline of the lines, in ticks
abbrev pub deadline_in : Declared → Option ℕ
deadline_in d = option_map (λ t. nat_abs (on_clock d.start t)) d.deadline

abbrev pub plan_parts : ℕ → Declared → Meaning → Parts
plan_parts deadline d m = record {
  deadline = deadline;
  names = d.names;
  observes = declared_observations d;
  labels = m.origin_label ∷ m.labels;
  constraints = m.constraints;
}

-- The plan of a text with the deadline handed in or none: the parts of its network, or the refusal.
abbrev pub plan : List ℕ → Option ℕ → Result Parts PlanRefusal
plan text deadline =
    holds_or (nat_le (length text) most_plan) too_long >>? λ short.
    declared_after 1 nothing_declared (plan_lines text) >>? λ d.
    meant_after 1 d nothing_meant (plan_lines text) >>? λ m.
    some_or (first_of_two deadline (deadline_in d)) no_deadline >>? λ ticks.
    Ok (plan_parts ticks d m)
