-- What a line says.
use Rattle.std.specs.Prelude.{ℕ, List, Option}
use Rattle.cstn_sentences.specs.declared.lines.Span.{Span}
use Rattle.cstn_sentences.specs.declared.lines.Range.{Range}
use Rattle.cstn_sentences.specs.declared.lines.Point.{Point}
use Rattle.cstn_sentences.specs.declared.lines.Reference.{Reference}
use Rattle.cstn_sentences.specs.declared.lines.Literal.{Literal}
use Rattle.cstn_sentences.specs.declared.lines.Observed.{Observed}
use Rattle.cstn_sentences.specs.declared.lines.Says.{Says}
use Rattle.cstn_sentences.specs.declared.lines.Step.{Step as LentStep}
use Rattle.cstn_sentences.specs.declared.lines.Rule.{Rule as LentRule}
use Rattle.cstn_sentences.specs.declared.lines.Line.{Line as LentLine}
use Rattle.cstn_sentences.specs.declared.lines.Line.TheVariants.{Nothing, Deadline, Start, Step as StepLine, Task as TaskLine, Rule as RuleLine}

-- a step, or a task but for its length: its name, what it observes, and its label
pub record PlanStep : Type 0 where
  pub name : List ℕ
  pub observed : Option Observed
  pub label : List Literal

-- a rule: what it says of a time-point, what it counts from, and the label under which it holds
pub record Rule : Type 0 where
  pub point : Point
  pub says : Says
  pub since : List Reference
  pub label : List Literal

-- a line says nothing, the deadline, the clock at tick 0, a step, a task with its length, or a rule
pub data PlanLine : Type 0 where
  nothing : PlanLine
  deadline : Span → PlanLine
  start : Span → PlanLine
  step : PlanStep → PlanLine
  task : PlanStep → Range → PlanLine
  rule : Rule → PlanLine

abbrev pub the_plan_step : LentStep → PlanStep
the_plan_step s = record { name = s.name; observed = s.observed; label = s.label.items }

abbrev pub the_rule : LentRule → Rule
the_rule r = record { point = r.point; says = r.says; since = r.since.items; label = r.label.items }

abbrev pub the_plan_line : LentLine → PlanLine
the_plan_line Nothing = nothing
the_plan_line (Deadline t) = deadline t
the_plan_line (Start t) = start t
the_plan_line (StepLine s) = step (the_plan_step s)
the_plan_line (TaskLine s r) = task (the_plan_step s) r
the_plan_line (RuleLine r) = rule (the_rule r)
