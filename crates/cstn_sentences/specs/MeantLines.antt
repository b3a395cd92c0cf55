-- What the lines of a plan say: what its network has by them, and what they say of a schedule.
use Rattle.std.specs.Prelude.{◌≡◌, ◌↔◌, ◌⊎◌, ◌<◌, ℕ, ◌+◌, true, false, List, [], ◌∷◌, ◌++◌, length, slice_index_or, Option, Some, None, Ok, pos, ◌≤ℤ◌}
use Rattle.std.specs.List.{AllZip, Contains}
use Rattle.cstn_label.specs.Labels.{Label, Scenario, Holds, empty}
use Rattle.cstn_net.specs.Networks.{Network, Constraint, Observes}
use Rattle.cstn_net.specs.Strategies.{Schedule, Meets, IsKnown}
use Rattle.cstn_text.specs.Names.{number_of}
use Rattle.cstn_graphml.specs.Document.{Parts, first_of_two}
use Rattle.cstn_graphml.specs.Networks.{network_of}
use Rattle.cstn_sentences.specs.declared.lines.Side.TheVariants.{Alone}
use Rattle.cstn_sentences.specs.declared.lines.Point.{Point}
use Rattle.cstn_sentences.specs.declared.lines.Reference.{Reference}
use Rattle.cstn_sentences.specs.declared.lines.Reference.TheVariants.{Moment, Outcome}
use Rattle.cstn_sentences.specs.declared.lines.Says.TheVariants.{Between}
use Rattle.cstn_sentences.specs.Lines.{PlanStep, Rule, PlanLine, nothing, deadline, start, step, task, rule}
use Rattle.cstn_sentences.specs.Words.{plan_lines}
use Rattle.cstn_sentences.specs.Judged.{line_of_text}
use Rattle.cstn_sentences.specs.Declarations.{Declared, is_origin, nothing_declared, declared_after, end_name, step_observation}
use Rattle.cstn_sentences.specs.Meaning.{Moment_after, is_of_end, point_in, moments_in, prop_in, label_meant}
use Rattle.cstn_sentences.specs.Moments.{tick_of, IsSaid}
use Rattle.cstn_sentences.specs.Plans.{deadline_in}

-- the schedule meets, in the scenario, each constraint of the network whose label holds there
abbrev pub MeetsInScenario : Network → Scenario → Schedule → Type 0
MeetsInScenario net s at = (c : Constraint) → Contains net.constraints c → Holds s c.label → Meets at c

-- ---- names and moments

-- the task of this name has its start at number k
pub record StartsTask (d : Declared) (name : List ℕ) (k : ℕ) : Type 0 where
  pub number : number_of d.names name ≡ Some k
  pub begins : slice_index_or d.begins_task k false ≡ true

-- a name without `start of` and `end of`
abbrev pub name_alone : List ℕ → Point
name_alone name = record { name = name; side = Alone }

-- the moment is that of `result of`: so long after an observer of the proposition as the reaction is; what isn't before it isn't before
-- the moment at which the proposition is known
pub record IsOutcomeMeant (n : ℕ) (d : Declared) (net : Network) (prop : List ℕ) (m : Moment_after) : Type 0 where
  pub letter : ℕ
  pub letter_is : prop_in n d.words prop ≡ Ok letter
  pub observes : Observes net m.0 letter
  pub reaction : m.1 ≡ pos (net.reaction letter)
  pub known : (at : Schedule) (y : ℕ) → tick_of at m ≤ℤ pos (at y) → IsKnown net at (at y) letter

-- the moment is the one that a rule of line n counts from
abbrev pub IsReferenceMeant : ℕ → Declared → Network → Reference → Moment_after → Type 0
IsReferenceMeant n d net (Moment point) m = (point_in n d true point ≡ Ok m.0) × (m.1 ≡ pos 0)
IsReferenceMeant n d net (Outcome prop) m = IsOutcomeMeant n d net prop m

-- ---- lines

-- a rule of line n has its time-point, the moments that it counts from, and its label
pub record IsRuleMeant (n : ℕ) (d : Declared) (net : Network) (r : Rule) : Type 0 where
  pub x : ℕ
  pub moments : List Moment_after
  pub label : Label
  pub point_is : point_in n d (is_of_end r.says) r.point ≡ Ok x
  pub moments_are : moments_in n d r.since ≡ Ok moments
  pub each_is : AllZip (IsReferenceMeant n d net) r.since moments
  pub label_is : label_meant n d r.label ≡ Ok label

-- a step of line n is a time-point of this name, observes this with this reaction, and has this label
pub record IsStepMeant (n : ℕ) (d : Declared) (parts : Parts) (s : PlanStep) : Type 0 where
  pub x : ℕ
  pub x_is : number_of parts.names s.name ≡ Some x
  pub observes : slice_index_or parts.observes x None ≡ step_observation s.observed
  pub label_is : label_meant n d s.label ≡ Ok (slice_index_or parts.labels x empty)

-- a task of line n is two time-points, of which the second has the number behind the first, and observes; both have the label
pub record IsTaskMeant (n : ℕ) (d : Declared) (parts : Parts) (s : PlanStep) : Type 0 where
  pub first : ℕ
  pub starts : StartsTask d s.name first
  pub first_is : number_of parts.names s.name ≡ Some first
  pub last_is : number_of parts.names (end_name s.name) ≡ Some (first + 1)
  pub first_observes : slice_index_or parts.observes first None ≡ None
  pub last_observes : slice_index_or parts.observes (first + 1) None ≡ step_observation s.observed
  pub first_label_is : label_meant n d s.label ≡ Ok (slice_index_or parts.labels first empty)
  pub last_label_is : label_meant n d s.label ≡ Ok (slice_index_or parts.labels (first + 1) empty)

-- what the network of the parts has by line n
abbrev pub IsMeant : ℕ → Declared → Parts → PlanLine → Type 0
IsMeant n d parts nothing = Unit {0}
IsMeant n d parts (deadline t) = d.deadline ≡ Some t
IsMeant n d parts (start t) = d.start ≡ Some t.ticks
IsMeant n d parts (step s) = IsStepMeant n d parts s
IsMeant n d parts (task s r) = IsTaskMeant n d parts s
IsMeant n d parts (rule r) = IsRuleMeant n d (network_of parts) r

-- What a line that is meant so says of a schedule in a scenario: where the label of a rule holds, what the rule says of its time-point,
-- by the moments that it counts from; that the end of a task is in its range after its start; nothing else.
abbrev pub HoldsAsMeant : (n : ℕ) (d : Declared) (parts : Parts) (line : PlanLine) → IsMeant n d parts line → Scenario → Schedule → Type 0
HoldsAsMeant n d parts nothing m s at = Unit {0}
HoldsAsMeant n d parts (deadline t) m s at = Unit {0}
HoldsAsMeant n d parts (start t) m s at = Unit {0}
HoldsAsMeant n d parts (step p) m s at = Unit {0}
HoldsAsMeant n d parts (task p r) m s at = IsSaid None at (m.first + 1) (Between r) ((m.first, pos 0) ∷ [])
HoldsAsMeant n d parts (rule r) m s at = Holds s m.label → IsSaid d.start at m.x r.says m.moments

-- x is a time-point of the step or task of a line that is meant so
abbrev pub IsPointOf : (n : ℕ) (d : Declared) (parts : Parts) (line : PlanLine) → IsMeant n d parts line → ℕ → Type 0
IsPointOf n d parts nothing m x = ⊥
IsPointOf n d parts (deadline t) m x = ⊥
IsPointOf n d parts (start t) m x = ⊥
IsPointOf n d parts (step s) m x = m.x ≡ x
IsPointOf n d parts (task s r) m x = (m.first ≡ x) ⊎ (m.first + 1 ≡ x)
IsPointOf n d parts (rule r) m x = ⊥

-- the line of a text, which is number n
pub record IsLineMeant (n : ℕ) (d : Declared) (parts : Parts) (text : List ℕ) : Type 0 where
  pub line : PlanLine
  pub line_is : line_of_text n text ≡ Ok line
  pub meant : IsMeant n d parts line

abbrev pub IsLineTrue : (n : ℕ) (d : Declared) (parts : Parts) (text : List ℕ) → IsLineMeant n d parts text → Scenario → Schedule → Type 0
IsLineTrue n d parts text m s at = HoldsAsMeant n d parts m.line m.meant s at

abbrev pub IsLinePoint : (n : ℕ) (d : Declared) (parts : Parts) (text : List ℕ) → IsLineMeant n d parts text → ℕ → Type 0
IsLinePoint n d parts text m x = IsPointOf n d parts m.line m.meant x

-- the line is the step of the origin
abbrev pub IsOriginStep : PlanLine → Type 0
IsOriginStep nothing = ⊥
IsOriginStep (deadline t) = ⊥
IsOriginStep (start t) = ⊥
IsOriginStep (step s) = is_origin s.name ≡ true
IsOriginStep (task s r) = ⊥
IsOriginStep (rule r) = ⊥

-- Each line of the text has its part of the network. The deadline is the one that is handed in, else that of a line; each time-point but
-- the origin is of a line, and the origin has nothing where no line is its step. And a schedule meets the constraints of the network,
-- in a scenario, exactly where each line is true of it.
pub record AreLinesMeant (text : List ℕ) (handed : Option ℕ) (parts : Parts) : Type 0 where
  pub declared : Declared
  pub declared_is : declared_after 1 nothing_declared (plan_lines text) ≡ Ok declared
  pub names_are : parts.names ≡ declared.names
  pub deadline_is : first_of_two handed (deadline_in declared) ≡ Some parts.deadline
  pub each : (before : List (List ℕ)) (line : List ℕ) (after : List (List ℕ)) → plan_lines text ≡ before ++ (line ∷ after)
      → IsLineMeant (length before + 1) declared parts line
  pub points : (x : ℕ) → 0 < x → x < length parts.names → (before : List (List ℕ)) × (line : List ℕ) × (after : List (List ℕ))
      × (here : plan_lines text ≡ before ++ (line ∷ after)) × IsLinePoint (length before + 1) declared parts line (each before line after here) x
  pub origin : ((before : List (List ℕ)) (line : List ℕ) (after : List (List ℕ)) (here : plan_lines text ≡ before ++ (line ∷ after))
      → IsOriginStep (each before line after here).line → ⊥)
      → (slice_index_or parts.observes 0 None ≡ None) × (slice_index_or parts.labels 0 empty ≡ empty)
  pub exact : (s : Scenario) (at : Schedule) → at 0 ≡ 0 → (MeetsInScenario (network_of parts) s at
      ↔ ((before : List (List ℕ)) (line : List ℕ) (after : List (List ℕ)) (here : plan_lines text ≡ before ++ (line ∷ after))
      → IsLineTrue (length before + 1) declared parts line (each before line after here) s at))
