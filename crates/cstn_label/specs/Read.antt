-- How the program's labels, scenarios, knowledge and bounds are read as those of the definitions.
use Rattle.std.specs.Prelude.{ℕ, Bool, true, false, IsTrue, ◌==◌, ◌&&◌, Option, Some, None, if◌then◌else◌}
use Rattle.cstn_label.specs.declared.marks.Mark.{Mark}
use Rattle.cstn_label.specs.declared.marks.Mark.TheVariants.{Absent, Yes, No, Unknown}
use Rattle.cstn_label.specs.declared.labels.Label.{Label}
use Rattle.cstn_label.specs.declared.scenarios.Scenario.{Scenario}
use Rattle.cstn_label.specs.declared.knowledge.Known.{Known}
use Rattle.cstn_label.specs.declared.bounds.Bound.{Bound}
use Rattle.cstn_label.specs.Labels.{Label as TheLabel, Scenario as TheScenario}
use Rattle.cstn_label.specs.Bounds.{Bound as TheBound}
use Rattle.cstn_label.specs.Words.{has_bit, meant}

-- the mark of a proposition by its bits in a label's words `yes` and `no`
abbrev pub mark_of : Bool → Bool → Mark
mark_of false false = Absent
mark_of true false = Yes
mark_of false true = No
mark_of true true = Unknown

-- the marks of a label
abbrev pub marks : Label → TheLabel
marks label = λ p. mark_of (has_bit label.yes p) (has_bit label.no p)

-- the propositions that are true in a scenario
abbrev pub the_scenario : Scenario → TheScenario
the_scenario s = λ p. has_bit s.bits p

-- the propositions that are known
abbrev pub is_known : Known → ℕ → Type 0
is_known k p = IsTrue (has_bit k.seen p)

-- the values of the propositions that are known
abbrev pub the_values : Known → TheScenario
the_values k = λ p. has_bit k.bits p

-- the value of a proposition, where it is known
abbrev pub known_value : Known → ℕ → Option Bool
known_value k p = if has_bit k.seen p then Some (the_values k p) else None

-- the scenarios give each of the 52 propositions the same value
abbrev pub same_scenario : Scenario → Scenario → Bool
same_scenario s r = meant s.bits == meant r.bits

-- the same propositions are known, with the same values
abbrev pub same_known : Known → Known → Bool
same_known k l = (meant k.seen == meant l.seen) && (meant k.bits == meant l.bits)

-- a bound's time-point, least value and marks
abbrev pub the_bound : Bound → TheBound
the_bound b = record { node = b.node.0; least = b.least; label = marks b.label }
