-- What the lines mean: the labels of time-points, and the constraints.
use Rattle.std.specs.Prelude.{ℕ, ◌+◌, Bool, true, false, ◌&&◌, List, [], ◌∷◌, ◌++◌, flat_map, slice_index_or, Option, Some, None, option_map, option_to_list, Result, Ok, if◌then◌else◌, ℤ, pos, ◌+ℤ◌, ◌-ℤ◌, neg_ℤ, int_le, int_lt}
use Rattle.std.specs.List.{list_all}
use Rattle.cstn_label.specs.declared.marks.Mark.{Mark}
use Rattle.cstn_label.specs.declared.marks.Mark.TheVariants.{Yes, No}
use Rattle.cstn_label.specs.Marks.{is_absent}
use Rattle.cstn_label.specs.Labels.{Label, empty, with_mark}
use Rattle.cstn_label.specs.Letters.{prop_of}
use Rattle.cstn_net.specs.Networks.{is_prop}
use Rattle.cstn_text.specs.Names.{number_of}
use Rattle.cstn_graphml.specs.DrawnGraph.{Observation, DrawnConstraint}
use Rattle.cstn_graphml.specs.Document.{or_nothing}
use Rattle.cstn_graphml.specs.Networks.{observed_prop, observed_reaction}
use Rattle.cstn_sentences.specs.Limits.{day}
use Rattle.cstn_sentences.specs.Results.{◌>>?◌, some_or, holds_or}
use Rattle.cstn_sentences.specs.Refusals.{PlanRefusal, out_of_range, stands_twice, no_name, no_letter}
use Rattle.cstn_sentences.specs.declared.lines.Span.{Span}
use Rattle.cstn_sentences.specs.declared.lines.Range.{Range}
use Rattle.cstn_sentences.specs.declared.lines.Side.{Side}
use Rattle.cstn_sentences.specs.declared.lines.Side.TheVariants.{Alone, First, Last}
use Rattle.cstn_sentences.specs.declared.lines.Point.{Point}
use Rattle.cstn_sentences.specs.declared.lines.Reference.{Reference}
use Rattle.cstn_sentences.specs.declared.lines.Reference.TheVariants.{Moment, Outcome}
use Rattle.cstn_sentences.specs.declared.lines.Literal.{Literal}
use Rattle.cstn_sentences.specs.declared.lines.Says.{Says}
use Rattle.cstn_sentences.specs.declared.lines.Says.TheVariants.{At, By, Between, ByAfter, Within, NotBefore, Together}
use Rattle.cstn_sentences.specs.declared.bounds.Bounds.{Bounds}
use Rattle.cstn_sentences.specs.declared.declarations.Meant.{Meant}
use Rattle.cstn_sentences.specs.Lines.{PlanStep, Rule, PlanLine, nothing, deadline, start, step, task, rule}
use Rattle.cstn_sentences.specs.Spelling.{is_letter_word}
use Rattle.cstn_sentences.specs.Judged.{is_sized, line_of_text}
use Rattle.cstn_sentences.specs.Declarations.{Declared, letter_for, is_origin}

-- the labels of the origin and of the time-points after it, and the constraints
pub record Meaning : Type 0 where
  pub origin_label : Label
  pub labels : List Label
  pub constraints : List DrawnConstraint

abbrev pub nothing_meant : Meaning
nothing_meant = record { origin_label = empty; labels = []; constraints = [] }

-- ---- propositions and labels

-- the letter of a proposition: itself, or that of the word
abbrev pub letter_in : List Meant → List ℕ → Option ℕ
letter_in words [] = None
letter_in words (b ∷ bytes) = if is_letter_word (b ∷ bytes) then Some b else letter_for (b ∷ bytes) words

abbrev pub prop_in : ℕ → List Meant → List ℕ → Result ℕ PlanRefusal
prop_in n words prop = some_or (letter_in words prop) (no_letter n prop) >>? λ letter. some_or (prop_of letter) (no_letter n prop)

abbrev pub mark_said : Bool → Mark
mark_said true = Yes
mark_said false = No

-- the label with more literals, each of another proposition
abbrev pub label_meant_after : ℕ → List Meant → Label → List Literal → Result Label PlanRefusal
label_meant_after n words a [] = Ok a
label_meant_after n words a (l ∷ later) =
    prop_in n words l.prop >>? λ p.
    holds_or (is_absent (a p)) (stands_twice n l.prop) >>? λ new.
    label_meant_after n words (with_mark a p (mark_said l.holds)) later

abbrev pub label_meant : ℕ → Declared → List Literal → Result Label PlanRefusal
label_meant n d literals = label_meant_after n d.words empty literals

-- ---- time-points

-- one end of a task; a step has none
abbrev pub side_of : Side → Bool → ℕ → Bool → Option ℕ
side_of Alone is_end k is_task = Some (if is_task && is_end then k + 1 else k)
side_of First is_end k is_task = if is_task then Some k else None
side_of Last is_end k is_task = if is_task then Some (k + 1) else None

-- the number of a time-point, where a task's name alone is its end or its start
abbrev pub point_in : ℕ → Declared → Bool → Point → Result ℕ PlanRefusal
point_in n d is_end p =
    some_or (number_of d.names p.name) (no_name n p.name) >>? λ k.
    some_or (side_of p.side is_end k (slice_index_or d.begins_task k false)) (no_name n p.name)

-- what the time-points observe
abbrev pub declared_observations : Declared → List (Option Observation)
declared_observations d = or_nothing d.origin ∷ d.observes

-- the first of these time-points, numbered from k on, that observes the proposition, with its reaction
abbrev pub first_observer : ℕ → ℕ → List (Option Observation) → Option (ℕ × ℕ)
first_observer p k [] = None
first_observer p k (o ∷ later) = if is_prop p (observed_prop o) then Some (k, observed_reaction o) else first_observer p (k + 1) later

-- a moment: so many ticks after a time-point
abbrev pub Moment_after : Type 0
Moment_after = ℕ × ℤ

-- when an outcome is known, by its observer and the reaction: so long after the one as the other is
abbrev pub known_after : ℕ × ℕ → Moment_after
known_after x = (x.0, pos x.1)

-- when the outcome of the proposition is known: its reaction after its first observer
abbrev pub outcome_in : ℕ → Declared → List ℕ → Result Moment_after PlanRefusal
outcome_in n d prop =
    prop_in n d.words prop >>? λ p.
    some_or (first_observer p 0 (declared_observations d)) (no_letter n prop) >>? λ x. Ok (known_after x)

abbrev pub moment_in : ℕ → Declared → Reference → Result Moment_after PlanRefusal
moment_in n d (Moment p) = point_in n d true p >>? λ x. Ok (x, pos 0)
moment_in n d (Outcome prop) = outcome_in n d prop

-- the moments that a rule counts from
abbrev pub moments_in : ℕ → Declared → List Reference → Result (List Moment_after) PlanRefusal
moments_in n d [] = Ok []
moments_in n d (r ∷ later) = moment_in n d r >>? λ m. moments_in n d later >>? λ ms. Ok (m ∷ ms)

-- ---- what is said

-- the ticks of a time of the clock below 24:00: of the first such time after the clock at tick 0, or at it
abbrev pub from_start : ℤ → Option ℤ → ℤ
from_start ticks None = ticks
from_start ticks (Some first) = if int_lt ticks first then ticks +ℤ pos day -ℤ first else ticks -ℤ first

abbrev pub on_clock : Option ℤ → Span → ℤ
on_clock first t = if t.clock && int_lt t.ticks (pos day) then from_start t.ticks first else t.ticks

abbrev pub bounds_of : Option ℤ → Says → Bounds
bounds_of first (At r) = record { least = Some (on_clock first r.least); most = option_map (on_clock first) r.most }
bounds_of first (By t) = record { least = None; most = Some (on_clock first t) }
bounds_of first (Between r) = record { least = Some r.least.ticks; most = option_map (λ t. t.ticks) r.most }
bounds_of first (ByAfter t) = record { least = None; most = Some t.ticks }
bounds_of first (Within t) = record { least = Some (pos 0); most = Some t.ticks }
bounds_of first NotBefore = record { least = Some (pos 0); most = None }
bounds_of first Together = record { least = Some (pos 0); most = Some (pos 0) }

-- behind `by` a task's name alone is its end
abbrev pub is_of_end : Says → Bool
is_of_end (At r) = false
is_of_end (By t) = true
is_of_end (Between r) = false
is_of_end (ByAfter t) = true
is_of_end (Within t) = false
is_of_end NotBefore = false
is_of_end Together = false

-- `at`, and `by` without `after`, count from the origin
abbrev pub since_origin : Says → List Moment_after → List Moment_after
since_origin (At r) ms = (0, pos 0) ∷ []
since_origin (By t) ms = (0, pos 0) ∷ []
since_origin (Between r) ms = ms
since_origin (ByAfter t) ms = ms
since_origin (Within t) ms = ms
since_origin NotBefore ms = ms
since_origin Together ms = ms

-- at least isn't more than at most
abbrev pub are_in_order : Option ℤ → Option ℤ → Bool
are_in_order None most = true
are_in_order (Some a) None = true
are_in_order (Some a) (Some b) = int_le a b

-- a bound is sized, counted from a time-point
abbrev pub is_sized_from : ℤ → Option ℤ → Bool
is_sized_from shift None = true
is_sized_from shift (Some ticks) = is_sized (ticks +ℤ shift)

abbrev pub are_sized_from : Bounds → Moment_after → Bool
are_sized_from b m = is_sized_from m.1 b.least && is_sized_from m.1 b.most

-- x is at least so many ticks after y
abbrev pub at_least : ℕ → ℕ → ℤ → Label → DrawnConstraint
at_least x y ticks label = record { from = x; to = y; most = neg_ℤ ticks; label = label }

-- x is at most so many ticks after y
abbrev pub at_most : ℕ → ℕ → ℤ → Label → DrawnConstraint
at_most x y ticks label = record { from = y; to = x; most = ticks; label = label }

-- the constraints that x is in these bounds, counted from a moment
abbrev pub constraints_of : ℕ → Bounds → Label → Moment_after → List DrawnConstraint
constraints_of x b label m =
    option_to_list (option_map (λ a. at_least x m.0 (a +ℤ m.1) label) b.least)
    ++ option_to_list (option_map (λ a. at_most x m.0 (a +ℤ m.1) label) b.most)

-- ---- lines

-- the meaning with the constraints that x is in these bounds after each of the moments
abbrev pub with_rule : ℕ → Bounds → Label → List Moment_after → Meaning → Meaning
with_rule x b label ms m = record m { constraints = m.constraints ++ flat_map (constraints_of x b label) ms }

abbrev pub mean_rule : ℕ → Declared → Rule → Meaning → Result Meaning PlanRefusal
mean_rule n d r m =
    point_in n d (is_of_end r.says) r.point >>? λ x.
    holds_or (are_in_order (bounds_of d.start r.says).least (bounds_of d.start r.says).most) (out_of_range n) >>? λ ordered.
    moments_in n d r.since >>? λ moments.
    label_meant n d r.label >>? λ label.
    holds_or (list_all (are_sized_from (bounds_of d.start r.says)) (since_origin r.says moments)) (out_of_range n) >>? λ sized.
    Ok (with_rule x (bounds_of d.start r.says) label (since_origin r.says moments) m)

-- the meaning with the label of a step
abbrev pub with_label : List ℕ → Label → Meaning → Meaning
with_label name label m = if is_origin name then record m { origin_label = label } else record m { labels = m.labels ++ (label ∷ []) }

abbrev pub mean_step : ℕ → Declared → PlanStep → Meaning → Result Meaning PlanRefusal
mean_step n d s m = label_meant n d s.label >>? λ label. Ok (with_label s.name label m)

-- the meaning with the labels of a task's start and end
abbrev pub with_task_labels : Label → Meaning → Meaning
with_task_labels label m = record m { labels = (m.labels ++ (label ∷ [])) ++ (label ∷ []) }

-- a task's end is in the range after its start, whatever the label
abbrev pub mean_task : ℕ → Declared → PlanStep → Range → Meaning → Result Meaning PlanRefusal
mean_task n d s r m =
    label_meant n d s.label >>? λ label.
    some_or (number_of d.names s.name) (no_name n s.name) >>? λ x.
    holds_or (list_all (are_sized_from (bounds_of None (Between r))) ((x, pos 0) ∷ [])) (out_of_range n) >>? λ sized.
    Ok (with_rule (x + 1) (bounds_of None (Between r)) empty ((x, pos 0) ∷ []) (with_task_labels label m))

abbrev pub mean : ℕ → Declared → Meaning → PlanLine → Result Meaning PlanRefusal
mean n d m nothing = Ok m
mean n d m (deadline t) = Ok m
mean n d m (start t) = Ok m
mean n d m (step s) = mean_step n d s m
mean n d m (task s r) = mean_task n d s r m
mean n d m (rule r) = mean_rule n d r m

-- what is meant once the line of a text was read, which is number n
abbrev pub meant_line : ℕ → Declared → Meaning → List ℕ → Result Meaning PlanRefusal
meant_line n d m text = line_of_text n text >>? mean n d m

-- what the lines from number n on mean, after those before them
unfoldable pub meant_after : ℕ → Declared → Meaning → List (List ℕ) → Result Meaning PlanRefusal
meant_after n d m [] = Ok m
meant_after n d m (line ∷ lines) = meant_line n d m line >>? λ more. meant_after (n + 1) d more lines
