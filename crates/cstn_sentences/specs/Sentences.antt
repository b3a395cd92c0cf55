-- A labelled network in sentences.
use Rattle.std.specs.Prelude.{ℕ, zero, suc, Bool, true, false, ◌&&◌, ◌||◌, not, ◌==◌, List, [], ◌∷◌, ◌++◌, flat_map, slice_index_or, Option, Some, None, is_some, option_map, option_to_list, if◌then◌else◌, ℤ, pos, neg_ℤ, int_le}
use Rattle.cstn_label.specs.declared.marks.Mark.{Mark}
use Rattle.cstn_label.specs.declared.marks.Mark.TheVariants.{Absent, Yes, No, Unknown}
use Rattle.cstn_label.specs.Labels.{Label}
use Rattle.cstn_label.specs.Letters.{letter_of}
use Rattle.cstn_label.specs.Tests.{is_within}
use Rattle.cstn_net.specs.Networks.{Network, Constraint, count}
use Rattle.cstn_lift.specs.Labelled.{Labelled, label_in}
use Rattle.cstn_sentences.specs.declared.lines.Span.{Span}
use Rattle.cstn_sentences.specs.declared.lines.Range.{Range}
use Rattle.cstn_sentences.specs.declared.lines.Side.TheVariants.{Alone}
use Rattle.cstn_sentences.specs.declared.lines.Reference.{Reference}
use Rattle.cstn_sentences.specs.declared.lines.Reference.TheVariants.{Moment}
use Rattle.cstn_sentences.specs.declared.lines.Literal.{Literal}
use Rattle.cstn_sentences.specs.declared.lines.Observed.{Observed}
use Rattle.cstn_sentences.specs.declared.lines.Says.{Says}
use Rattle.cstn_sentences.specs.declared.lines.Says.TheVariants.{At, By, Between, ByAfter, Within, NotBefore, Together}
use Rattle.cstn_sentences.specs.Lines.{PlanStep, Rule}
use Rattle.cstn_sentences.specs.Grammar.{Words}
use Rattle.cstn_sentences.specs.Printed.{joined_words, reference_words, deadline_words, step_words, rule_words, line_text}

abbrev pub ticks : ℤ → Span
ticks n = record { ticks = n; clock = false }

-- from a on up to b, and from a on
abbrev pub from_to : ℤ → ℤ → Range
from_to a b = record { least = ticks a; most = Some (ticks b) }

abbrev pub from_on : ℤ → Range
from_on a = record { least = ticks a; most = None }

-- ---- labels and steps

-- whether a mark says that the proposition is true or that it isn't, if it says either
abbrev pub asserted : Mark → Option Bool
asserted Absent = None
asserted Yes = Some true
asserted No = Some false
asserted Unknown = None

-- the literal of a proposition by its mark, if there is one
abbrev pub literal_of_mark : ℕ → Mark → List Literal
literal_of_mark letter mark = option_to_list (option_map (λ holds. record { prop = letter ∷ []; holds = holds }) (asserted mark))

-- the literals of the propositions below n, in ascending order
unfoldable pub literals_below : Label → ℕ → List Literal
literals_below a zero = []
literals_below a (suc n) = literals_below a n ++ literal_of_mark (letter_of n) (a n)

abbrev pub literals_of_label : Label → List Literal
literals_of_label a = literals_below a 52

-- what is observed of a proposition with a reaction of n ticks, by its letter
abbrev pub observed_after : ℕ → ℕ → Observed
observed_after n p = record { word = None; letter = letter_of p; reaction = ticks (pos n) }

abbrev pub observed_of : (ℕ → ℕ) → ℕ → Observed
observed_of reaction p = observed_after (reaction p) p

-- what the time-point observes, if it observes anything
abbrev pub step_observed : Network → ℕ → Option Observed
step_observed net x = option_map (observed_of net.reaction) (slice_index_or net.observes x None)

-- the step of a time-point
abbrev pub step_of : Labelled → List (List ℕ) → ℕ → PlanStep
step_of m names x = record {
  name = slice_index_or names x [];
  observed = step_observed m.base x;
  label = literals_of_label (label_in m.labels x);
}

-- each time-point but the origin has a step, and the origin where it observes something
abbrev pub has_step : Network → ℕ → Bool
has_step net x = not (x == 0) || is_some (slice_index_or net.observes x None)

-- the steps of the first n time-points
unfoldable pub steps_below : Labelled → List (List ℕ) → ℕ → List PlanStep
steps_below m names zero = []
steps_below m names (suc n) = steps_below m names n ++ (if has_step m.base n then step_of m names n ∷ [] else [])

-- ---- constraints

-- the two labels have the same marks on the 52 letters
abbrev pub is_same_label : Label → Label → Bool
is_same_label a b = is_within a b && is_within b a

-- -A and B, with A at least 0 and at most B
abbrev pub is_range : ℤ → ℤ → Bool
is_range least most = int_le least (pos 0) && int_le (neg_ℤ least) most

-- one is from X to Y, and the other from Y to X
abbrev pub are_turned : Constraint → Constraint → Bool
are_turned c d = c.from == d.to && c.to == d.from

abbrev pub are_one_range : Constraint → Constraint → Bool
are_one_range c d = is_same_label c.label d.label && is_range c.most d.most

-- (X, Y, -A, L) and (Y, X, B, L), with A at least 0 and at most B
abbrev pub is_pair : Constraint → Constraint → Bool
is_pair c d = are_turned c d && are_one_range c d

-- the next constraint is the other one of a pair
abbrev pub is_paired : Constraint → List Constraint → Bool
is_paired c [] = false
is_paired c (d ∷ later) = is_pair c d

-- the time-points that a rule counts from: one, or none
abbrev pub since_of : List (List ℕ) → Option ℕ → List Reference
since_of names y = option_to_list (option_map (λ k. Moment (record { name = slice_index_or names k []; side = Alone })) y)

abbrev pub since_words : List (List ℕ) → Option ℕ → Words
since_words names y = joined_words reference_words (since_of names y)

-- a rule of the time-point x, by the time-point y that it counts from, or by none
abbrev pub rule_of : List (List ℕ) → ℕ → Says → Option ℕ → Label → Rule
rule_of names x says y label = record {
  point = record { name = slice_index_or names x []; side = Alone };
  says = says;
  since = since_of names y;
  label = literals_of_label label;
}

-- the time-point that a rule counts from; none is written for the origin
abbrev pub counted_from : ℕ → Option ℕ
counted_from zero = None
counted_from (suc y) = Some (suc y)

-- at least a and at most b after some time-point
abbrev pub since_says : ℤ → ℤ → Says
since_says a b =
    if int_le b a then (if int_le a (pos 0) then Together else Between (from_to a b))
    else if int_le a (pos 0) then Within (ticks b) else Between (from_to a b)

-- at least a and at most b after a time-point, or after the origin
abbrev pub range_says : Option ℕ → ℤ → ℤ → Says
range_says None a b = At (from_to a b)
range_says (Some y) a b = since_says a b

-- at least a after a time-point, or after the origin
abbrev pub least_says : Option ℕ → ℤ → Says
least_says None a = At (from_on a)
least_says (Some y) a = if int_le a (pos 0) then NotBefore else Between (from_on a)

-- the rule of a pair
abbrev pub pair_rule : List (List ℕ) → Constraint → Constraint → Rule
pair_rule names c d = rule_of names c.from (range_says (counted_from c.to) (neg_ℤ c.most) d.most) (counted_from c.to) c.label

-- a constraint alone: x is by b, where it counts from the origin and b isn't below 0; else at least -b after y, where b isn't above 0;
-- else by b after y
abbrev pub alone_rule : List (List ℕ) → Constraint → Rule
alone_rule names c =
    if c.from == 0 && int_le (pos 0) c.most then rule_of names c.to (By (ticks c.most)) None c.label
    else if int_le c.most (pos 0) then rule_of names c.from (least_says (counted_from c.to) (neg_ℤ c.most)) (counted_from c.to) c.label
    else rule_of names c.to (ByAfter (ticks c.most)) (Some c.from) c.label

-- the rule of a constraint, or of a pair of two
abbrev pub next_rule : List (List ℕ) → Constraint → List Constraint → Rule
next_rule names c [] = alone_rule names c
next_rule names c (d ∷ later) = if is_pair c d then pair_rule names c d else alone_rule names c

-- the rules of constraints, of which the first `skip` stand in the rule before them
unfoldable pub rules_after : List (List ℕ) → ℕ → List Constraint → List Rule
rules_after names skip [] = []
rules_after names zero (c ∷ cs) = next_rule names c cs ∷ rules_after names (if is_paired c cs then 1 else 0) cs
rules_after names (suc skip) (c ∷ cs) = rules_after names skip cs

-- ---- the text

-- the lines of the steps of the first n time-points
abbrev pub step_lines_text : Labelled → List (List ℕ) → ℕ → List ℕ
step_lines_text m names n = flat_map (λ s. line_text (step_words s)) (steps_below m names n)

-- the lines of constraints
abbrev pub rules_text : List (List ℕ) → List Constraint → List ℕ
rules_text names cs = flat_map (λ r. line_text (rule_words r)) (rules_after names 0 cs)

-- The sentences of a labelled network with these names: its deadline, its steps by number, and its constraints by id.
abbrev pub sentences : Labelled → List (List ℕ) → List ℕ
sentences m names =
    line_text (deadline_words (ticks (pos m.base.deadline))) ++ step_lines_text m names (count m.base) ++ rules_text names m.base.constraints
