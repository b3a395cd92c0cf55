-- The forms of lines: which line some words are, or how many of them are left where they are the beginning of none.
use Rattle.std.specs.Prelude.{ℕ, Bool, true, false, List, [], ◌∷◌, ◌++◌, length, Option, Some, None, option_map, option_and_then, Result, Ok, Err, if◌then◌else◌, codes, bytes_eq, int_le, pos, slice_index}
use Rattle.cstn_markup.specs.Bytes.{when}
use Rattle.cstn_sentences.specs.Results.{◌>>?◌, some_or, holds_or}
use Rattle.cstn_sentences.specs.Spelling.{name_spelled, is_letter_word, is_word, is_prop_word}
use Rattle.cstn_sentences.specs.Spans.{span_of_ticks, time_read, span_read, range_read}
use Rattle.cstn_sentences.specs.declared.lines.Span.{Span}
use Rattle.cstn_sentences.specs.declared.lines.Side.{Side}
use Rattle.cstn_sentences.specs.declared.lines.Side.TheVariants.{Alone, First, Last}
use Rattle.cstn_sentences.specs.declared.lines.Point.{Point}
use Rattle.cstn_sentences.specs.declared.lines.Reference.{Reference}
use Rattle.cstn_sentences.specs.declared.lines.Reference.TheVariants.{Moment, Outcome}
use Rattle.cstn_sentences.specs.declared.lines.Literal.{Literal}
use Rattle.cstn_sentences.specs.declared.lines.Observed.{Observed}
use Rattle.cstn_sentences.specs.declared.lines.Says.{Says}
use Rattle.cstn_sentences.specs.declared.lines.Says.TheVariants.{At, By, Between, ByAfter, Within, NotBefore, Together}
use Rattle.cstn_sentences.specs.declared.lines.Expects.{Expects}
use Rattle.cstn_sentences.specs.declared.lines.Expects.TheVariants.{Since, OfSide, NameOf, OfOutcome, OutcomeOf, AndOrIf, If, Asserted, Negated, And}
use Rattle.cstn_sentences.specs.Lines.{PlanStep, PlanLine, nothing, deadline, start, step, task, rule}

abbrev pub Words : Type 0
Words = List (List ℕ)

-- something that was read and the words behind it, or how many words are left from the first one on that is wrong
abbrev pub Read : Type 0 → Type 0
Read A = Result (A × Words) ℕ

abbrev pub is : List ℕ → List ℕ → Bool
is keyword word = bytes_eq word keyword

-- what the first word is read as
abbrev pub one : {A : Type 0} → (List ℕ → Option A) → Words → Read A
one read [] = Err 0
one read (word ∷ words) = some_or (option_map (λ x. (x, words)) (read word)) (length (word ∷ words))

-- the words behind this keyword
abbrev pub past_keyword : List ℕ → Words → Result Words ℕ
past_keyword keyword [] = Err 0
past_keyword keyword (word ∷ words) = if is keyword word then Ok words else Err (length (word ∷ words))

-- the first word is this keyword
abbrev pub begins_by : List ℕ → Words → Bool
begins_by keyword [] = false
begins_by keyword (word ∷ words) = is keyword word

-- no word is left
abbrev pub ended_line : {A : Type 0} → A → Words → Result A ℕ
ended_line x [] = Ok x
ended_line x (word ∷ words) = Err (length (word ∷ words))

-- ---- the rest of a rule or of a step, from `after` or `if` on

-- what was read of it, and what may follow
pub record Rest : Type 0 where
  pub since : List Reference
  pub label : List Literal
  pub expects : Expects

abbrev pub rest_begun : Expects → Rest
rest_begun expects = record { since = []; label = []; expects = expects }

abbrev pub expecting : Expects → Rest → Rest
expecting e rest = record rest { expects = e }

abbrev pub with_reference : Reference → Rest → Rest
with_reference r rest = record rest { since = rest.since ++ (r ∷ []); expects = AndOrIf }

abbrev pub with_literal_read : Bool → List ℕ → Rest → Rest
with_literal_read holds prop rest = record rest { label = rest.label ++ (record { prop = prop; holds = holds } ∷ []); expects = And }

-- one end of the step or task with the name of a word
abbrev pub with_point : Side → List ℕ → Rest → Option Rest
with_point side word rest = option_map (λ name. with_reference (Moment (record { name = name; side = side })) rest) (name_spelled word)

-- the rest after one word more; none where the word may not stand there
abbrev pub after_word : Expects → List ℕ → Rest → Option Rest
after_word Since w rest =
    if is (codes "end") w then Some (expecting (OfSide Last) rest) else
    if is (codes "start") w then Some (expecting (OfSide First) rest) else
    if is (codes "result") w then Some (expecting OfOutcome rest) else with_point Alone w rest
after_word (OfSide side) w rest = when (is (codes "of") w) (expecting (NameOf side) rest)
after_word (NameOf side) w rest = with_point side w rest
after_word OfOutcome w rest = when (is (codes "of") w) (expecting OutcomeOf rest)
after_word OutcomeOf w rest = when (is_prop_word w) (with_reference (Outcome w) rest)
after_word AndOrIf w rest =
    if is (codes "and") w then Some (expecting Since rest) else when (is (codes "if") w) (expecting Asserted rest)
after_word If w rest = when (is (codes "if") w) (expecting Asserted rest)
after_word Asserted w rest =
    if is (codes "not") w then Some (expecting Negated rest) else when (is_prop_word w) (with_literal_read true w rest)
after_word Negated w rest = when (is_prop_word w) (with_literal_read false w rest)
after_word And w rest = when (is (codes "and") w) (expecting Asserted rest)

-- the line may end there
abbrev pub may_end : Expects → Bool
may_end Since = false
may_end (OfSide side) = false
may_end (NameOf side) = false
may_end OfOutcome = false
may_end OutcomeOf = false
may_end AndOrIf = true
may_end If = true
may_end Asserted = false
may_end Negated = false
may_end And = true

-- the rest after all words
unfoldable pub rest_read : Rest → Words → Result Rest ℕ
rest_read rest [] = if may_end rest.expects then Ok rest else Err 0
rest_read rest (word ∷ words) = some_or (after_word rest.expects word rest) (length (word ∷ words)) >>? λ more. rest_read more words

-- ---- steps and tasks

-- the reaction behind `after`, 1 where none is written
abbrev pub reaction_read : Words → Read Span
reaction_read words = if begins_by (codes "after") words then past_keyword (codes "after") words >>? one time_read else Ok (span_of_ticks false 1, words)

abbrev pub letter_read : List ℕ → Option ℕ
letter_read word = when (is_letter_word word) (slice_index word 0)

-- a word with its letter behind `as`
abbrev pub word_letter_read : List ℕ → Words → Read (Option (List ℕ) × ℕ)
word_letter_read word words = past_keyword (codes "as") words >>? one letter_read >>? λ r. Ok ((Some word, r.0), r.1)

-- a letter, or a word with its letter
abbrev pub letter_or_word : List ℕ → Words → Option ℕ → Read (Option (List ℕ) × ℕ)
letter_or_word word words (Some letter) = Ok ((None, letter), words)
letter_or_word word words None = if is_word word then word_letter_read word words else Err (length (word ∷ words))

abbrev pub observed_prop_read : Words → Read (Option (List ℕ) × ℕ)
observed_prop_read [] = Err 0
observed_prop_read (word ∷ words) = letter_or_word word words (letter_read word)

-- what is observed, with the reaction behind it
abbrev pub with_reaction_read : (Option (List ℕ) × ℕ) × Words → Read (Option Observed)
with_reaction_read p = reaction_read p.1 >>? λ r. Ok (Some (record { word = p.0.0; letter = p.0.1; reaction = r.0 }), r.1)

-- what is observed behind `observes`, if that stands there
abbrev pub observed_read : Words → Read (Option Observed)
observed_read words =
    if begins_by (codes "observes") words then past_keyword (codes "observes") words >>? observed_prop_read >>? with_reaction_read else Ok (None, words)

-- a step with this name
abbrev pub step_rest_read : List ℕ → Words → Result PlanStep ℕ
step_rest_read name words =
    observed_read words >>? λ o. rest_read (rest_begun If) o.1 >>? λ rest.
    Ok (record { name = name; observed = o.0; label = rest.label })

-- ---- rules

-- a time-point behind `start of` or `end of`
abbrev pub side_read : Side → Words → Read Point
side_read side words = past_keyword (codes "of") words >>? one name_spelled >>? λ r. Ok (record { name = r.0; side = side }, r.1)

-- a rule of a time-point that says this of it, by the rest of its words
abbrev pub rule_by : Point → Says → Expects → Words → Result PlanLine ℕ
rule_by point says expects words =
    rest_read (rest_begun expects) words >>? λ rest.
    Ok (rule (record { point = point; says = says; since = rest.since; label = rest.label }))

-- `by`: a span, and then `after`, without which the span is a time
abbrev pub by_read : Point → Words → Result PlanLine ℕ
by_read point words =
    one span_read words >>? λ r.
    if begins_by (codes "after") r.1 then past_keyword (codes "after") r.1 >>? rule_by point (ByAfter r.0) Since
    else holds_or (int_le (pos 0) r.0.ticks) (length r.1) >>? λ timely. rule_by point (By r.0) If r.1

-- `at` and a range; `within` and a time; a range: and then what they count from
abbrev pub at_range_read : Point → Words → Result PlanLine ℕ
at_range_read point words = one range_read words >>? λ r. rule_by point (At r.0) If r.1

abbrev pub within_read : Point → Words → Result PlanLine ℕ
within_read point words = one time_read words >>? λ r. past_keyword (codes "after") r.1 >>? rule_by point (Within r.0) Since

abbrev pub between_read : Point → Words → Result PlanLine ℕ
between_read point words = one range_read words >>? λ r. past_keyword (codes "after") r.1 >>? rule_by point (Between r.0) Since

-- a rule of a time-point, by the words behind that
abbrev pub point_rule_read : Point → Words → Result PlanLine ℕ
point_rule_read point [] = Err 0
point_rule_read point (word ∷ words) =
    if is (codes "at") word then at_range_read point words else
    if is (codes "by") word then by_read point words else
    if is (codes "within") word then within_read point words else
    if is (codes "after") word then rule_by point NotBefore Since words else
    if is (codes "with") word then rule_by point Together Since words else between_read point (word ∷ words)

-- a rule of one end of a task, and a rule that begins with a name
abbrev pub sided_read : Side → Words → Result PlanLine ℕ
sided_read side words = side_read side words >>? λ r. point_rule_read r.0 r.1

abbrev pub named_rule : Words → Result PlanLine ℕ
named_rule words = one name_spelled words >>? λ r. point_rule_read (record { name = r.0; side = Alone }) r.1

-- ---- lines

-- a time of the clock
abbrev pub clock_read : List ℕ → Option Span
clock_read word = option_and_then (λ t. when t.clock t) (time_read word)

abbrev pub deadline_read : Words → Result PlanLine ℕ
deadline_read words = one time_read words >>? λ r. ended_line (deadline r.0) r.1

-- `start of` and a rule, or `start` and a time of the clock
abbrev pub start_line_read : Words → Result PlanLine ℕ
start_line_read words =
    if begins_by (codes "of") words then sided_read First words else (one clock_read words >>? λ r. ended_line (start r.0) r.1)

abbrev pub named_step : Words → Result PlanLine ℕ
named_step words = one name_spelled words >>? λ r. step_rest_read r.0 r.1 >>? λ s. Ok (step s)

-- a task: its name, its length, and then as for a step
abbrev pub task_read : Words → Result PlanLine ℕ
task_read words = one name_spelled words >>? λ r. one range_read r.1 >>? λ l. step_rest_read r.0 l.1 >>? λ s. Ok (task s l.0)

-- the line of these words
abbrev pub plan_line_read : Words → Result PlanLine ℕ
plan_line_read [] = Ok nothing
plan_line_read (word ∷ words) =
    if is (codes "deadline") word then deadline_read words else
    if is (codes "start") word then start_line_read words else
    if is (codes "step") word then named_step words else
    if is (codes "task") word then task_read words else
    if is (codes "end") word then sided_read Last words else named_rule (word ∷ words)
