-- The line of a text, and the numbers that are in range.
use Rattle.std.specs.Prelude.{ℕ, ◌+◌, ◌-◌, Bool, true, ◌&&◌, List, length, Option, Some, None, Result, Ok, Err, ℤ, nat_abs, int_le, nat_lt, nat_le}
use Rattle.cstn_net.specs.Limits.{most_reaction}
use Rattle.cstn_sentences.specs.Limits.{most_ticks, day}
use Rattle.cstn_sentences.specs.Results.{◌>>?◌, holds_or}
use Rattle.cstn_sentences.specs.Refusals.{PlanRefusal, wrong_word, out_of_range}
use Rattle.cstn_sentences.specs.Words.{words_of, is_of_words}
use Rattle.cstn_sentences.specs.declared.lines.Span.{Span}
use Rattle.cstn_sentences.specs.declared.lines.Range.{Range}
use Rattle.cstn_sentences.specs.declared.lines.Observed.{Observed}
use Rattle.cstn_sentences.specs.declared.lines.Says.{Says}
use Rattle.cstn_sentences.specs.declared.lines.Says.TheVariants.{At, By, Between, ByAfter, Within, NotBefore, Together}
use Rattle.cstn_sentences.specs.Lines.{PlanLine, nothing, deadline, start, step, task, rule}
use Rattle.cstn_sentences.specs.Grammar.{Words, plan_line_read}

-- a number of ticks of at most 1,000,000,000 either way
abbrev pub is_sized : ℤ → Bool
is_sized ticks = nat_le (nat_abs ticks) most_ticks

-- both ends of a range are sized
abbrev pub are_sized : ℤ → Option Span → Bool
are_sized least None = is_sized least
are_sized least (Some most) = is_sized least && is_sized most.ticks

-- the range isn't empty
abbrev pub is_in_order : ℤ → Option Span → Bool
is_in_order least None = true
is_in_order least (Some most) = int_le least most.ticks

abbrev pub is_range : Range → Bool
is_range r = are_sized r.least.ticks r.most && is_in_order r.least.ticks r.most

-- a reaction is from 1 to 1,000 ticks
abbrev pub is_timely : Option Observed → Bool
is_timely None = true
is_timely (Some o) = nat_lt 0 (nat_abs o.reaction.ticks) && nat_le (nat_abs o.reaction.ticks) most_reaction

-- the numbers of a rule; that the range behind `at` isn't empty is judged once its clocks are ticks
abbrev pub is_said : Says → Bool
is_said (At r) = are_sized r.least.ticks r.most
is_said (By t) = is_sized t.ticks
is_said (Between r) = is_range r
is_said (ByAfter t) = is_sized t.ticks
is_said (Within t) = is_sized t.ticks
is_said NotBefore = true
is_said Together = true

-- the numbers of the line are in range
abbrev pub is_line_in_range : PlanLine → Bool
is_line_in_range nothing = true
is_line_in_range (deadline t) = is_sized t.ticks
is_line_in_range (start t) = nat_lt (nat_abs t.ticks) day
is_line_in_range (step s) = is_timely s.observed
is_line_in_range (task s r) = is_range r && is_timely s.observed
is_line_in_range (rule r) = is_said r.says

-- which word, counted from 1, is the first wrong one, where so many words are left from it on
abbrev pub at_word : {A : Type 0} → ℕ → Words → Result A ℕ → Result A PlanRefusal
at_word n words (Ok line) = Ok line
at_word n words (Err left) = Err (wrong_word n (length words + 1 - left))

-- the line of a text, which is number n
abbrev pub line_of_text : ℕ → List ℕ → Result PlanLine PlanRefusal
line_of_text n text =
    holds_or (is_of_words text) (wrong_word n 0) >>? λ whole.
    at_word n (words_of text) (plan_line_read (words_of text)) >>? λ line.
    holds_or (is_line_in_range line) (out_of_range n) >>? λ numbered. Ok line
