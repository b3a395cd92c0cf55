use Rattle.std.proofs.Common.{◌≡◌, ◌↔◌, ℕ, Option, Some, None}
use Rattle.std.specs.Prelude.{option_map, option_to_list, ℤ, pos, ◌+ℤ◌}
use Rattle.cstn_label.specs.Labels.{Label}
use Rattle.cstn_net.specs.Strategies.{Schedule}
use Rattle.cstn_sentences.specs.declared.lines.Span.{Span}
use Rattle.cstn_sentences.specs.Meaning.{Moment_after, on_clock, at_least, at_most}
use Rattle.cstn_sentences.specs.Moments.{tick_of, IsAtMost, IsAtMostSo, IsByTickSo, MeetsEach}
use Rattle.cstn_sentences.proofs.MomentLemmas.{IsMet, through, both, none_met, one_met, first_met, two_met, from_it, at_it, from_zero, to_zero}
use Rattle.cstn_sentences.proofs.saying_laws.forms_say_what_they_say.Goals as goal

-- a bound that may be missing
abbrev MostAsks : Type 0
MostAsks = (at : Schedule) (x : ℕ) (m : Moment_after) (b : ℤ) (label : Label) → IsMet at (at_most x m.0 (b +ℤ m.1) label) ↔ IsAtMost at x m b

most_so : MostAsks → (at : Schedule) (x : ℕ) (m : Moment_after) (label : Label) (most : Option Span)
    → MeetsEach at (option_to_list (option_map (λ b. at_most x m.0 (b +ℤ m.1) label) (option_map (λ t. t.ticks) most))) ↔ IsAtMostSo at x m most
most_so asks at x m label None = none_met at
most_so asks at x m label (Some t) = through (one_met at (at_most x m.0 (t.ticks +ℤ m.1) label)) (asks at x m t.ticks label)

by_tick_so : MostAsks → (first : Option ℤ) (at : Schedule) (x : ℕ) (label : Label) (most : Option Span) → at 0 ≡ 0
    → MeetsEach at (option_to_list (option_map (λ b. at_most x 0 (b +ℤ pos 0) label) (option_map (on_clock first) most))) ↔ IsByTickSo first at x most
by_tick_so asks first at x label None zero = none_met at
by_tick_so asks first at x label (Some t) zero =
    through (one_met at (at_most x 0 (on_clock first t +ℤ pos 0) label))
    (through (asks at x (0, pos 0) (on_clock first t) label) (to_zero (at 0) (on_clock first t) (pos (at x)) zero))

pub returns-clause-at_ticks : goal.returns-clause-at_ticks
returns-clause-at_ticks c first at x r zero label =
    let n : ℤ = on_clock first r.least in
    through (first_met at (at_least x 0 (n +ℤ pos 0) label) (option_to_list (option_map (λ b. at_most x 0 (b +ℤ pos 0) label) (option_map (on_clock first) r.most))))
    (both (through (c.bounds_ask_what_they_say.ensures.least at x (0, pos 0) n label) (from_zero (at 0) n (pos (at x)) zero))
    (by_tick_so c.bounds_ask_what_they_say.ensures.most first at x label r.most zero))

pub returns-clause-by_tick : goal.returns-clause-by_tick
returns-clause-by_tick c first at x t zero label = by_tick_so c.bounds_ask_what_they_say.ensures.most first at x label (Some t) zero

pub returns-clause-in_range : goal.returns-clause-in_range
returns-clause-in_range c first at x r m label =
    through (first_met at (at_least x m.0 (r.least.ticks +ℤ m.1) label) (option_to_list (option_map (λ b. at_most x m.0 (b +ℤ m.1) label) (option_map (λ t. t.ticks) r.most))))
    (both (c.bounds_ask_what_they_say.ensures.least at x m r.least.ticks label) (most_so c.bounds_ask_what_they_say.ensures.most at x m label r.most))

pub returns-clause-by_after : goal.returns-clause-by_after
returns-clause-by_after c first at x t m label = most_so c.bounds_ask_what_they_say.ensures.most at x m label (Some t)

pub returns-clause-within : goal.returns-clause-within
returns-clause-within c first at x t m label =
    through (two_met at (at_least x m.0 (pos 0 +ℤ m.1) label) (at_most x m.0 (t.ticks +ℤ m.1) label))
    (both (through (c.bounds_ask_what_they_say.ensures.least at x m (pos 0) label) (from_it (tick_of at m) (pos (at x))))
    (c.bounds_ask_what_they_say.ensures.most at x m t.ticks label))

pub returns-clause-not_before : goal.returns-clause-not_before
returns-clause-not_before c first at x m label =
    through (one_met at (at_least x m.0 (pos 0 +ℤ m.1) label))
    (through (c.bounds_ask_what_they_say.ensures.least at x m (pos 0) label) (from_it (tick_of at m) (pos (at x))))

pub returns-clause-together : goal.returns-clause-together
returns-clause-together c first at x m label =
    through (two_met at (at_least x m.0 (pos 0 +ℤ m.1) label) (at_most x m.0 (pos 0 +ℤ m.1) label))
    (through (both (c.bounds_ask_what_they_say.ensures.least at x m (pos 0) label) (c.bounds_ask_what_they_say.ensures.most at x m (pos 0) label))
    (at_it (tick_of at m) (pos (at x))))
