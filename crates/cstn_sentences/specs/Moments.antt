-- What sentences say, in the words of moments.
use Rattle.std.specs.Prelude.{ℕ, ◌≡◌, ◌↔◌, List, Option, Some, None, ℤ, pos, ◌+ℤ◌, ◌≤ℤ◌}
use Rattle.std.specs.List.{All}
use Rattle.cstn_label.specs.Labels.{Label}
use Rattle.cstn_net.specs.Strategies.{Schedule, Meets}
use Rattle.cstn_graphml.specs.DrawnGraph.{DrawnConstraint}
use Rattle.cstn_graphml.specs.Networks.{constraint_drawn}
use Rattle.cstn_sentences.specs.declared.lines.Says.{Says}
use Rattle.cstn_sentences.specs.declared.lines.Says.TheVariants.{At, By, Between, ByAfter, Within, NotBefore, Together}
use Rattle.cstn_sentences.specs.declared.lines.Span.{Span}
use Rattle.cstn_sentences.specs.Meaning.{Moment_after, on_clock, bounds_of, constraints_of}

-- the tick of a moment in a schedule: so many ticks after its time-point
abbrev pub tick_of : Schedule → Moment_after → ℤ
tick_of at m = pos (at m.0) +ℤ m.1

-- x is at least so many ticks after the moment
abbrev pub IsAtLeast : Schedule → ℕ → Moment_after → ℤ → Type 0
IsAtLeast at x m n = (tick_of at m +ℤ n) ≤ℤ pos (at x)

-- x is at most so many ticks after the moment
abbrev pub IsAtMost : Schedule → ℕ → Moment_after → ℤ → Type 0
IsAtMost at x m n = pos (at x) ≤ℤ (tick_of at m +ℤ n)

abbrev pub IsAtMostSo : Schedule → ℕ → Moment_after → Option Span → Type 0
IsAtMostSo at x m None = Unit {0}
IsAtMostSo at x m (Some t) = IsAtMost at x m t.ticks

-- x is at a tick of the clock at tick 0, at the earliest and at the latest
abbrev pub IsNotBeforeTick : Schedule → ℕ → ℤ → Type 0
IsNotBeforeTick at x n = n ≤ℤ pos (at x)

abbrev pub IsByTick : Schedule → ℕ → ℤ → Type 0
IsByTick at x n = pos (at x) ≤ℤ n

abbrev pub IsByTickSo : Option ℤ → Schedule → ℕ → Option Span → Type 0
IsByTickSo first at x None = Unit {0}
IsByTickSo first at x (Some t) = IsByTick at x (on_clock first t)

-- What a sentence says of x in a schedule, by the moments that it counts from: at a tick or in a range of ticks; by a tick; in a range
-- after each of the moments; at most so many ticks after each, perhaps before; from each of them on within so many ticks; not before
-- each; at the tick of each.
abbrev pub IsSaid : Option ℤ → Schedule → ℕ → Says → List Moment_after → Type 0
IsSaid first at x (At r) ms = IsNotBeforeTick at x (on_clock first r.least) × IsByTickSo first at x r.most
IsSaid first at x (By t) ms = IsByTick at x (on_clock first t)
IsSaid first at x (Between r) ms = All (λ m. IsAtLeast at x m r.least.ticks × IsAtMostSo at x m r.most) ms
IsSaid first at x (ByAfter t) ms = All (λ m. IsAtMost at x m t.ticks) ms
IsSaid first at x (Within t) ms = All (λ m. (tick_of at m ≤ℤ pos (at x)) × IsAtMost at x m t.ticks) ms
IsSaid first at x NotBefore ms = All (λ m. tick_of at m ≤ℤ pos (at x)) ms
IsSaid first at x Together ms = All (λ m. pos (at x) ≡ tick_of at m) ms

-- the schedule meets each of these constraints
abbrev pub MeetsEach : Schedule → List DrawnConstraint → Type 0
MeetsEach at cs = All (λ c. Meets at (constraint_drawn c)) cs

-- what the form of a rule asks of x, counted from a moment: under any label, its constraints are met exactly where this holds
abbrev pub FormAsks : Option ℤ → Schedule → ℕ → Says → Moment_after → Type 0 → Type 0
FormAsks first at x says m holds = (label : Label) → (MeetsEach at (constraints_of x (bounds_of first says) label m) ↔ holds)
